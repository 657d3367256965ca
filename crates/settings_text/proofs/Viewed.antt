-- Tests of the values of an array, beside those of what they stand for.
use Rattle.std.proofs.Common.{◌≡◌, ℕ, Bool, true, false, List, [], ◌∷◌, ◌||◌, map, Option, Some, Result, Ok, Err, refl, sym, ap}
use Rattle.std.specs.List.{list_any, list_all}
use Rattle.std.specs.Option.{ok_or}
use Rattle.std.proofs.lemmas.List.Folds.{list_all-map}
use Rattle.fdb_core.specs.declared.port_set.PortSet.{PortSet}
use Rattle.toml.specs.Data.{Data}
use Rattle.toml.specs.View.{view}
use Rattle.toml.specs.declared.value.Value.{Value}
use Rattle.policy_text.specs.Reading.{◌>=>◌}
use Rattle.settings_text.specs.StaticRows.{listed_port, is_listed, set_of_listed, if_listed}
use Rattle.settings_text.specs.declared.fault.StaticRowKey.TheVariants.{Ports}

pub all_viewed : (test : Data → Bool) (vs : List Value) → list_all (λ v. test (view v)) vs ≡ list_all test (map view vs)
all_viewed test vs = sym (list_all-map test view vs)

pub any_viewed : (test : Data → Bool) (vs : List Value) → list_any (λ v. test (view v)) vs ≡ list_any test (map view vs)
any_viewed test [] = refl
any_viewed test (v ∷ vs) = ap (λ b. test (view v) || b) (any_viewed test vs)

pub listed_ports : (count : ℕ) (items slice again : List Value) (o : Option (List Data)) (set : PortSet) → Some (map view items) ≡ o → slice ≡ items → again ≡ items
    → list_all (λ d. is_listed (listed_port count d)) (map view slice) ≡ true → set ≡ set_of_listed count (map view again) → Ok set ≡ ok_or (o >=> if_listed count) Ports
listed_ports count items slice again o set is s a all eq = rw (← is, eq, a, ← s, all) refl

pub unlisted_ports : (count : ℕ) (items slice : List Value) (o : Option (List Data)) → Some (map view items) ≡ o → slice ≡ items
    → list_all (λ d. is_listed (listed_port count d)) (map view slice) ≡ false → Err Ports ≡ ok_or {T = PortSet} (o >=> if_listed count) Ports
unlisted_ports count items slice o is s all = rw (← is, ← s, all) refl
