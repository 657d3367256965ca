-- A reading of ports, as it stops.
use Rattle.std.proofs.Common.{◌≡◌, ℕ, ◌<◌, ◌≤◌, Bool, true, false, ◌&&◌, leb, List, length, map, get_or, Option, Some, None, option_map, option_and_then, refl, sym, ap, ◌∙◌, arith, inl, inr, ◌⊎◌}
use Rattle.std.specs.List.{slice_get, list_all}
use Rattle.std.proofs.lemmas.Bool.{le-leb, lt-leb, and_right}
use Rattle.std.proofs.lemmas.List.{length-map}
use Rattle.std.proofs.lemmas.List.Folds.{list_all-map}
use Rattle.std.proofs.lemmas.Option.{slice_get-map, slice_get-get_or}
use Rattle.rstp_settings.specs.declared.settings.TheConstants.{MAX_PORTS}
use Rattle.toml.specs.Data.{Data}
use Rattle.toml.specs.View.{view}
use Rattle.toml.specs.declared.value.Value.{Value}
use Rattle.configuration.specs.Ports.{is_table, if_tables}

-- the value of an array at which a loop stands
pub value_here : (values items : List Value) (n : ℕ) (value : Value) → items ≡ values → value ≡ get_or items n value → n < length items → slice_get (map view values) n ≡ Some (view value)
value_here values items n value same is within =
    let within_values : n < length values = omega (arith, ap length same) in
    let here : get_or values n value ≡ value = sym (is ∙ ap (λ (t : List Value). get_or t n value) same) in
    slice_get-map view values n ∙ ap (option_map view) (slice_get-get_or values n value within_values) ∙ ap (λ (v : Value). Some (view v)) here

and_false : (b : Bool) → (b && false) ≡ false
and_false b = and_right b false refl

tables_seen : (vs : List Value) → list_all is_table (map view vs) ≡ list_all (λ v. is_table (view v)) vs
tables_seen vs = list_all-map is_table view vs

-- an array that is one of 1 to 32 tables
pub tables_kept : (vs : List Value) (o : Option (List Data)) → Some (map view vs) ≡ o → 1 ≤ length vs → length vs ≤ MAX_PORTS → list_all (λ v. is_table (view v)) vs ≡ true
    → Some (map view vs) ≡ option_and_then if_tables o
tables_kept vs o is some few all =
    rw (← is, length-map vs view, le-leb 1 (length vs) some, le-leb (length vs) MAX_PORTS few, tables_seen vs, all) refl

-- one that is not
pub tables_refused : (vs : List Value) (o : Option (List Data)) → Some (map view vs) ≡ o → (length vs ≡ 0) ⊎ (MAX_PORTS < length vs) ⊎ (list_all (λ v. is_table (view v)) vs ≡ false)
    → None ≡ option_and_then if_tables o
tables_refused vs o is (inl none) = rw (← is, length-map vs view, none) refl
tables_refused vs o is (inr (inl many)) =
    rw (← is, length-map vs view, lt-leb (length vs) MAX_PORTS many, and_false (leb 1 (length vs))) refl
tables_refused vs o is (inr (inr other)) =
    rw (← is, length-map vs view, tables_seen vs, other, and_false (leb 1 (length vs) && leb (length vs) MAX_PORTS)) refl
