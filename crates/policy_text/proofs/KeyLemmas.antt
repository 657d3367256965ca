-- A table beside the members that it stands for.
use Rattle.std.proofs.Common.{◌≡◌, suc, List, [], ◌∷◌, length, map, String, Global, Bor, Vec, Option, Some, None, option_map, refl, ap, sym}
use Rattle.toml.specs.Data.{Data}
use Rattle.toml.specs.View.{view, members_view, items_of, array_view}
use Rattle.toml.specs.declared.value.Value.{Value}
use Rattle.policy_text.specs.Keys.{key_count, list_of}

pub key_count-view : (es : List (String Global × Value)) → key_count (members_view es) ≡ length es
key_count-view [] = refl
key_count-view (e ∷ es) = ap suc (key_count-view es)

pub list_of-items : (ds : List Data) → list_of (items_of ds) ≡ ds
list_of-items [] = refl
list_of-items (d ∷ ds) = ap (λ l. d ∷ l) (list_of-items ds)

-- the data of an array, as a list
pub array_list : (r : Option (Bor (Vec Value Global))) → option_map (λ v. map view v.now.items) r ≡ option_map list_of (option_map (λ v. array_view v.now) r)
array_list None = refl
array_list (Some v) = ap (λ l. Some l) (sym (list_of-items (map view v.now.items)))
