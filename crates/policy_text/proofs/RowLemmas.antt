-- A reading of rows, as it goes on.
use Rattle.std.proofs.Common.{◌≡◌, ℕ, ◌+◌, ◌<◌, List, [], ◌∷◌, ◌++◌, length, map, take, get_or, Option, Some, sym, ap, subst, ◌∙◌, arith}
use Rattle.std.proofs.lemmas.List.{take_more, get_or-map, length-map}
use Rattle.toml.specs.Data.{Data}
use Rattle.toml.specs.View.{view}
use Rattle.toml.specs.declared.value.Value.{Value}
use Rattle.policy_text.specs.Reading.{AreRows}

push : {R : Type 0} (says : Data → Option R → Type 0) (ds : List Data) (rows : List R) (d : Data) (row : R) → AreRows says ds rows → says d (Some row) → AreRows says (ds ++ d ∷ []) (rows ++ row ∷ [])
push says [] [] d row h s = (s, tt)
push says [] (r ∷ rows) d row h s = absurd h
push says (e ∷ ds) [] d row h s = absurd h
push says (e ∷ ds) (r ∷ rows) d row h s = (h.0, push says ds rows d row h.1 s)

pub rows_more : {R : Type 0} (says : Data → Option R → Type 0) (ds : List Data) (i : ℕ) (d : Data) (rows after : List R) (row : R) → i < length ds → AreRows says (take i ds) rows → says (get_or ds i d) (Some row) → after ≡ rows ++ row ∷ [] → AreRows says (take (i + 1) ds) after
rows_more {R} says ds i d rows after row within so_far stated pushed =
    subst (λ (l : List Data). AreRows says l after) (sym (take_more ds i d within))
    (subst (λ (l : List R). AreRows says (take i ds ++ get_or ds i d ∷ []) l) (sym pushed) (push says (take i ds) rows (get_or ds i d) row so_far stated))

-- one more value of an array, as a loop reads it
pub rows_step : {R : Type 0} (says : Data → Option R → Type 0) (values items : List Value) (n : ℕ) (value : Value) (rows after : List R) (o : Option R) (row : R) → items ≡ values → value ≡ get_or items n value → n < length items → AreRows says (take n (map view values)) rows → says (view value) o → o ≡ Some row → after ≡ rows ++ row ∷ [] → AreRows says (take (n + 1) (map view values)) after
rows_step {R} says values items n value rows after o row same is within so_far stated some pushed =
    let within_values : n < length values = omega (arith, ap length same) in
    let here : value ≡ get_or values n value = is ∙ ap (λ (l : List Value). get_or l n value) same in
    let at : view value ≡ get_or (map view values) n (view value) = ap view here ∙ sym (get_or-map view values n value (view value) within_values) in
    rows_more says (map view values) n (view value) rows after row (omega (arith, length-map values view)) so_far
    (subst (λ (d : Data). says d (Some row)) at (subst (λ (p : Option R). says (view value) p) some stated)) pushed
