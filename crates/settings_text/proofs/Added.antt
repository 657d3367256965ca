-- Rows that are added behind others.
use Rattle.std.proofs.Common.{◌≡◌, ℕ, ◌+◌, Bool, true, false, List, [], ◌∷◌, ◌++◌, map, refl, sym, ap, ◌∙◌, append_assoc, append-nil}
use Rattle.std.proofs.lemmas.List.{map-append}
use Rattle.rstp_settings.specs.declared.key.PortValues.{PortValues}
use Rattle.toml.specs.Data.{Data}
use Rattle.toml.specs.View.{view}
use Rattle.toml.specs.declared.value.Value.{Value}
use Rattle.settings_text.specs.Writing.{is_changed, changed_from, port_data}
use Rattle.settings_text.specs.declared.port_row.PortRow.{PortRow}

-- one more, and those behind it
pub added_one : (old : List Value) (v : Value) (d : Data) (rest new : List Data) → view v ≡ d → new ≡ map view (old ++ v ∷ []) ++ rest → new ≡ map view old ++ d ∷ rest
added_one old v d rest new seen is =
    is ∙ (ap (λ (xs : List Data). xs ++ rest) (map-append view old (v ∷ [])) ∙ (append_assoc (map view old) (view v ∷ []) rest ∙ ap (λ e. map view old ++ e ∷ rest) seen))

pub added_none : (old : List Value) → map view old ≡ map view old ++ []
added_none old = sym (append-nil (map view old))

pub changed_more : (n : ℕ) (values : PortValues) (others : List PortValues) → is_changed (record { number = n; values = values }) ≡ true
    → map port_data (changed_from n (values ∷ others)) ≡ port_data (record { number = n; values = values }) ∷ map port_data (changed_from (n + 1) others)
changed_more n values others changed = rw changed refl

pub same_more : (n : ℕ) (values : PortValues) (others : List PortValues) → is_changed (record { number = n; values = values }) ≡ false
    → map port_data (changed_from n (values ∷ others)) ≡ map port_data (changed_from (n + 1) others)
same_more n values others same = rw same refl
