-- Denied bindings, one after another.
use Rattle.std.proofs.Common.{◌≡◌, ◌∙◌, ℕ, ◌+◌, ◌<◌, List, ◌∷◌, ◌++◌, length, drop, get_or, ap, sym, append_assoc, append-nil, ◌≤◌}
use Rattle.std.proofs.lemmas.List.{drop_more, drop_all}
use Rattle.message_core.specs.declared.binding.Binding.{Binding}
use Rattle.vacm_core.specs.declared.tables.FamilyRow.{FamilyRow}
use Rattle.vacm_core.specs.Families.{family_answer}
use Rattle.audit_core.specs.declared.denied.Denied.{Denied}
use Rattle.agent_core.specs.Denying.{denial, denials}

-- the next binding
pub denials_next : (families : List FamilyRow) (view : List ℕ) (reported next all : List Denied) (n : ℕ) (bs : List Binding) (b : Binding) → n < length bs → get_or bs n b ≡ b →
    reported ++ denials families view (n + 1) (drop n bs) ≡ all → next ≡ reported ++ denial families (n + 1) (family_answer families view b.name) →
    next ++ denials families view (n + 1 + 1) (drop (n + 1) bs) ≡ all
denials_next families view reported next all n bs b within is before more =
    let here : List Denied = denial families (n + 1) (family_answer families view b.name) in
    let rest : List Denied = denials families view (n + 1 + 1) (drop (n + 1) bs) in
    ap (λ (l : List Denied). l ++ rest) more
    ∙ append_assoc reported here rest
    ∙ sym (ap (λ (l : List Binding). reported ++ denials families view (n + 1) l) (drop_more bs n b within ∙ ap (λ (x : Binding). x ∷ drop (n + 1) bs) is))
    ∙ before

-- none is left
pub denials_end : (families : List FamilyRow) (view : List ℕ) (reported all : List Denied) (n : ℕ) (bs : List Binding) → length bs ≤ n →
    reported ++ denials families view (n + 1) (drop n bs) ≡ all → reported ≡ all
denials_end families view reported all n bs past is =
    sym (append-nil reported) ∙ sym (ap (λ (l : List Binding). reported ++ denials families view (n + 1) l) (drop_all n bs past)) ∙ is
