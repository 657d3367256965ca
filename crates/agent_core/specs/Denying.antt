-- The bindings of a request whose names are not in the view.
use Rattle.std.specs.Prelude.{ℕ, ◌+◌, false, List, [], ◌∷◌, ◌++◌, slice_index_or, Option, Some, None}
use Rattle.message_core.specs.declared.binding.Binding.{Binding}
use Rattle.message_core.specs.declared.request.Kind.{Kind}
use Rattle.message_core.specs.declared.request.Kind.TheVariants.{Get, GetNext, Set, GetBulk}
use Rattle.message_core.specs.declared.request.Request.{Request}
use Rattle.vacm_core.specs.declared.tables.FamilyRow.{FamilyRow}
use Rattle.vacm_core.specs.declared.verdict.FamilyAnswer.{FamilyAnswer}
use Rattle.vacm_core.specs.declared.verdict.FamilyAnswer.TheVariants.{Included, Excluded, NoRow}
use Rattle.vacm_core.specs.Families.{family_answer}
use Rattle.audit_core.specs.Keys.{family_key}
use Rattle.audit_core.specs.declared.denied.Denied.{Denied}

-- read where there is no row
abbrev pub no_family_row : FamilyRow
no_family_row = record { view = []; subtree = []; mask = []; included = false }

-- what is reported of binding i, by the answer on its name: nothing where it is in the view, else the
-- family that excludes it, if one does
abbrev pub denial : List FamilyRow → ℕ → FamilyAnswer → List Denied
denial families i (Included n) = []
denial families i (Excluded n) =
    record { index = i; family = Some (family_key (slice_index_or families n no_family_row)) } ∷ []
denial families i NoRow = record { index = i; family = None } ∷ []

-- what is reported of bindings, the first of which has number i
abbrev pub denials : List FamilyRow → List ℕ → ℕ → List Binding → List Denied
denials families view i [] = []
denials families view i (b ∷ bs) =
    denial families i (family_answer families view b.name) ++ denials families view (i + 1) bs

-- The variable of this number of a Set, where its name is not in the view.
abbrev pub denied_variable : List FamilyRow → ℕ → Option FamilyAnswer → List Denied
denied_variable families i None = []
denied_variable families i (Some answer) = denial families i answer

-- A Get reports each binding that is not in the view. GetNext and GetBulk pass over what they may not
-- see. What is reported of a Set is stated in Sets.
abbrev pub denied_in : List FamilyRow → List ℕ → Request → Kind → List Denied
denied_in families view request Get = denials families view 1 request.bindings
denied_in families view request GetNext = []
denied_in families view request GetBulk = []
denied_in families view request Set = []
