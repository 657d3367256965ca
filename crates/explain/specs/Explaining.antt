-- The text of the decision on a request: the verdict in the words of an audit, and where the
-- request is allowed, whether each of its names is in the view, and by which family (RFC 3415,
-- section 3.2, and vacmViewTreeFamilyTable in section 4).
use Rattle.std.specs.Prelude.{ℕ, codes, if◌then◌else◌, List, [], ◌++◌, slice_get, Option, None, option_map}
use Rattle.std.specs.List.{flat_map}
use Rattle.oid_core.specs.Text.{dotted_text}
use Rattle.message_core.specs.declared.binding.Binding.{Binding}
use Rattle.message_core.specs.declared.request.Request.{Request}
use Rattle.vacm_core.specs.declared.tables.FamilyRow.{FamilyRow}
use Rattle.vacm_core.specs.declared.verdict.FamilyAnswer.{FamilyAnswer}
use Rattle.vacm_core.specs.declared.verdict.FamilyAnswer.TheVariants.{Included, Excluded, NoRow}
use Rattle.vacm_core.specs.Families.{family_answer, is_included}
use Rattle.community_core.specs.Communities.{PolicyTables}
use Rattle.decision.specs.Deciding.{decision_on}
use Rattle.decision.specs.declared.choice.Decision.{Decision}
use Rattle.decision.specs.declared.choice.Decision.TheVariants.{Drop, Empty, Refused, Allowed}
use Rattle.decision.specs.declared.keys.AccessKey.{AccessKey}
use Rattle.audit_core.specs.declared.keys.FamilyKey.{FamilyKey}
use Rattle.audit_core.specs.Keys.{family_key}
use Rattle.audit_core.specs.Text.{access_text, cause_text, refusal_text, deciding_text}

-- by which row a request is allowed, and in which view: as an audit writes it
unfoldable pub allowed_text : AccessKey → List ℕ → List ℕ
allowed_text row view = codes "ok " ++ access_text row ++ codes " view " ++ view

-- a decision in the words of an audit, without the PDU type and the reply's status
abbrev pub verdict_text : Decision → List ℕ
verdict_text (Drop cause) = codes "drop " ++ cause_text cause
verdict_text Empty = codes "empty"
verdict_text (Refused why) = refusal_text why
verdict_text (Allowed row view) = allowed_text row view

-- the family row that an answer names, if it names one
abbrev pub row_of : List FamilyRow → FamilyAnswer → Option FamilyRow
row_of families (Included n) = slice_get families n
row_of families (Excluded n) = slice_get families n
row_of families NoRow = None

-- whether an answer says that a name is in the view
abbrev pub standing_text : FamilyAnswer → List ℕ
standing_text answer = if is_included answer then codes "in" else codes "out"

-- a name, whether it is in the view, and the family that decides, if one does
abbrev pub line_text : List ℕ → List ℕ → List ℕ → Option FamilyKey → List ℕ
line_text name standing view family =
    dotted_text name ++ codes " " ++ standing ++ codes " of view " ++ view ++ codes " by "
    ++ deciding_text family

-- the same by an answer of the view
abbrev pub answer_line : List FamilyRow → List ℕ → List ℕ → FamilyAnswer → List ℕ
answer_line families view name answer =
    line_text name (standing_text answer) view (option_map family_key (row_of families answer)) ++ codes "\n"

-- the line of a name
abbrev pub name_line : List FamilyRow → List ℕ → List ℕ → List ℕ
name_line families view name = answer_line families view name (family_answer families view name)

abbrev pub variable_line : List FamilyRow → List ℕ → Binding → List ℕ
variable_line families view b = name_line families view b.name

-- the lines of the names, where there is a view
abbrev pub names_text : List FamilyRow → List Binding → Decision → List ℕ
names_text families bindings (Allowed row view) = flat_map (variable_line families view) bindings
names_text families bindings (Drop cause) = []
names_text families bindings Empty = []
names_text families bindings (Refused why) = []

abbrev pub decision_text : List FamilyRow → List Binding → Decision → List ℕ
decision_text families bindings decision =
    verdict_text decision ++ codes "\n" ++ names_text families bindings decision

-- The text of the decision on a request.
unfoldable pub explanation : PolicyTables → Request → List ℕ
explanation policy request =
    decision_text policy.vacm.families request.bindings (decision_on policy request)
