-- What a Set that is answered can report.
use Rattle.std.proofs.Common.{◌≡◌, ◌∙◌, ℕ, ◌≤◌, Bool, true, false, List, [], ◌∷◌, length, map, Option, Some, None, IfSome, ap, refl, sym, subst, arith}
use Rattle.std.proofs.lemmas.Bool.{ltb-false}
use Rattle.message_core.specs.declared.request.Kind.{Kind}
use Rattle.message_core.specs.declared.request.Kind.TheVariants.{Get, GetNext, GetBulk, Set}
use Rattle.message_core.specs.declared.request.Request.{Request}
use Rattle.message_core.proofs.Smallest.{reply_some}
use Rattle.rstp_settings.specs.declared.key.Key.{Key}
use Rattle.decision.specs.Deciding.{decision_on}
use Rattle.decision.specs.declared.choice.Decision.{Decision}
use Rattle.decision.specs.declared.choice.Decision.TheVariants.{Drop, Empty, Refused, Allowed}
use Rattle.vacm_core.specs.Families.{NamesFamilyOf}
use Rattle.vacm_core.specs.declared.tables.FamilyRow.{FamilyRow}
use Rattle.setphase_core.specs.declared.sets.SetRefusal.{SetRefusal}
use Rattle.setphase_core.specs.declared.sets.SetOutcome.{SetOutcome}
use Rattle.setphase_core.specs.declared.sets.SetOutcome.TheVariants as ended
use Rattle.setphase_core.specs.declared.world.World.{World}
use Rattle.setphase_core.specs.Objects.{ObjectRow, ObjectState, object_after_release}
use Rattle.setphase_core.specs.Settings.{bridge_keys}
use Rattle.setphase_core.specs.Variables.{NamedAssignment}
use Rattle.setphase_core.specs.Outcomes.{SetNotes, CanFail, refusal_in, notes_in, world_after_set}
use Rattle.setphase_core.specs.Calls.{calls_of, object_after_set}
use Rattle.agent_core.specs.Sets.{greatest_index, longest_response, is_too_long, no_notes, IsDenied, MayFail, MayFailWhere}
use Rattle.agent_core.specs.Answers.{MayHave, MayFailBy, MayFailInView, RequestNotes}
use Rattle.agent_core.proofs.FewFit.{total_some}

-- ---- how many variables there are

few_variables : (request : Request) → is_too_long request ≡ false → length request.bindings ≤ greatest_index
few_variables request fits =
    omega (arith, ltb-false _ _ fits, reply_some (longest_response request), total_some request.bindings)

pub index_within : (request : Request) (refusal : Option SetRefusal) → is_too_long request ≡ false
    → IfSome refusal (λ r. (1 ≤ r.index) × (r.index ≤ length request.bindings))
    → IfSome refusal (λ r. r.index ≤ greatest_index)
index_within request None fits h = tt
index_within request (Some r) fits h = omega (arith, h.1, few_variables request fits)

pub number_within : (request : Request) (number : Option ℕ) → is_too_long request ≡ false
    → IfSome number (λ n. (1 ≤ n) × (n ≤ length request.bindings))
    → IfSome number (λ n. n ≤ greatest_index)
number_within request None fits h = tt
number_within request (Some n) fits h = omega (arith, h.1, few_variables request fits)

-- ---- a Set that is denied

pub denied_world : (outcome : SetOutcome) (ws : List NamedAssignment) (w : World) → IsDenied (refusal_in outcome)
    → world_after_set (refusal_in outcome) ws w (notes_in outcome) ≡ w
denied_world (ended.Done changed) ws w h = absurd h
denied_world (ended.Refused refusal) ws w h = refl
denied_world (ended.CommitFailed i) ws w h = absurd h
denied_world (ended.UndoFailed i keys) ws w h = absurd h

released_each : (objects : List ObjectState) → map (object_after_set []) objects ≡ map object_after_release objects
released_each [] = refl
released_each (o ∷ os) = ap (λ (xs : List ObjectState). object_after_release o ∷ xs) (released_each os)

pub denied_objects : (outcome : SetOutcome) (ws : List NamedAssignment) (objects : List ObjectState) → IsDenied (refusal_in outcome)
    → map (object_after_set (calls_of (refusal_in outcome) ws (notes_in outcome))) objects ≡ map object_after_release objects
denied_objects (ended.Done changed) ws objects h = absurd h
denied_objects (ended.Refused refusal) ws objects h = released_each objects
denied_objects (ended.CommitFailed i) ws objects h = absurd h
denied_objects (ended.UndoFailed i keys) ws objects h = absurd h

-- ---- a Set that is refused

-- A refusal leaves the world, so also the families.
pub families_kept : (outcome : SetOutcome) (ws : List NamedAssignment) (w after : World) → after ≡ world_after_set (refusal_in outcome) ws w (notes_in outcome)
    → IfSome (refusal_in outcome) (λ r. after.policy.vacm.families ≡ w.policy.vacm.families)
families_kept (ended.Refused refusal) ws w after e = ap (λ (x : World). x.policy.vacm.families) e
families_kept (ended.Done changed) ws w after e = tt
families_kept (ended.CommitFailed i) ws w after e = tt
families_kept (ended.UndoFailed i keys) ws w after e = tt

pub names_kept : (refusal : Option SetRefusal) (families kept : List FamilyRow) → IfSome refusal (λ r. kept ≡ families)
    → IfSome refusal (λ r. IfSome r.family (λ answer. NamesFamilyOf families answer))
    → IfSome refusal (λ r. IfSome r.family (λ answer. NamesFamilyOf kept answer))
names_kept None families kept e h = tt
names_kept (Some r) families kept e h = subst (λ (rows : List FamilyRow). IfSome r.family (λ answer. NamesFamilyOf rows answer)) (sym e) h

pub families_are : (refusal : Option SetRefusal) (families after kept : List FamilyRow) → families ≡ after → IfSome refusal (λ r. after ≡ kept) → IfSome refusal (λ r. families ≡ kept)
families_are None families after kept same h = tt
families_are (Some r) families after kept same h = same ∙ h

-- ---- notes

same_notes : (notes : SetNotes) → notes.commit ≡ None → notes.undos ≡ [] → notes ≡ no_notes
same_notes notes e f i = record { commit = e i; undos = f i }

none_listed : (keys : List Key) → bridge_keys keys ≡ [] → keys ≡ []
none_listed [] e = refl
none_listed (key ∷ keys) e = absurd (cc)

none_unrefused : (ws : List NamedAssignment) (refusal : Option SetRefusal) (notes : SetNotes) → MayFail refusal ws notes → notes.commit ≡ None → notes ≡ no_notes
none_unrefused ws (Some refusal) notes h e = h
none_unrefused ws None notes h e =
    same_notes notes e (none_listed notes.undos (subst (λ (commit : Option ℕ). CanFail ws commit (bridge_keys notes.undos)) e h))

none_tested : (too_long : Bool) (refusal : Option SetRefusal) (ws : List NamedAssignment) (notes : SetNotes) → MayFailWhere too_long refusal ws notes → notes.commit ≡ None → notes ≡ no_notes
none_tested true refusal ws notes h e = h
none_tested false refusal ws notes h e = none_unrefused ws refusal notes h e

none_in_view : (rows : List ObjectRow) (w : World) (view : List ℕ) (request : Request) (notes : SetNotes) (kind : Kind) → MayFailInView rows w view request notes kind → notes.commit ≡ None → notes ≡ no_notes
none_in_view rows w view request notes Get h e = h
none_in_view rows w view request notes GetNext h e = h
none_in_view rows w view request notes GetBulk h e = h
none_in_view rows w view request notes Set h e = none_tested (is_too_long request) _ _ notes h e

none_by : (rows : List ObjectRow) (w : World) (request : Request) (notes : RequestNotes) (decision : Decision) → MayFailBy rows w request notes decision → notes.devices.commit ≡ None → notes.devices ≡ no_notes
none_by rows w request notes (Drop cause) h e = ap (λ n. n.devices) h
none_by rows w request notes Empty h e = ap (λ n. n.devices) h
none_by rows w request notes (Refused why) h e = ap (λ n. n.devices) h
none_by rows w request notes (Allowed row view) h e = none_in_view rows w view request notes.devices request.kind h.devices e

-- where no commit failed, no device did
pub none_failed : (rows : List ObjectRow) (w : World) (request : Request) (notes : RequestNotes) → MayHave rows w request notes → notes.devices.commit ≡ None → notes.devices ≡ no_notes
unfolding MayHave
none_failed rows w request notes h e = none_by rows w request notes (decision_on w.policy request) h e

-- the notes of the run of a Set are those that it may have
pub may_fail : (outcome : SetOutcome) (request : Request) (refusal : Option SetRefusal) (ws : List NamedAssignment) → is_too_long request ≡ false → refusal_in outcome ≡ refusal
    → CanFail ws (notes_in outcome).commit (bridge_keys (notes_in outcome).undos) → MayFailWhere (is_too_long request) refusal ws (notes_in outcome)
may_fail outcome request refusal ws fits e h = subst (λ (b : Bool). MayFailWhere b refusal ws (notes_in outcome)) (sym fits) (by outcome refusal e h)
  where
    by : (o : SetOutcome) (r : Option SetRefusal) → refusal_in o ≡ r → CanFail ws (notes_in o).commit (bridge_keys (notes_in o).undos) → MayFail r ws (notes_in o)
    by (ended.Done changed) None e h = h
    by (ended.Done changed) (Some refusal) e h = cc e
    by (ended.Refused refusal) None e h = cc e
    by (ended.Refused refusal) (Some other) e h = refl
    by (ended.CommitFailed i) None e h = h
    by (ended.CommitFailed i) (Some refusal) e h = cc e
    by (ended.UndoFailed i keys) None e h = h
    by (ended.UndoFailed i keys) (Some refusal) e h = cc e
