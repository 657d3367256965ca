-- Whether settings are changed.
use Rattle.std.proofs.Common.{◌≡◌, ◌∙◌, Bool, true, false, not, ◌&&◌, IsTrue, ◌↔◌, IfSome, unwrap_or, List, ap, sym, refl, inl, inr}
use Rattle.std.proofs.lemmas.Bool.{cases_Bool}
use Rattle.rstp_settings.specs.Table.{Table}
use Rattle.setphase_core.specs.declared.world.World.{World}
use Rattle.community_core.specs.Communities.{PolicyTables}
use Rattle.setphase_core.specs.Settings.{families_of, same_settings, same_settings_of}
use Rattle.setphase_core.specs.declared.sets.SetOutcome.{SetOutcome}
use Rattle.setphase_core.specs.declared.sets.SetOutcome.TheVariants.{Done, Refused, CommitFailed, UndoFailed}
use Rattle.setphase_core.specs.Outcomes.{refusal_in, notes_in, changed_in, world_after_set}
use Rattle.setphase_core.specs.Variables.{NamedAssignment}
use Rattle.setphase_core.proofs.FamilyPuts.{marks}
use Rattle.setphase_core.proofs.Kept.{stuck_keeps_rows, stuck_keeps_policy}
use Rattle.setphase_core.proofs.Same.{same_settings-Decides, others-Decides, same_of-Decides}
use Rattle.agent_core.specs.Sets.{settled, settled_bpdus, settled_world, settling_bpdus}

-- what a test of the settings says
pub same_is : (before now : Table) (b : Bool) → (IsTrue b ↔ (now ≡ before)) → not b ≡ not (same_settings before now)
same_is before now true h = ap not (sym ((same_settings-Decides before now).1 (sym (h.0 refl))))
same_is before now false h =
    elim (cases_Bool (same_settings before now)) [
      | inl e ↦ cc (h.1 (sym ((same_settings-Decides before now).0 e)))
      | inr e ↦ ap not (sym e)
    ]

-- where the static rows and the families are the same, the settings are where those of the bridge are
by_settings : (a b : Bool) → b ≡ true → not a ≡ not (a && b)
by_settings true true e = refl
by_settings true false e = absurd cc
by_settings false b e = refl

-- what a Set that ended so changed
pub changed_is : (outcome : SetOutcome) (ws : List NamedAssignment) (before after : World) (b : Bool)
    → after ≡ world_after_set (refusal_in outcome) ws before (notes_in outcome)
    → IfSome (changed_in outcome) (λ changed. changed ≡ not (same_settings_of before after))
    → b ≡ unwrap_or (changed_in outcome) (not (same_settings before.bridge.settings after.bridge.settings))
    → b ≡ not (same_settings_of before after)
changed_is (Done changed) ws before after b world reported e = e ∙ reported
changed_is (Refused refusal) ws before after b world reported e = e ∙ reported
changed_is (CommitFailed i) ws before after b world reported e = e ∙ reported
changed_is (UndoFailed i keys) ws before after b world reported e =
    let rows = sym (ap (λ (x : World). x.bridge.statics.rows) world ∙ stuck_keeps_rows ws i keys before) in
    let families = sym (ap (λ (x : World). marks (families_of x)) world ∙ ap (λ (p : PolicyTables). marks p.vacm.families) (stuck_keeps_policy ws i keys before)) in
    e ∙ by_settings (same_settings before.bridge.settings after.bridge.settings) _ ((others-Decides before after).1 (rows, families))

-- what is settled by that
pub settled_is : (before after later : World) (b : Bool) → b ≡ not (same_settings_of before after) → later ≡ settled b after → later ≡ settled_world before after
unfolding settled_world
settled_is before after later b e h = h ∙ ap (λ (c : Bool). settled c after) e

pub settled_bpdus_is : (before after : World) (b : Bool) → b ≡ not (same_settings_of before after) → settled_bpdus b after ≡ settling_bpdus before after
unfolding settling_bpdus
settled_bpdus_is before after b e = ap (λ (c : Bool). settled_bpdus c after) e

-- a world whose settings are those of before
pub unsettled : (w : World) → settled_world w w ≡ w
unfolding settled_world
unsettled w = ap (λ (c : Bool). settled (not c) w) ((same_of-Decides w w).1 (refl, (refl, refl)))
