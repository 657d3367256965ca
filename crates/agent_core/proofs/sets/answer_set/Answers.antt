use Rattle.std.proofs.Common.{◌≡◌, ◌∙◌, ℕ, ◌≤◌, [], List, length, map, Option, None, IfSome, unwrap_or, not, FitsSigned, w32, rules, ap, sym, subst}
use Rattle.std.proofs.lemmas.Int.{to_z-of_z}
use Rattle.message_core.specs.Canon.{answer_to}
use Rattle.message_core.specs.declared.binding.Binding.{Binding}
use Rattle.message_core.specs.declared.request.Request.{Request}
use Rattle.vacm_core.specs.Tables.{Tables}
use Rattle.audit_core.specs.declared.denied.Denied.{Denied}
use Rattle.rstp_settings.specs.Table.{Table}
use Rattle.rstp_settings.specs.declared.key.Key.{Key}
use Rattle.setphase_core.specs.declared.sets.SetOutcome.{SetOutcome}
use Rattle.setphase_core.specs.declared.world.World.{World}
use Rattle.setphase_core.specs.Objects.{ObjectRow, ObjectState}
use Rattle.setphase_core.specs.Registry.{rows_of}
use Rattle.setphase_core.specs.Settings.{same_settings, same_settings_of}
use Rattle.setphase_core.specs.Variables.{writings}
use Rattle.setphase_core.specs.Together.{refusal_of}
use Rattle.setphase_core.specs.Outcomes.{SetNotes, AreNotes, refusal_in, notes_in, changed_in, world_after_set}
use Rattle.setphase_core.proofs.States.{on_err_always}
use Rattle.setphase_core.specs.Calls.{calls_of, object_after_set, FollowPlans}
use Rattle.agent_core.specs.Replies.{reply_within_limit}
use Rattle.agent_core.specs.Sets.{MayFailInSet, TakesPlaces}
use Rattle.agent_core.specs.Answers.{IsSent}
use Rattle.agent_core.specs.declared.answered.Answered.{Answered}
use Rattle.agent_core.specs.declared.answered.Answered.TheVariants as answered
use Rattle.agent_core.specs.declared.sent_reply.SentReply.{SentReply}
use Rattle.agent_core.specs.declared.sets.SetReported.{SetReported}
use Rattle.agent_core.proofs.SetProofs.{index_within, number_within, may_fail, families_kept, names_kept, families_are}
use Rattle.agent_core.proofs.Changed.{changed_is, settled_is, settled_bpdus_is}
use Rattle.agent_core.proofs.SetSteps.{reported_audit, too_long_done, too_long_plans, fitting_plans, set_done, notes_reported_of, short_set, short_audit}
use Rattle.agent_core.proofs.sets.answer_set.Goals as goal

pub returns-then-is_too_long-clause-done : goal.returns-then-is_too_long-clause-done
returns-then-is_too_long-clause-done g c =
    let request : Request = c.args.request.now in
    let sent : SentReply = c.put_too_long-sent.result in
    let reported_as : List Denied → List Key → Option ℕ → Answered =
    λ (denied : List Denied) (keys : List Key) (failed : Option ℕ). answered.Reply sent.length (reported_audit request c.args.row c.args.view sent denied keys) failed in
    too_long_done c.args.registry.now c.args.world.now request c.args.row c.args.view sent c.reported.result c.put_too_long-sent.new.self
    (sym c.is_too_long.ensures.too_long ∙ c.if-is_too_long.true) c.put_too_long-sent.ensures.sent
    (c.put_too_long-sent.ensures.bpdus ∙ c.is_too_long.ensures.bpdus ∙ c.requires.silent)
    (c.reported.ensures ∙ ap (λ (a : SetReported). reported_as a.denied a.unrestored a.failed) c.plain_answer-none.ensures ∙ ap (λ (keys : List Key). reported_as [] keys None) c.new.ensures)

pub set_answer-requires-clause-refused : goal.set_answer-requires-clause-refused
set_answer-requires-clause-refused g c =
    index_within c.args.request.now (refusal_in c.in_ok-outcome.outcome) (sym c.is_too_long.ensures.too_long ∙ c.if-is_too_long.false)
    (subst (λ (bs : List Binding). IfSome (refusal_in c.in_ok-outcome.outcome) (λ r. (1 ≤ r.index) × (r.index ≤ length bs))) c.as_slice-bindings.ensures c.in_ok-outcome.ensures.refused_index)

pub set_answer-requires-clause-failed : goal.set_answer-requires-clause-failed
set_answer-requires-clause-failed g c =
    number_within c.args.request.now (notes_in c.in_ok-outcome.outcome).commit (sym c.is_too_long.ensures.too_long ∙ c.if-is_too_long.false)
    (subst (λ (bs : List Binding). IfSome (notes_in c.in_ok-outcome.outcome).commit (λ n. (1 ≤ n) × (n ≤ length bs))) c.as_slice-bindings.ensures c.in_ok-outcome.ensures.failed_index)

pub set_answer-requires-clause-family : goal.set_answer-requires-clause-family
set_answer-requires-clause-family g c =
    let outcome : SetOutcome = c.in_ok-outcome.outcome in
    let world : World = c.args.world.now in
    let after : World = c.run_set.new.world in
    names_kept (refusal_in outcome) world.policy.vacm.families c.vacm.result.now.families
    (families_are (refusal_in outcome) c.vacm.result.now.families after.policy.vacm.families world.policy.vacm.families (ap (λ (t : Tables). t.families) c.vacm.ensures)
    (families_kept outcome (writings (rows_of c.args.registry.now) world c.as_slice-bindings.result.now) world after c.in_ok-outcome.ensures.world))
    c.in_ok-outcome.ensures.family

pub returns-clause-may : goal.returns-clause-may
returns-clause-may g c =
    let request : Request = c.args.request.now in
    let world : World = c.args.world.now in
    let rows : List ObjectRow = rows_of c.args.registry.now in
    let outcome : SetOutcome = c.in_ok-outcome.outcome in
    let refusal : refusal_in outcome ≡ refusal_of rows world c.args.view request.bindings =
    subst (λ (bs : List Binding). refusal_in outcome ≡ refusal_of rows world c.args.view bs) c.as_slice-bindings.ensures c.in_ok-outcome.ensures.refusal in
    let notes : AreNotes (writings rows world request.bindings) (notes_in outcome) =
    subst (λ (bs : List Binding). AreNotes (writings rows world bs) (notes_in outcome)) c.as_slice-bindings.ensures c.in_ok-outcome.ensures.notes in
    subst (λ (ns : SetNotes). MayFailInSet rows world c.args.view request ns)
    (sym (notes_reported_of c.vacm.result.now.families outcome c.in_ok-answer.answer c.reported-2.result request c.args.row c.args.view c.put-sent.result c.in_ok-answer.ensures.reported c.reported-2.ensures))
    (may_fail outcome request (refusal_of rows world c.args.view request.bindings) (writings rows world request.bindings)
    (sym c.is_too_long.ensures.too_long ∙ c.if-is_too_long.false) refusal notes)

pub returns-clause-done : goal.returns-clause-done
returns-clause-done g c =
    let request : Request = c.args.request.now in
    let world : World = c.args.world.now in
    let objects : List ObjectState = c.args.registry.now in
    let rows : List ObjectRow = rows_of objects in
    let outcome : SetOutcome = c.in_ok-outcome.outcome in
    let after : World = c.run_set.new.world in
    let answer : SetReported = c.in_ok-answer.answer in
    let same = c.as_slice-bindings.ensures in
    let refusal : refusal_in outcome ≡ refusal_of rows world c.args.view request.bindings =
    subst (λ (bs : List Binding). refusal_in outcome ≡ refusal_of rows world c.args.view bs) same c.in_ok-outcome.ensures.refusal in
    let after_is : after ≡ world_after_set (refusal_in outcome) (writings rows world request.bindings) world (notes_in outcome) =
    subst (λ (bs : List Binding). after ≡ world_after_set (refusal_in outcome) (writings rows world bs) world (notes_in outcome)) same c.in_ok-outcome.ensures.world in
    let objects_are : c.run_set.new.registry ≡ map (object_after_set (calls_of (refusal_in outcome) (writings rows world request.bindings) (notes_in outcome))) objects =
    subst (λ (bs : List Binding). c.run_set.new.registry ≡ map (object_after_set (calls_of (refusal_in outcome) (writings rows world bs) (notes_in outcome))) objects) same c.in_ok-outcome.ensures.objects in
    let changed : c.changed-changed.result ≡ not (same_settings_of world after) =
    changed_is outcome (writings rows world request.bindings) world after c.changed-changed.result after_is c.in_ok-outcome.ensures.changed
    (c.changed-changed.ensures ∙ ap (λ (t : Table). unwrap_or (changed_in outcome) (not (same_settings t after.bridge.settings))) c.copied_settings-before.ensures) in
    let index_fits : FitsSigned w32 answer.index = search rules in
    let put : IsSent (reply_within_limit (answer_to request answer.status answer.index request.bindings)) c.put-sent.result c.put-sent.new.self.reply =
    subst (λ (bs : List Binding). IsSent (reply_within_limit (answer_to request answer.status answer.index bs)) c.put-sent.result c.put-sent.new.self.reply) same (rw (to_z-of_z w32 answer.index index_fits) at c.put-sent.ensures.sent) in
    set_done objects world request c.args.row c.args.view outcome answer c.put-sent.result c.put-sent.new.self after c.settle.new.world c.run_set.new.registry
    c.reported-2.result c.vacm.result.now.families
    (sym c.is_too_long.ensures.too_long ∙ c.if-is_too_long.false) refusal after_is
    (families_are (refusal_in outcome) c.vacm.result.now.families after.policy.vacm.families world.policy.vacm.families (ap (λ (t : Tables). t.families) c.vacm.ensures)
    (families_kept outcome (writings rows world request.bindings) world after after_is))
    c.in_ok-answer.ensures.reported
    (settled_is world after c.settle.new.world c.changed-changed.result changed c.settle.ensures.world)
    (c.put-sent.ensures.bpdus ∙ c.settle.ensures.bpdus ∙ settled_bpdus_is world after c.changed-changed.result changed)
    put objects_are c.reported-2.ensures

pub returns-then-is_too_long-clause-by_plan : goal.returns-then-is_too_long-clause-by_plan
returns-then-is_too_long-clause-by_plan g c =
    too_long_plans c.args.registry.now c.args.world.now c.args.view c.args.request.now _ (sym c.is_too_long.ensures.too_long ∙ c.if-is_too_long.true)

pub returns-clause-by_plan : goal.returns-clause-by_plan
returns-clause-by_plan g c =
    let request : Request = c.args.request.now in
    let world : World = c.args.world.now in
    let objects : List ObjectState = c.args.registry.now in
    let rows : List ObjectRow = rows_of objects in
    let outcome : SetOutcome = c.in_ok-outcome.outcome in
    let same = c.as_slice-bindings.ensures in
    let refusal : refusal_in outcome ≡ refusal_of rows world c.args.view request.bindings =
    subst (λ (bs : List Binding). refusal_in outcome ≡ refusal_of rows world c.args.view bs) same c.in_ok-outcome.ensures.refusal in
    let by_plan : FollowPlans (calls_of (refusal_in outcome) (writings rows world request.bindings) (notes_in outcome)) objects =
    subst (λ (bs : List Binding). FollowPlans (calls_of (refusal_in outcome) (writings rows world bs) (notes_in outcome)) objects) same c.in_ok-outcome.ensures.by_plan in
    fitting_plans objects world c.args.view request (notes_in outcome) _ (sym c.is_too_long.ensures.too_long ∙ c.if-is_too_long.false)
    (notes_reported_of c.vacm.result.now.families outcome c.in_ok-answer.answer c.reported-2.result request c.args.row c.args.view c.put-sent.result c.in_ok-answer.ensures.reported c.reported-2.ensures)
    (subst (λ r. FollowPlans (calls_of r (writings rows world request.bindings) (notes_in outcome)) objects) refusal by_plan)

pub returns-in_err-outcome-clause-takes : goal.returns-in_err-outcome-clause-takes
returns-in_err-outcome-clause-takes g c =
    let request : Request = c.args.request.now in
    let rows : List ObjectRow = rows_of c.args.registry.now in
    on_err_always c.from_residual.result (short_set rows c.args.world.now c.args.view request (sym c.is_too_long.ensures.too_long ∙ c.if-is_too_long.false)
    (subst (λ (bs : List Binding). refusal_of rows c.args.world.now c.args.view bs ≡ None) c.as_slice-bindings.ensures c.in_err-outcome.ensures.accepted)
    (subst (λ (bs : List Binding). TakesPlaces c.args.world.now (writings rows c.args.world.now bs)) c.as_slice-bindings.ensures
    (record { some = c.in_err-outcome.ensures.writes_static; lacks = c.in_err-outcome.ensures.lacks })))

pub returns-in_err-answer-clause-takes : goal.returns-in_err-answer-clause-takes
returns-in_err-answer-clause-takes g c =
    let request : Request = c.args.request.now in
    let rows : List ObjectRow = rows_of c.args.registry.now in
    let outcome : SetOutcome = c.in_ok-outcome.outcome in
    on_err_always c.from_residual-in_err-answer.result (short_audit rows c.args.world.now c.args.view request (refusal_in outcome) (sym c.is_too_long.ensures.too_long ∙ c.if-is_too_long.false)
    (subst (λ (bs : List Binding). refusal_in outcome ≡ refusal_of rows c.args.world.now c.args.view bs) c.as_slice-bindings.ensures c.in_ok-outcome.ensures.refusal)
    c.in_err-answer.ensures.takes)
