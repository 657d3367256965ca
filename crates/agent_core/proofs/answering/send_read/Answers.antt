use Rattle.std.proofs.Common.{◌≡◌, ◌∙◌, [], true, ap, sym, rules, ℕ, List, IfOk, subst}
use Rattle.message_core.specs.declared.request.Kind.TheVariants.{Get}
use Rattle.setphase_core.specs.Registry.{rows_of, prefixes_of, instances}
use Rattle.setphase_core.specs.Passing.{open_instances}
use Rattle.agent_core.specs.Answers.{IsSentRead}
use Rattle.agent_core.specs.Denying.{denied_in}
use Rattle.agent_core.specs.Lacking.{LacksNameOf}
use Rattle.agent_core.specs.Replies.{kind_reply}
use Rattle.agent_core.specs.declared.sent_reply.ReadReply.{ReadReply}
use Rattle.agent_core.proofs.Passed.{reply_open, lacks_open}
use Rattle.agent_core.proofs.ReadReplies.{read_more}
use Rattle.agent_core.proofs.Undenied.{undenied, unnamed_no}
use Rattle.vacm_core.specs.Families.{in_view}
use Rattle.vacm_core.specs.Hiding.{hides_all}
use Rattle.vacm_core.specs.Tables.{Tables}
use Rattle.vacm_core.specs.declared.tables.FamilyRow.{FamilyRow}
use Rattle.agent_core.proofs.answering.send_read.Goals as goal

-- a Get of which no name is denied is answered as where every name is seen
pub returns-then-is_empty-clause-sent : goal.returns-then-is_empty-clause-sent
returns-then-is_empty-clause-sent g c =
    let families = c.args.world.now.policy.vacm.families in
    let rows = rows_of c.args.registry.now in
    let request = c.args.request.now in
    let get : request.kind ≡ Get = search rules in
    let none : denied_in families c.args.view.now request request.kind ≡ [] =
    sym c.requires.denied ∙ c.is_empty.ensures.0 c.if-is_empty.true in
    read_more request c.send_kind.result c.send_kind.new.buffer.reply
    (undenied families c.args.view.now (prefixes_of rows) (instances rows c.args.world.now) request request.kind get none)
    (λ i. unnamed_no (λ name. true) (in_view families c.args.view.now) (instances rows c.args.world.now) request request.kind i get)
    c.send_kind.ensures.sent

-- objects that the view hides whole are passed over
pub returns-clause-sent : goal.returns-clause-sent
returns-clause-sent g c =
    let world = c.args.world.now in
    let rows = rows_of c.args.registry.now in
    let request = c.args.request.now in
    let view = c.args.view.now in
    let over : List FamilyRow → List ℕ → Type 0 = λ (families : List FamilyRow) (name : List ℕ). IfOk c.send_kind-2.result (λ (read : ReadReply).
    IsSentRead (kind_reply (prefixes_of rows) (in_view families name) (open_instances (hides_all families name) rows world) request request.kind) request
    (LacksNameOf (in_view families name) (open_instances (hides_all families name) rows world) request request.kind) read c.send_kind-2.new.buffer.reply) in
    let tables : c.of-view.result.families ≡ world.policy.vacm.families = c.of-view.ensures.families ∙ ap (λ (t : Tables). t.families) c.vacm.ensures in
    read_more request c.send_kind-2.result c.send_kind-2.new.buffer.reply
    (reply_open world.policy.vacm.families view rows world request request.kind)
    (lacks_open world.policy.vacm.families view rows world request request.kind)
    (subst (λ (name : List ℕ). over world.policy.vacm.families name) c.of-view.ensures.view
    (subst (λ (families : List FamilyRow). over families c.of-view.result.view) tables c.send_kind-2.ensures.sent))
