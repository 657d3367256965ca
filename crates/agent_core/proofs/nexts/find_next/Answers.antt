use Rattle.std.proofs.Common.{◌≡◌, Bool, true, false, cond, List, Some, None, sym, subst}
use Rattle.message_core.specs.declared.binding.Binding.{Binding}
use Rattle.message_core.specs.Encodable.{IsEncodableBinding}
use Rattle.message_core.specs.Instances.{next_of}
use Rattle.agent_core.specs.Reading.{visible, next_answer}
use Rattle.agent_core.proofs.Encodings.{next_answer_encodable}
use Rattle.agent_core.proofs.Rest.{answer_found}
use Rattle.agent_core.proofs.nexts.find_next.Goals as goal

pub returns-then-branch-clause-answer : goal.returns-then-branch-clause-answer
returns-then-branch-clause-answer g c =
    let rows : List Binding = visible (g.S.View.shows c.args.source.now) (g.S.Successors.instances c.args.source.now) in
    let row : Binding = g.S.Successors.at c.args.source.now c.next_shown.new.spot in
    answer_found rows c.args.name.now true row (subst (λ (found : Bool). cond found (Some row) None ≡ next_of rows c.args.name.now) c.if-branch.true c.in_ok-next_shown.ensures.found)

pub returns-then-branch-clause-encodable : goal.returns-then-branch-clause-encodable
returns-then-branch-clause-encodable g c = λ root.
    let rows : List Binding = visible (g.S.View.shows c.args.source.now) (g.S.Successors.instances c.args.source.now) in
    let row : Binding = g.S.Successors.at c.args.source.now c.next_shown.new.spot in
    let answer : row ≡ next_answer rows c.args.name.now =
    answer_found rows c.args.name.now true row (subst (λ (found : Bool). cond found (Some row) None ≡ next_of rows c.args.name.now) c.if-branch.true c.in_ok-next_shown.ensures.found) in
    subst IsEncodableBinding (sym answer) (next_answer_encodable (g.S.View.shows c.args.source.now) (g.S.Successors.instances c.args.source.now) c.args.name.now c.known.ensures.encodable root)

pub returns-clause-answer : goal.returns-clause-answer
returns-clause-answer g c =
    let rows : List Binding = visible (g.S.View.shows c.args.source.now) (g.S.Successors.instances c.args.source.now) in
    let row : Binding = g.S.Successors.at c.args.source.now c.next_shown.new.spot in
    answer_found rows c.args.name.now false row (subst (λ (found : Bool). cond found (Some row) None ≡ next_of rows c.args.name.now) c.if-branch.false c.in_ok-next_shown.ensures.found)
