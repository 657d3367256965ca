use Rattle.std.proofs.Common.{◌++◌, ap, List, rules}
use Rattle.audit_core.specs.declared.denied.Denied.{Denied}
use Rattle.agent_core.specs.Denying.{denials}
use Rattle.agent_core.proofs.Denials.{denials_next, denials_end}
use Rattle.agent_core.proofs.denying.denials.Goals as goal

pub loop-n-init : goal.loop-n-init
loop-n-init c = ap (λ (l : List Denied). l ++ denials c.args.vacm.now.families c.args.view.now 1 c.args.bindings.now) c.new-denied.ensures

pub loop-n-preserved : goal.loop-n-preserved
loop-n-preserved c =
    denials_next c.args.vacm.now.families c.args.view.now c.loop-n.denied c.deny.new.denied _ c.loop-n.n c.args.bindings.now c.index-bindings-n.result
    (search rules) (search rules) c.loop-n.invariant (search rules)

pub returns : goal.returns
returns c = denials_end c.args.vacm.now.families c.args.view.now c.loop-n.denied _ c.loop-n.n c.args.bindings.now (search rules) c.loop-n.invariant
