use Rattle.std.proofs.Common.{◌≡◌, ◌++◌, ◌+◌, drop}
use Rattle.agent_core.specs.Denying.{denials}
use Rattle.agent_core.proofs.denying.denials.Given as goal

-- what is reported so far, and what is to be reported of the bindings that are left, is all
abbrev pub invariant-loop-n : goal.invariant-loop-n
invariant-loop-n l = l.denied ++ denials l.vacm.families l.view (l.n + 1) (drop l.n l.bindings) ≡ denials l.vacm.families l.view 1 l.bindings
