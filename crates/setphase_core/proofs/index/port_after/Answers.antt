use Rattle.std.proofs.Common.{◌∙◌, ap, Some, List, ℕ, arith}
use Rattle.std.specs.Option.{option_copied}
use Rattle.setphase_core.proofs.Indexes.{port_after_is, port_after_none}
use Rattle.setphase_core.proofs.index.port_after.Goals as goal

pub returns-clause-found : goal.returns-clause-found
returns-clause-found c = λ f. ap (λ (xs : List ℕ). Some xs) c.write_number.ensures ∙ port_after_is c.args.ports f (option_copied c.args.after) _ c.first_number-last.ensures (omega (arith, c.if-last-ports.false))

pub returns-then-last-ports-clause-found : goal.returns-then-last-ports-clause-found
returns-then-last-ports-clause-found c = λ f. port_after_none c.args.ports f (option_copied c.args.after) _ c.first_number-last.ensures c.if-last-ports.true
