use Rattle.std.proofs.Common.{arith, inl, inr}
use Rattle.setphase_core.proofs.Indexes.{at_one, at_other, at_none}
use Rattle.setphase_core.proofs.index.port_at.Goals as goal

pub returns-in-len1-clause-value : goal.returns-in-len1-clause-value
returns-in-len1-clause-value c = λ f.
    at_one c.args.ports c.args.at.now f (omega (arith, c.in-len1.len_at_least, c.in-len1.len_below)) (omega (arith, c.if-n-ge1.true)) (omega (arith, c.if-n-ports.true))

pub returns-in_default-clause-value : goal.returns-in_default-clause-value
returns-in_default-clause-value c = λ f. at_none c.args.ports c.args.at.now f (λ e. omega (arith, c.in_default.len_below, e))

pub returns-in_default-2-clause-value : goal.returns-in_default-2-clause-value
returns-in_default-2-clause-value c = λ f.
    at_other c.args.ports c.args.at.now f (omega (arith, c.in-len1.len_at_least, c.in-len1.len_below)) (inr (omega (arith, c.if-n-ports.false)))

pub returns-in_default-3-clause-value : goal.returns-in_default-3-clause-value
returns-in_default-3-clause-value c = λ f.
    at_other c.args.ports c.args.at.now f (omega (arith, c.in-len1.len_at_least, c.in-len1.len_below)) (inl (omega (arith, c.if-n-ge1.false)))

pub returns-in_default-4-clause-value : goal.returns-in_default-4-clause-value
returns-in_default-4-clause-value c = λ f. at_none c.args.ports c.args.at.now f (λ e. omega (arith, c.in_default.len_at_least, e))
