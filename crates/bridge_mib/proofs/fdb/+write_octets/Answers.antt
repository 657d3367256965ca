use Rattle.std.proofs.Common.{length, ap}
use Rattle.bridge_mib.proofs.Addresses.{none_is_empty, none_is_greater, none_is_more}
use Rattle.bridge_mib.proofs.fdb.+write_octets.Goals as goal

pub returns-in_default-split_first-clause-none : goal.returns-in_default-split_first-clause-none
returns-in_default-split_first-clause-none t c = λ e. none_is_empty _ _ _ (ap length c.in-Some.ensures.cases.0) c.in_default-split_first.ensures.cases

pub returns-then-number-gt255-clause-none : goal.returns-then-number-gt255-clause-none
returns-then-number-gt255-clause-none t c = λ e. none_is_greater _ 0 _ _ _ c.in-Some-split_first.ensures.cases.0 c.if-number-gt255.true

pub returns-clause-none : goal.returns-clause-none
returns-clause-none t c = λ e. none_is_more _ _ _ _ _ (ap length c.in-Some.ensures.cases.0) c.in-Some-split_first.ensures.cases.0 (c.write_octets.ensures.none e)
