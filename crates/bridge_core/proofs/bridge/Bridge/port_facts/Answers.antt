use Rattle.std.proofs.Common.{arith}
use Rattle.std.proofs.lemmas.Bool.Decides.{nat_tests}
use Rattle.bridge_core.specs.Facts.{port_facts_of}
use Rattle.bridge_core.proofs.bridge.Bridge.port_facts.Goals as goal

pub returns-clause-facts : goal.returns-clause-facts
unfolding port_facts_of
returns-clause-facts c = rw (c.is_point_to_point.ensures, c.get-2.ensures.value, c.cost_in_use.ensures, c.get.ensures.value, c.is_on.ensures, c.facts-held.ensures, c.number.ensures.value, c.deref.ensures.0, c.config-config.ensures, ← c.self.view_is)

pub returns-clause-cost_most : goal.returns-clause-cost_most
returns-clause-cost_most c = grind (arith, nat_tests, c.cost_in_use.ensures, c.get.ensures.in_range)
