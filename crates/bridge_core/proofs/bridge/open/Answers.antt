use Rattle.bridge_core.specs.Opening.{opening_bridge}
use Rattle.bridge_core.proofs.bridge.open.Goals as goal

pub returns-clause-opened : goal.returns-clause-opened
unfolding opening_bridge
returns-clause-opened c = rw (c.new-tree.ensures.tree, c.copied.ensures, c.new.ensures, c.new-2.ensures, c.new-3.ensures, c.zero_counters.ensures)
