use Rattle.std.proofs.Common.{ap, ◌∙◌}
use Rattle.rstp_core.specs.declared.facts.BridgeFacts.{BridgeFacts}
use Rattle.rstp_rules.specs.Vectors.{port_number}
use Rattle.bridge_core.specs.Facts.{facts_of}
use Rattle.bridge_core.proofs.bridge.Bridge.facts.Goals as goal

pub returns : goal.returns
unfolding facts_of
returns c =
    let tree = c.bridge_facts-tree.ensures in
    let root_port = c.root_port.ensures ∙ ap (λ (f : BridgeFacts). port_number f.root.receiver) tree in
    rw (← c.self.view_is) (λ i. record {
      address = c.address.ensures i;
      ports = c.ports.ensures.count i;
      root = (tree i).root.vector.root;
      root_cost = (tree i).root.vector.cost;
      root_port = root_port i;
      times = (tree i).times;
      topology_changes = (tree i).topology_changes;
      since = (tree i).since;
      entry_discards = c.self.inside.entry_discards;
    })
