use Rattle.std.proofs.Common.{sym, subst, rules}
use Rattle.setphase_core.specs.Objects.{reservation_of}
use Rattle.bridge_mib.specs.Line.{AreEnables}
use Rattle.bridge_mib.proofs.Enables.{enables_set, enable_at}
use Rattle.bridge_mib.proofs.port_enable.PortEnableMibObject.commit.Goals as goal

pub call_driver-requires : goal.call_driver-requires
call_driver-requires g c =
    enable_at c.self.inside.slots c.args.slot.place (reservation_of c.args.slot c.requires.reserved.old) c.self.invariant (search rules)

pub invariant_of-self-2 : goal.invariant_of-self-2
invariant_of-self-2 g c =
    subst AreEnables (sym c.commit.ensures.kept)
    (enables_set c.self.inside.slots c.args.slot.place _ c.self.invariant (enable_at c.self.inside.slots c.args.slot.place (reservation_of c.args.slot c.requires.reserved.old) c.self.invariant (search rules)))
