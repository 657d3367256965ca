use Rattle.std.proofs.Common.{arith}
use Rattle.message_core.specs.Canon.{canon_binding}
use Rattle.message_core.proofs.Kept.{behind}
use Rattle.message_core.proofs.encoded.write_behind.Goals as goal

pub returns-clause-written : goal.returns-clause-written
returns-clause-written c =
    behind c.write_front.result c.args.len c.args.most c.args.octets.now c.write_front.new.space
    (canon_binding (record { name = c.args.name.now; value = c.args.value.now })) c.requires.within (omega (arith, c.requires.most)) c.write_front.auto.space c.write_front.ensures
