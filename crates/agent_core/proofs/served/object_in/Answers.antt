use Rattle.std.proofs.Common.{◌≡◌, ◌∙◌, ap, sym, Some}
use Rattle.std.specs.Option.{option_copied}
use Rattle.setphase_core.specs.Registry.{rows_of, owner_of}
use Rattle.agent_core.proofs.Owners.{owner_sized}
use Rattle.agent_core.proofs.served.object_in.Goals as goal

pub object_name-requires-clause-some : goal.object_name-requires-clause-some
object_name-requires-clause-some g c =
    let found : owner_of (rows_of c.args.registry.now) c.as_slice.result.now ≡ Some c.in-Some.prefix.now = sym c.owner.ensures ∙ ap option_copied c.in-Some.is in
    (owner_sized (rows_of c.args.registry.now) c.as_slice.result.now c.in-Some.prefix.now c.known.ensures.named found).some

pub object_name-requires-clause-most : goal.object_name-requires-clause-most
object_name-requires-clause-most g c =
    let found : owner_of (rows_of c.args.registry.now) c.as_slice.result.now ≡ Some c.in-Some.prefix.now = sym c.owner.ensures ∙ ap option_copied c.in-Some.is in
    (owner_sized (rows_of c.args.registry.now) c.as_slice.result.now c.in-Some.prefix.now c.known.ensures.named found).most
