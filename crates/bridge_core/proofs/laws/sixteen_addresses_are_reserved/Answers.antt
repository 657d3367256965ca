use Rattle.bridge_core.proofs.Reserved.{reserved_octets, octets_reserved}
use Rattle.bridge_core.proofs.laws.sixteen_addresses_are_reserved.Goals as goal

pub returns : goal.returns
returns c = λ a six. (reserved_octets a.0 six, octets_reserved a.0)
