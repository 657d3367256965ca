use Rattle.fdb_core.proofs.PortBits.{ports_again, octets_again}
use Rattle.fdb_core.proofs.laws.sets_of_ports_are_read_as_they_were_written.Goals as goal

pub returns-clause-ports : goal.returns-clause-ports
returns-clause-ports c = λ count s most of. ports_again count s most of

pub returns-clause-octets : goal.returns-clause-octets
returns-clause-octets c = λ count octets most long small. octets_again octets small count most long
