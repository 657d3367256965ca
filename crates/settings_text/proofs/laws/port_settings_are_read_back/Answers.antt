use Rattle.std.proofs.Common.{arith, length}
use Rattle.settings_text.proofs.PortsBack.{rows_back, ports_back}
use Rattle.settings_text.proofs.laws.port_settings_are_read_back.Goals as goal

pub returns-clause-rows : goal.returns-clause-rows
returns-clause-rows c = λ count ports few all. rows_back count 0 0 1 ports (omega arith) (omega (arith, few)) all

pub returns-clause-ports : goal.returns-clause-ports
returns-clause-ports c = λ ports. ports_back 0 ports
