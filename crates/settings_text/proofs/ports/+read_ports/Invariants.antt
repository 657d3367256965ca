use Rattle.std.proofs.Common.{length}
use Rattle.settings_text.proofs.ports.+read_ports.Given as goal

abbrev pub decreases-read_ports : goal.decreases-read_ports
decreases-read_ports l = length l.values.now
