use Rattle.std.proofs.Common.{length}
use Rattle.settings_text.proofs.writing.+add_ports.Given as goal

abbrev pub decreases-add_ports : goal.decreases-add_ports
decreases-add_ports l = length l.ports.now
