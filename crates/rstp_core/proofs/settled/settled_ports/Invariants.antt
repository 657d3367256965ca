use Rattle.std.proofs.Common.{◌≡◌, ◌≤◌, take, map, length}
use Rattle.rstp_rules.specs.Lines.{settled_port_of}
use Rattle.rstp_core.proofs.settled.settled_ports.Given as goal

abbrev pub invariant-loop-i : goal.invariant-loop-i
invariant-loop-i l = record {
  ports : l.ports.items ≡ map settled_port_of (take l.i l.settings.ports);
  few : length l.ports.items ≤ l.i;
}
