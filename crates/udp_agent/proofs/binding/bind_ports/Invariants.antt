use Rattle.std.proofs.Common.{◌≡◌, ◌≤◌, length, vec_capacity}
use Rattle.udp_agent.proofs.binding.bind_ports.Given as goal

-- a wire for each port so far, and the memory for all
abbrev pub invariant-loop-place : goal.invariant-loop-place
invariant-loop-place g l = record {
  count : length l.wires.items ≡ l.place;
  space : length l.ports ≤ vec_capacity l.wires;
}
