use Rattle.std.proofs.Common.{◌≡◌, length, take}
use Rattle.agent_program.specs.Agents.{configs_of}
use Rattle.agent_program.proofs.opening.port_configs.Given as goal

-- the ports so far
abbrev pub invariant-loop-port : goal.invariant-loop-port
invariant-loop-port l = record {
  so_far : l.configs.items ≡ configs_of (take l.port-index l.ports);
  count : length l.configs.items ≡ l.port-index;
}
