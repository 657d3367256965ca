use Rattle.std.proofs.Common.{◌≡◌, map, take}
use Rattle.udp_agent.proofs.binding.peers_of.Given as goal

-- the peers of the ports so far
abbrev pub invariant-loop-port : goal.invariant-loop-port
invariant-loop-port l = l.peers.items ≡ map (λ port. port.peer) (take l.port-index l.ports)
