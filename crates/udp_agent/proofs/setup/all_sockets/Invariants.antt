use Rattle.std.proofs.Common.{◌≡◌, Some, length, map, take}
use Rattle.std.specs.List.{All}
use Rattle.udp_agent.specs.Setups.{HasSockets}
use Rattle.udp_agent.proofs.setup.all_sockets.Given as goal

-- the sockets of the ports so far, one for each
abbrev pub invariant-loop-port : goal.invariant-loop-port
invariant-loop-port l = record {
  listen_at : map (λ port. port.listen) (take l.port-index l.ports) ≡ map (λ one. Some one.listen) l.all.items;
  send_to : map (λ port. port.peer) (take l.port-index l.ports) ≡ map (λ one. Some one.peer) l.all.items;
  sockets : All HasSockets (take l.port-index l.ports);
  count : length l.all.items ≡ l.port-index;
}
