use Rattle.std.proofs.Common.{ℕ, ◌<◌, IsSome, slice_index_or}
use Rattle.std.specs.BTreeMap.{get}
use Rattle.std.specs.declared.net.socket_addr.SocketAddr.{SocketAddr}
use Rattle.std.specs.contracts.net.socket_addr.SocketAddrOrd.TheImpl.{ghosts}
use Rattle.std.specs.declared.cmp.Ord.Ghosts.{cmp}
use denote.Param.{read}
use Rattle.wire_core.proofs.sockets.SendingSockets.bind.Given as goal

-- each peer so far has a socket
abbrev pub invariant-loop-peer : goal.invariant-loop-peer
invariant-loop-peer g l = (k : ℕ) (d : SocketAddr) → k < l.peer-index
    → IsSome (get (read (cmp {X-1 = SocketAddr}) ghosts) l.by_peer (slice_index_or l.peers k d))
