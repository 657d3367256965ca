use Rattle.std.proofs.Common.{arith}
use Rattle.std.specs.declared.net.socket_addr.SocketAddr.{SocketAddr}
use Rattle.std.specs.contracts.net.socket_addr.SocketAddrOrd.TheImpl.{ghosts}
use Rattle.std.specs.declared.cmp.Ord.Ghosts.{cmp}
use denote.Param.{read}
use Rattle.wire_core.proofs.Entered.{entered}
use Rattle.wire_core.proofs.sockets.SendingSockets.bind.Goals as goal

pub loop-peer-preserved : goal.loop-peer-preserved
loop-peer-preserved g c = λ k d lt.
    entered (read (cmp {X-1 = SocketAddr}) ghosts) c.loop-peer.by_peer c.insert.new.self c.args.peers.now c.loop-peer.peer-index k d _ c.in_ok-bind_for.field-0
    c.in_ok-insert.ensures.updates (omega (arith, c.loop-peer-test.true)) c.loop-peer.invariant lt

pub returns : goal.returns
returns g c = λ k d lt. c.loop-peer.invariant k d (omega (arith, c.loop-peer-test.false, lt))
