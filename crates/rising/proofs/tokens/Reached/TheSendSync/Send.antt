use denote.RattleType.{RattleType}
use denote.Param.Send.{IsSend}
use Rattle.rising.specs.declared.tokens.Rising.{Ghosts}
use Rattle.rising.proofs.Sent.{reached_send}
use Rattle.rising.specs.contracts.tokens.Reached.{the_row}

pub send : (L : RattleType) (g : Ghosts L.Denot) → IsSend (the_row L g)
send = reached_send
