use denote.RattleType.{RattleType}
use denote.Param.Send.{IsSend}
use Rattle.rising.specs.declared.logs.Naming.{Ghosts}
use Rattle.rising.proofs.LogSent.{log_send}
use Rattle.rising.specs.contracts.logs.Log.{the_row}

pub send : (E L : RattleType) (g : Ghosts L.Denot) → IsSend (the_row E L g)
send = log_send
