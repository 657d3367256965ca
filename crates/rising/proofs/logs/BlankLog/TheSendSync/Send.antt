use denote.RattleType.{RattleType}
use denote.Param.Send.{IsSend}
use Rattle.rising.proofs.LogSent.{blank_send}
use Rattle.rising.specs.contracts.logs.BlankLog.{the_row}

pub send : (E : RattleType) → IsSend (the_row E)
send = blank_send
