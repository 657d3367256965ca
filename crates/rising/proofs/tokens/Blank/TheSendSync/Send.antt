use denote.Param.Send.{IsSend}
use Rattle.rising.proofs.Sent.{blank_send}
use Rattle.rising.specs.contracts.tokens.Blank.{the_row}

pub send : IsSend the_row
send = blank_send
