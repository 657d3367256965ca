use Rattle.configuration.proofs.details.port_detail.Goals as goal

pub returns : goal.returns
returns c = rw (← c.in_ok-rule.ensures, ← c.deref.ensures) c.row_sentence.ensures
