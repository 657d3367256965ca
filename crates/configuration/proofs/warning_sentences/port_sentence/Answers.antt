use Rattle.configuration.proofs.warning_sentences.port_sentence.Goals as goal

pub returns : goal.returns
returns c = rw (← c.in_ok-rule.ensures, ← c.as_str.ensures.value) c.row_sentence.ensures
