use Rattle.configuration.proofs.warning_sentences.other_rule.Goals as goal

pub returns : goal.returns
returns c = rw (← c.counted-number.ensures) c.format.ensures.ok
