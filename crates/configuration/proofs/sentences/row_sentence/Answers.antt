use Rattle.configuration.proofs.sentences.row_sentence.Goals as goal

pub returns : goal.returns
returns c = rw (← c.counted-number.ensures) c.format.ensures.ok
