use Rattle.configuration.proofs.sentences.sentence.Goals as goal

pub returns-in-BadPort : goal.returns-in-BadPort
returns-in-BadPort c = rw (c.in-BadPort.is, ← c.port_rule.ensures) c.row_sentence.ensures
