use Rattle.script_core.proofs.WordsLemmas.{cut_from_value, whole_from_value}
use Rattle.script_core.proofs.words.split_word.Goals as goal

pub returns-clause-cut : goal.returns-clause-cut
returns-clause-cut c = cut_from_value _ _ c.cut_at_space.result c.args.line.now c.cut_at_space.ensures

pub returns-clause-whole : goal.returns-clause-whole
returns-clause-whole c = whole_from_value (λ p. p.0.now) (λ p. p.1.now) c.cut_at_space.result c.args.line.now c.cut_at_space.ensures
