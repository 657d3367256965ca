use Rattle.std.proofs.Common.{arith}
use Rattle.std.proofs.lemmas.Str.Pattern.{strip_prefix_char}
use Rattle.explain.proofs.Dots.{dot_stripped}
use Rattle.explain.proofs.questions.behind_dot.Goals as goal

pub returns : goal.returns
returns c = dot_stripped c.args.word.now c.strip_prefix.result (strip_prefix_char 46 c.args.word.now c.strip_prefix.result c.strip_prefix.ensures.cases (omega arith))
