use Rattle.std.proofs.Common.{map, take}
use Rattle.explain.specs.Questions.{AreAskedBy}
use Rattle.explain.proofs.questions.bindings_of.Given as goal

-- the names of the words so far
abbrev pub invariant-loop-word : goal.invariant-loop-word
invariant-loop-word l = AreAskedBy (map (λ word. word.now) (take l.word-index l.words)) l.bindings
