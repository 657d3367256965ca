use Rattle.std.specs.Prelude.{map, take}
use Rattle.message_core.specs.Encodable.{AreEncodable}
use Rattle.manager_words.specs.Bindings.{AreTexts, IsAskedText}
use Rattle.manager_words.proofs.bindings.names_of.Given as goal

abbrev pub invariant-loop-word : goal.invariant-loop-word
invariant-loop-word l = record {
  texts : AreTexts IsAskedText (map (λ word. word.now) (take l.word-index l.words)) l.bindings;
  encodable : AreEncodable l.bindings;
}
