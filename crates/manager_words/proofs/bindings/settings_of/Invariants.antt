use Rattle.std.specs.Prelude.{map, take}
use Rattle.message_core.specs.Encodable.{AreEncodable}
use Rattle.manager_words.specs.Bindings.{AreTexts, IsSettingText}
use Rattle.manager_words.proofs.bindings.settings_of.Given as goal

abbrev pub invariant-loop-word : goal.invariant-loop-word
invariant-loop-word l = record {
  texts : AreTexts IsSettingText (map (λ word. word.now) (take l.word-index l.words)) l.bindings;
  encodable : AreEncodable l.bindings;
}
