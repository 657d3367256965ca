use Rattle.std.proofs.Common.{◌<◌, List, ℕ, [], get_or, length, map, arith}
use Rattle.std.specs.Borrow.{Bor}
use Rattle.manager_words.specs.Bindings.{AreSomeTexts, IsSettingText}
use Rattle.manager_words.proofs.Listed.{encodable_more, stated_at, texts_more}
use Rattle.manager_words.proofs.Passed.{passed}
use Rattle.manager_words.proofs.Spelled.{setting_encodable}
use Rattle.manager_words.proofs.bindings.settings_of.Goals as goal

abbrev text : Bor (List ℕ) → List ℕ
text word = word.now

abbrev d : Bor (List ℕ)
d = record { ref_ptr = (0, 0); now = [] }

pub returns-in_err-binding-clause-read : goal.returns-in_err-binding-clause-read
returns-in_err-binding-clause-read c =
    let bytes = text in
    let words = c.args.words.now in
    let i = c.loop-word.word-index in
    let low : i < length words = omega arith in
    passed (IsSettingText (get_or words i d).now) (AreSomeTexts IsSettingText (map bytes words)) (stated_at IsSettingText bytes words i d low) c.in_err-binding.field-0.0 c.from_residual.result c.in_err-binding.ensures c.from_residual.ensures.1

pub loop-word-preserved : goal.loop-word-preserved
loop-word-preserved c =
    let words = c.args.words.now in
    let i = c.loop-word.word-index in
    let low : i < length words = omega arith in
    let b = c.in_ok-binding.binding in
    let one : IsSettingText (get_or words i d).now b = c.in_ok-binding.ensures in
    record {
      texts = texts_more IsSettingText text words i d c.loop-word.bindings c.push.new.self b low c.loop-word.invariant.texts one c.in_ok-push.ensures.ok;
      encodable = encodable_more c.loop-word.bindings c.push.new.self b c.loop-word.invariant.encodable (setting_encodable (get_or words i d).now b one) c.in_ok-push.ensures.ok;
    }
