use Rattle.std.proofs.Common.{◌<◌, List, ℕ, [], get_or, length, map, refl, arith}
use Rattle.std.specs.Borrow.{Bor}
use Rattle.message_core.specs.declared.binding.Binding.{Binding}
use Rattle.message_core.specs.declared.value.Value.TheVariants.{Null}
use Rattle.manager_words.specs.Bindings.{AreSomeTexts, IsAskedText, IsNameText}
use Rattle.manager_words.proofs.Listed.{encodable_more, stated_at, texts_more}
use Rattle.manager_words.proofs.Passed.{passed}
use Rattle.manager_words.proofs.Spelled.{asked_encodable}
use Rattle.manager_words.proofs.bindings.names_of.Goals as goal

abbrev text : Bor (List ℕ) → List ℕ
text word = word.now

abbrev d : Bor (List ℕ)
d = record { ref_ptr = (0, 0); now = [] }

pub returns-in_err-name-clause-read : goal.returns-in_err-name-clause-read
returns-in_err-name-clause-read c =
    let bytes = text in
    let words = c.args.words.now in
    let i = c.loop-word.word-index in
    let low : i < length words = omega arith in
    passed (IsNameText (get_or words i d).now) (AreSomeTexts IsAskedText (map bytes words)) (λ bs texts. let t = stated_at IsAskedText bytes words i d low bs texts in (t.0.name, t.1.name)) c.in_err-name.field-0.0 c.from_residual.result c.in_err-name.ensures.read c.from_residual.ensures.1

pub loop-word-preserved : goal.loop-word-preserved
loop-word-preserved c =
    let words = c.args.words.now in
    let i = c.loop-word.word-index in
    let low : i < length words = omega arith in
    let b : Binding = record { name = c.in_ok-name.name; value = Null } in
    let one : IsAskedText (get_or words i d).now b = record { name = c.in_ok-name.ensures.read; value = refl } in
    record {
      texts = texts_more IsAskedText text words i d c.loop-word.bindings c.push.new.self b low c.loop-word.invariant.texts one c.in_ok-push.ensures.ok;
      encodable = encodable_more c.loop-word.bindings c.push.new.self b c.loop-word.invariant.encodable (asked_encodable (get_or words i d).now b one) c.in_ok-push.ensures.ok;
    }
