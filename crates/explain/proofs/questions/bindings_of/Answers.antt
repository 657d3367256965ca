use Rattle.std.proofs.Common.{◌<◌, List, ℕ, [], get_or, length, refl, arith}
use Rattle.std.specs.Borrow.{Bor}
use Rattle.message_core.specs.declared.binding.Binding.{Binding}
use Rattle.message_core.specs.declared.value.Value.TheVariants.{Null}
use Rattle.explain.specs.Questions.{IsAskedBy}
use Rattle.explain.proofs.Asked.{asked_more, fault_found}
use Rattle.explain.proofs.questions.bindings_of.Goals as goal

abbrev text : Bor (List ℕ) → List ℕ
text word = word.now

abbrev d : Bor (List ℕ)
d = record { ref_ptr = (0, 0); now = [] }

pub returns-in_err-name-clause-fault : goal.returns-in_err-name-clause-fault
returns-in_err-name-clause-fault c =
    let words = c.args.words.now in
    let i = c.loop-word.word-index in
    let low : i < length words = omega arith in
    fault_found text words i d c.loop-word.bindings c.in_err-name.field-0.0 c.from_residual.result low c.loop-word.invariant c.in_err-name.ensures.fault c.from_residual.ensures.1

pub loop-word-preserved : goal.loop-word-preserved
loop-word-preserved c =
    let words = c.args.words.now in
    let i = c.loop-word.word-index in
    let low : i < length words = omega arith in
    let b : Binding = record { name = c.in_ok-name.name; value = Null } in
    let one : IsAskedBy (get_or words i d).now b = record { name = c.in_ok-name.ensures.name; value = refl } in
    asked_more text words i d c.loop-word.bindings c.push.new.self b low c.loop-word.invariant one c.in_ok-push.ensures.ok
