use Rattle.std.proofs.Common.{add-one, sym, arith, ◌≡◌, length, drop, take, ◌+◌, ◌-◌, take_all, length-drop}
use Rattle.script_core.proofs.WordsLemmas.{split_word_at, split_word_none}
use Rattle.script_core.proofs.words.cut_at_space.Goals as goal

pub returns-then-b-eq32 : goal.returns-then-b-eq32
returns-then-b-eq32 c =
    let cut : take (length c.args.line.now - (c.loop-i.i + 1)) (drop (c.loop-i.i + 1) c.args.line.now) ≡ drop (c.loop-i.i + 1) c.args.line.now = take_all _ _ (omega (arith, length-drop (c.loop-i.i + 1) c.args.line.now)) in
    rw (cut, add-one) (sym (split_word_at c.args.line.now c.loop-i.i c.loop-i-test.true c.loop-i.invariant c.if-b-eq32.true))

pub returns : goal.returns
returns c = sym (split_word_none c.args.line.now (λ k below. c.loop-i.invariant k (omega arith)))
