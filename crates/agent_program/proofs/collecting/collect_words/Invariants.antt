use Rattle.std.proofs.Common.{◌≡◌, ◌++◌, length}
use Rattle.std.specs.Vec.Iter.{into_iter_items, into_iter_len}
use Rattle.agent_program.proofs.collecting.collect_words.Given as goal

-- the words so far, and behind them those that are still to come
abbrev pub invariant-loop-word : goal.invariant-loop-word
invariant-loop-word g l = record {
  all : l.list.items ++ into_iter_items l.word-iterator ≡ into_iter_items l.fn.words;
  count : into_iter_len l.word-iterator ≡ length (into_iter_items l.word-iterator);
}
