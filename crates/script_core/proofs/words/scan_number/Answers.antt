use Rattle.std.proofs.Common.{sym, rules}
use Rattle.script_core.proofs.WordsLemmas.{number_of-large, value_on-above}
use Rattle.script_core.proofs.words.scan_number.Goals as goal

pub returns-then-n-from : goal.returns-then-n-from
returns-then-n-from c =
    sym (number_of-large c.args.most c.args.word.now
    (value_on-above c.args.most c.loop-d.n c.loop-d.d-index c.args.word.now c.loop-d-test.true c.loop-d.invariant.so_far (search rules)))
