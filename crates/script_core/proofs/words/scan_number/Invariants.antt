use Rattle.std.proofs.Common.{◌≡◌, ◌≤◌, drop}
use Rattle.script_core.specs.Words.{value_on}
use Rattle.script_core.proofs.WordsLemmas.{IsDigits}
use Rattle.script_core.proofs.words.scan_number.Given as goal

abbrev pub invariant-loop-d : goal.invariant-loop-d
invariant-loop-d l = record {
  digits : IsDigits l.word;
  so_far : value_on l.n (drop l.d-index l.word) ≡ value_on 0 l.word;
  small : l.n ≤ l.most;
}
