use Rattle.std.proofs.Common.{◌≡◌}
use Rattle.rstp_rules.specs.Turns.{first_turns}
use Rattle.rstp_core.proofs.turns.take_turns.Given as goal

abbrev pub invariant-loop-i : goal.invariant-loop-i
invariant-loop-i l = l.rows ≡ first_turns l.timing l.i l.fn.rows
