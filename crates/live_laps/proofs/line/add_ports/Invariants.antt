use Rattle.std.proofs.Common.{◌≡◌, ◌++◌, ◌+◌, length, vec_len}
use Rattle.std.specs.Vec.Iter.{into_iter_items, into_iter_len}
use Rattle.live_laps.specs.Lines.{ports_from}
use Rattle.live_laps.proofs.line.add_ports.Given as goal

-- the lines so far, and behind them those of the wires that are still to come
abbrev pub invariant-loop-wire : goal.invariant-loop-wire
invariant-loop-wire g l = record {
  all : l.lines.items ++ ports_from l.fn.watch l.fn.pace l.number (into_iter_items l.wire-iterator)
      ≡ l.fn.lines.items ++ ports_from l.fn.watch l.fn.pace 1 l.fn.wires.items;
  count : l.number + length (into_iter_items l.wire-iterator) ≡ 1 + length l.fn.wires.items;
  len : vec_len l.lines + length (into_iter_items l.wire-iterator) ≡ vec_len l.fn.lines + vec_len l.fn.wires;
  left : into_iter_len l.wire-iterator ≡ length (into_iter_items l.wire-iterator);
}
