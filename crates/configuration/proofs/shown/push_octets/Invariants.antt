use Rattle.std.proofs.Common.{◌≡◌, ◌++◌, drop, string_bytes}
use Rattle.configuration.specs.Shown.{shown_octets}
use Rattle.configuration.proofs.shown.push_octets.Given as goal

-- the octets so far, and behind them those that are still to come
abbrev pub invariant-loop-octet : goal.invariant-loop-octet
invariant-loop-octet l =
    string_bytes l.text ++ shown_octets (drop l.octet-index l.octets) ≡ string_bytes l.fn.text ++ shown_octets l.octets
