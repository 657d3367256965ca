-- Writing from the back of a slice that was lent.
use Rattle.std.specs.Prelude.{◌≡◌, ℕ, ◌<◌, List, ◌++◌, length, take, drop, Result, Ok, Err}
use Rattle.ber_core.specs.declared.fault.BerFault.{BerFault}
use Rattle.ber_core.specs.declared.fault.BerFault.TheVariants.{NoRoom}
use Rattle.ber_core.specs.declared.out.Out.{Out}

-- what was written so far
abbrev pub written_octets : Out → List ℕ
written_octets out = drop out.start out.space.now

-- how many octets there is space for in all
abbrev pub capacity : Out → ℕ
capacity out = length out.space.now

-- Writing these octets: they stand in front of the others, or there is no space for them.
abbrev pub Prepends : Out → Out → Result (Unit {0}) BerFault → List ℕ → Type 0
Prepends old new (Ok _) octets =
    (written_octets new ≡ octets ++ written_octets old) × (capacity new ≡ capacity old)
Prepends old new (Err fault) octets = (fault ≡ NoRoom) × (capacity old < length (octets ++ written_octets old)) × (capacity new ≡ capacity old)

-- The octets of the slice in front of those written are as they were.
abbrev pub KeepsFront : Out → Out → Type 0
KeepsFront old new = take new.start new.space.now ≡ take new.start old.space.now
