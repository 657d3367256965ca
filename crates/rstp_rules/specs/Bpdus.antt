-- What a BPDU says of a topology change (IEEE 802.1D-2004 9.3, 17.21.17).
use Rattle.std.specs.Prelude.{Bool, true}
use Rattle.frame_core.specs.declared.bpdu.Bpdu.{Bpdu}
use Rattle.frame_core.specs.declared.bpdu.Bpdu.TheVariants.{Config, TopologyChange, Rapid}

-- The topology change flag; a topology change notification is one.
abbrev pub signals_change : Bpdu → Bool
signals_change TopologyChange = true
signals_change (Config m) = m.topology_change
signals_change (Rapid m) = m.topology_change
