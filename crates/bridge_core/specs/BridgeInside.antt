-- What holds of the fields of each bridge.
use Rattle.std.specs.Prelude.{◌≡◌, ◌≤◌, List, length}
use Rattle.fdb_core.specs.Table.{Table as Fdb}
use Rattle.fdb_core.specs.declared.static_row.StaticRow.{StaticRow}
use Rattle.rstp_settings.specs.Table.{Table}
use Rattle.rstp_settings.specs.declared.settings.TheConstants.{MAX_PORTS}
use Rattle.rstp_core.specs.Tree.{Tree}
use Rattle.bridge_core.specs.declared.counters.PortCounters.{PortCounters}
use Rattle.bridge_core.specs.Statics.{AreStaticRows}
use Rattle.bridge_core.specs.declared.bridge.TheConstants.{MAX_LEARNED_ROWS}

-- Each port has settings, a place in the spanning tree, a configuration and counters. There is at
-- least one port and at most as many as a bridge may have, and there is space for as many learned
-- addresses as it may learn. Each static row is of its ports, and says something.
pub record IsBridge (settings : Table) (tree : Tree) (fdb : Fdb) (statics : List StaticRow) (counters : List PortCounters) : Type 0 where
  pub configured : length tree.config ≡ length tree.ports
  pub set : length settings.ports ≡ length tree.ports
  pub counted : length counters ≡ length tree.ports
  pub least : 1 ≤ length tree.ports
  pub most : length tree.ports ≤ MAX_PORTS
  pub limit : fdb.limit ≡ MAX_LEARNED_ROWS
  pub reporting : AreStaticRows (length settings.ports) statics
