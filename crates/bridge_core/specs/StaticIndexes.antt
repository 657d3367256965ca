-- Of what a bridge may have static rows (RFC 4188 dot1dStaticAddress, dot1dStaticReceivePort).
use Rattle.std.specs.Prelude.{◌≡◌, ◌≢◌, ◌≤◌, false}
use Rattle.fdb_core.specs.declared.static_row.StaticIndex.{StaticIndex}
use Rattle.fdb_core.specs.Rows.{IsAddress}
use Rattle.bridge_core.specs.Bridge.{BridgeState, address_of, port_count}
use Rattle.bridge_core.specs.Forwarding.{is_reserved}

-- Of an address of six octets that is neither the bridge's own nor reserved, and of one of its ports
-- or, as port 0, of all.
pub record IsStaticIndex (b : BridgeState) (i : StaticIndex) : Type 0 where
  pub address : IsAddress i.address
  pub port : i.port ≤ port_count b
  pub foreign : i.address ≢ address_of b
  pub unreserved : is_reserved i.address ≡ false
