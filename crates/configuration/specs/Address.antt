-- The bridge's address in a configuration.
use Rattle.std.specs.Prelude.{ℕ, codes, if◌then◌else◌, List, Option, Some, None}
use Rattle.std.specs.Result.{result_ok}
use Rattle.hex.specs.Hex.{decode_sized}
use Rattle.toml.specs.Data.{Members}
use Rattle.frame_core.specs.declared.mac.Mac.{Mac}
use Rattle.frame_core.specs.Octets.{is_group}
use Rattle.policy_text.specs.Keys.{string_at}
use Rattle.policy_text.specs.Reading.{◌>=>◌}

-- these octets as an address, unless it is that of a group (IEEE 802.3, 3.2.3)
abbrev pub station : List ℕ → Option Mac
station octets = if is_group (record { 0 = octets }) then None else Some (record { 0 = octets })

-- the address that 12 hexadecimal digits write
abbrev pub mac_of : List ℕ → Option Mac
mac_of text = result_ok (decode_sized text 6) >=> station

-- the address under `address`
abbrev pub address_of : Members → Option Mac
address_of ms = string_at (codes "address") ms >=> mac_of
