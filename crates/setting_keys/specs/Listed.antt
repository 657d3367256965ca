-- The key that parts in a list are, and the parts of a key.
use Rattle.rstp_settings.specs.declared.key.Key.{Key}
use Rattle.rstp_settings.specs.declared.key.Key.TheVariants.{Bridge as OfBridge, Port as OfPort}
use Rattle.setting_keys.specs.declared.Parts.{Parts}
use Rattle.setting_keys.specs.declared.Parts.TheVariants.{Bridge, Port}

abbrev pub key_of : Parts → Key
key_of (Bridge key) = OfBridge key
key_of (Port key port) = OfPort port key

abbrev pub parts_of : Key → Parts
parts_of (OfBridge key) = Bridge key
parts_of (OfPort port key) = Port key port
