use Rattle.fdb_core.proofs.Addresses.{octets_from}
use Rattle.settings_text.proofs.statics.known_octets.Goals as goal

pub returns-clause-below : goal.returns-clause-below
returns-clause-below c = octets_from c.args.octets.now c.fits-octets
