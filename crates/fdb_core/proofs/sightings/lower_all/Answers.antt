use Rattle.std.proofs.Common.{rules}
use Rattle.std.proofs.lemmas.Map.Made.{map_same_pairs}
use Rattle.fdb_core.specs.Seen.{seen_earlier}
use Rattle.fdb_core.proofs.sightings.lower_all.Goals as goal

-- the closure keeps each address, and lowers its tick
pub returns : goal.returns
returns c = map_same_pairs _ (seen_earlier c.args.by) _ (λ k v b w f' t. search rules) _ _ c.retain.ensures.filtered
