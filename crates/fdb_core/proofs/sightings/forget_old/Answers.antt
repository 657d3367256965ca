use Rattle.std.proofs.Common.{◌-◌, rules}
use Rattle.std.specs.Prelude.{nat_lt}
use Rattle.std.proofs.lemmas.Map.Made.{filter_same_pairs}
use Rattle.fdb_core.proofs.sightings.forget_old.Goals as goal

-- the closure asks for the age, and writes nothing
pub returns : goal.returns
returns c = filter_same_pairs _ (λ e. nat_lt (c.args.tick - e.1.tick) c.args.limit) _ (λ k v b w f' t. search rules) _ _ c.retain.ensures.filtered
