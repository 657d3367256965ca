use Rattle.vacm_core.specs.Changes.{with_mask, with_type}
use Rattle.vacm_core.proofs.Puts.{mask_alike, type_alike}
use Rattle.vacm_core.proofs.SameIndexes.{same_indexes}
use Rattle.vacm_core.proofs.laws.changes_move_no_index.Goals as goal

pub returns-clause-masks : goal.returns-clause-masks
returns-clause-masks c families n mask lt = same_indexes families (with_mask families n mask) (mask_alike families n mask lt)

pub returns-clause-types : goal.returns-clause-types
returns-clause-types c families n included lt = same_indexes families (with_type families n included) (type_alike families n included lt)
