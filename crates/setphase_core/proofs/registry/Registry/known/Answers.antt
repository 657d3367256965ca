use Rattle.std.proofs.Common.{◌≡◌, map, subst, rules}
use Rattle.fdb_core.specs.Rows.{IsRising}
use Rattle.vacm_core.specs.Faults.{AreAllRight}
use Rattle.vacm_core.specs.Rows.{family_rules}
use Rattle.vacm_core.specs.Rules.{AreRight}
use Rattle.vacm_core.specs.Tables.{Tables, written_family, rows_of as written_rows}
use Rattle.setphase_core.specs.Registry.{rows_of}
use Rattle.setphase_core.proofs.Families.{keys_differ, are_short}
use Rattle.setphase_core.proofs.Ordered.{names_apart}
use Rattle.setphase_core.proofs.Served.{instances_servable}
use Rattle.setphase_core.proofs.Passed.{open_servable}
use Rattle.setphase_core.proofs.registry.Registry.known.Goals as goal

-- nothing is wrong with the families of tables that are right
right_families : (t v : Tables) → t ≡ v → AreAllRight (written_rows t) → AreRight family_rules (map written_family v.families)
right_families t v e right = subst (λ (x : Tables). AreRight family_rules (map written_family x.families)) e right.2

pub returns-clause-apart : goal.returns-clause-apart
returns-clause-apart g c = names_apart (rows_of c.args.self.now) (search rules)

pub returns-clause-servable : goal.returns-clause-servable
returns-clause-servable g c =
    let w = c.args.world.now in
    let right = right_families c.vacm.result.now w.policy.vacm c.vacm.ensures c.rows_are_right.ensures.right in
    instances_servable (rows_of c.args.self.now) w (search rules) (search rules) (record {
      learned = subst IsRising c.fdb.ensures.rows c.known.ensures.rising;
      statics = c.known_statics.ensures.rising;
      families = keys_differ w.policy.vacm.families right;
      short = are_short w.policy.vacm.families right;
    })

pub returns-clause-open : goal.returns-clause-open
returns-clause-open g c = λ passes.
    let w = c.args.world.now in
    let right = right_families c.vacm.result.now w.policy.vacm c.vacm.ensures c.rows_are_right.ensures.right in
    open_servable passes (rows_of c.args.self.now) w (search rules) (search rules) (record {
      learned = subst IsRising c.fdb.ensures.rows c.known.ensures.rising;
      statics = c.known_statics.ensures.rising;
      families = keys_differ w.policy.vacm.families right;
      short = are_short w.policy.vacm.families right;
    })
