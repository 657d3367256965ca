use Rattle.std.proofs.Common.{◌≡◌, List, ℕ, None, refl, subst}
use Rattle.vacm_core.specs.Rows.{group_rules, access_rules, family_rules, context_rules}
use Rattle.vacm_core.specs.Rules.{wrong_at}
use Rattle.vacm_core.specs.Tables.{IsSound, written_group, written_access, written_family}
use Rattle.vacm_core.proofs.Again.{right_again, map_back, access_back, map_same}
use Rattle.vacm_core.proofs.vacm.Vacm.rows_are_right.Goals as goal

pub returns-clause-right : goal.returns-clause-right
returns-clause-right c =
    let t = c.args.self.now in
    let sound : IsSound t = subst IsSound c.self.view_is c.self.invariant.0 in (
      right_again group_rules written_group (λ r. refl) t.groups sound.groups sound.group_rows,
      right_again access_rules written_access access_back t.access sound.access sound.access_rows,
      right_again family_rules written_family (λ r. refl) t.families sound.families sound.family_rows,
      subst (λ (l : List (List ℕ)). (k : ℕ) → wrong_at context_rules l k ≡ None) (map_same t.contexts)
          (right_again context_rules (λ w. w) (λ r. refl) t.contexts (λ i j d lt within. refl) sound.context_rows),
    )

pub returns-clause-same : goal.returns-clause-same
returns-clause-same c =
    let t = c.args.self.now in
    λ j. record t {
      groups = map_back group_rules written_group (λ r. refl) t.groups j;
      access = map_back access_rules written_access access_back t.access j;
      families = map_back family_rules written_family (λ r. refl) t.families j;
    }
