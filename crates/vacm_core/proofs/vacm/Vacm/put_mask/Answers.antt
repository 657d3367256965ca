use Rattle.std.proofs.Common.{◌<◌, List, length, sym, ap, subst}
use Rattle.vacm_core.specs.declared.tables.FamilyRow.{FamilyRow}
use Rattle.vacm_core.specs.Changes.{with_mask}
use Rattle.vacm_core.specs.Tables.{Tables, IsSound}
use Rattle.vacm_core.proofs.Puts.{mask_alike, mask_formed, keys_kept, sound_with}
use Rattle.vacm_core.proofs.vacm.Vacm.put_mask.Goals as goal

pub invariant_of-self : goal.invariant_of-self
invariant_of-self c =
    let inside = c.self.inside in
    let t : Tables = record { groups = inside.groups; access = inside.access; families = inside.families; contexts = inside.contexts } in
    let old : List FamilyRow = inside.families in
    let lt : c.args.n < length old = subst (λ (l : List FamilyRow). c.args.n < length l) (sym (ap (λ (s : Tables). s.families) c.self.view_is)) c.requires in
    let new = with_mask old c.args.n c.args.mask in
    let differ = keys_kept old new (mask_alike old c.args.n c.args.mask lt) c.self.invariant.0.families in
    let sound = sound_with t new c.self.invariant.0 differ (mask_formed old c.args.n c.args.mask lt c.put_mask.ensures.short c.self.invariant.0.family_rows) in
    (subst (λ (l : List FamilyRow). IsSound (record t { families = l })) (sym c.put_mask.ensures.rows) sound, c.self.invariant.1, c.self.invariant.2)
