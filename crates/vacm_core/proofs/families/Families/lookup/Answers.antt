use Rattle.vacm_core.proofs.families.Families.lookup.Goals as goal

pub invariant_of-result : goal.invariant_of-result
invariant_of-result c =
    let kept = c.self.invariant in
    rw (c.as_slice.ensures.value, c.as_slice-2.ensures, c.as_slice-4.ensures.value) (kept.0, kept.2, kept.3, c.in_ok-new.ensures c.self.inside.blocks.items)
