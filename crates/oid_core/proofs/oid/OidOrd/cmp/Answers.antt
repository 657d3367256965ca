use Rattle.std.proofs.Common.{◌≡◌, ◌∙◌, sym}
use Rattle.std.specs.Cmp.Lexicographic.{slice_cmp}
use Rattle.std.specs.Ordering.{nat_cmp}
use Rattle.oid_core.proofs.OrderLaws.{before_cmp, after_cmp, equal_cmp, cmp_before, cmp_after, cmp_equal}
use Rattle.oid_core.proofs.oid.OidOrd.cmp.Goals as goal

pub returns-clause-before : goal.returns-clause-before
returns-clause-before c =
    let is : c.cmp.result ≡ slice_cmp nat_cmp c.args.self.now c.args.other.now = rw (← c.as_slice.ensures.value, ← c.as_slice-2.ensures.value) c.cmp.ensures in
    (λ e. cmp_before c.args.self.now c.args.other.now (sym is ∙ e), λ h. is ∙ before_cmp c.args.self.now c.args.other.now h)

pub returns-clause-same : goal.returns-clause-same
returns-clause-same c =
    let is : c.cmp.result ≡ slice_cmp nat_cmp c.args.self.now c.args.other.now = rw (← c.as_slice.ensures.value, ← c.as_slice-2.ensures.value) c.cmp.ensures in
    (λ e. cmp_equal c.args.self.now c.args.other.now (sym is ∙ e), λ h. is ∙ equal_cmp c.args.self.now c.args.other.now h)

pub returns-clause-after : goal.returns-clause-after
returns-clause-after c =
    let is : c.cmp.result ≡ slice_cmp nat_cmp c.args.self.now c.args.other.now = rw (← c.as_slice.ensures.value, ← c.as_slice-2.ensures.value) c.cmp.ensures in
    (λ e. cmp_after c.args.self.now c.args.other.now (sym is ∙ e), λ h. is ∙ after_cmp c.args.self.now c.args.other.now h)
