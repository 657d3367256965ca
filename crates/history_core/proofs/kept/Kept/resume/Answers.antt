use Rattle.std.proofs.Common.{◌≡◌, sym, subst}
use Rattle.history_core.specs.History.{History, IsHistory, fresh}
use Rattle.history_core.proofs.Histories.{fresh-ok}
use Rattle.history_core.proofs.kept.Kept.resume.Goals as goal

pub invariant_of-result : goal.invariant_of-result
invariant_of-result g c =
    let made : History = record {
      first = c.args.first;
      base_number = c.args.first;
      base = c.in-Ok.base.value;
      entries = c.in-Ok-reserved.entries;
      world = c.args.world;
      objects = c.release.new.self;
    } in
    let same : fresh c.args.registry c.args.world c.args.first ≡ made = (λ i. record {
      first = c.args.first;
      base_number = c.args.first;
      base = sym c.in-Ok.ensures i;
      entries = sym c.in-Ok-reserved.ensures i;
      world = c.args.world;
      objects = sym c.release.ensures i;
    }) in
    subst (λ (x : History). IsHistory x) same (fresh-ok c.args.registry c.args.world c.args.first c.ranges.first.fits)
