use Rattle.std.proofs.Common.{List, sym, subst}
use Rattle.setphase_core.specs.Objects.{ObjectState}
use Rattle.history_core.specs.History.{History, IsHistory}
use Rattle.history_core.proofs.Histories.{armed-ok}
use Rattle.history_core.proofs.kept.Kept.arm.Goals as goal

pub invariant_of-self : goal.invariant_of-self
invariant_of-self g c =
    let k = c.self.inside in
    let h : History = record { first = k.first; base_number = k.base_number; base = k.base.value; entries = k.entries; world = k.world; objects = k.registry } in
    subst (λ (os : List ObjectState). IsHistory (record h { objects = os })) (sym c.arm.ensures) (armed-ok h c.args.plan c.self.invariant)
