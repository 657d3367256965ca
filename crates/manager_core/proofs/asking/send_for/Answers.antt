use Rattle.std.proofs.Common.{[], ◌∷◌, ◌++◌, refl, arith, inl, length-append}
use Rattle.manager_core.specs.Asks.{IsUsedUp}
use Rattle.manager_core.proofs.Tries.{one_try_more, All-snoc}
use Rattle.manager_core.proofs.asking.send_for.Goals as goal

pub returns-in-Some-clause-asked : goal.returns-in-Some-clause-asked
returns-in-Some-clause-asked g c =
    let i = c.loop-i.invariant in
    let t = c.in-Some.ensures.tried in (
      i.0 ++ t.0 ∷ [],
      inl (record { before = i.0; last = t.0; parts = refl; used = i.1; fewer = omega arith; ends = t.1 }),
      one_try_more g.W.Wire.went g.met.W.Wire.goes_on _ _ _ c.args.peer c.args.request.now c.args.octets.now i.0 t.0 c.requires i.3 t.2,
    )

pub loop-i-preserved : goal.loop-i-preserved
loop-i-preserved g c =
    let i = c.loop-i.invariant in
    let t = c.in_default.ensures.tried in (
      i.0 ++ t.0 ∷ [],
      All-snoc (IsUsedUp c.args.request.now) i.0 t.0 i.1 t.1,
      omega (arith, length-append i.0 (t.0 ∷ []), i.2),
      one_try_more g.W.Wire.went g.met.W.Wire.goes_on _ _ _ c.args.peer c.args.request.now c.args.octets.now i.0 t.0 c.requires i.3 t.2,
    )
