use Rattle.std.proofs.Common.{◌+◌, [], ◌∷◌, ◌++◌, refl, arith}
use Rattle.std.proofs.lemmas.Result.{err_from_is_err_and}
use Rattle.manager_core.specs.Walks.{Asked, IsNext}
use Rattle.manager_core.proofs.Walked.{leads_first, leads_more, leads_ended, leads_broken, leads_short, leads_full, one_ask_more}
use Rattle.manager_core.proofs.walking.walk_from.Goals as goal

pub loop-before-init : goal.loop-before-init
loop-before-init g c = record {
  encodable = rw c.in_ok-name.ensures.value c.requires.encodable;
  walked = (
    [],
    leads_first c.args.community.now c.args.root.now c.args.tries c.in_ok-name.name c.new-found.result c.in_ok-name.ensures.value c.new-found.ensures,
    g.met.W.Wire.starts _,
  );
}

pub returns-in_err-request : goal.returns-in_err-request
returns-in_err-request g c =
    let w = c.loop-before.invariant.walked in
    let p = err_from_is_err_and c.from_residual-in_err-request.result c.from_residual-in_err-request.ensures.1 in
    rw (p.1, p.2) (w.0, leads_short _ _ _ _ _ _ _ w.1, w.2)

pub returns-in_err-name-in-Found : goal.returns-in_err-name-in-Found
returns-in_err-name-in-Found g c =
    let w = c.loop-before.invariant.walked in
    let t = c.in-Found.ensures.asked in
    let a : Asked = record { request = c.in_ok-request.request; tries = t.1.0; end = t.0 } in
    let next : IsNext c.args.community.now c.args.tries (c.loop-before.before + 1) c.loop-before.name a =
    record { within = omega arith; request = c.in_ok-request.ensures.request; ends = t.1.1 } in
    let acts = one_ask_more g.W.Wire.went g.met.W.Wire.goes_on c.args.wire.now c.loop-before.wire c.ask_next.new.wire c.args.peer w.0 a w.2 t.1.2 in
    let more = leads_more _ _ _ _ _ _ _ a c.in-Found.binding c.in-Found.binding.name (c.loop-before.found ++ c.in-Found.binding ∷ []) w.1 next t.2 refl refl in
    let p = err_from_is_err_and c.from_residual-in_err-name-in-Found.result c.from_residual-in_err-name-in-Found.ensures.1 in
    rw (p.1, p.2) (w.0 ++ a ∷ [], leads_short _ _ _ _ _ _ _ more, acts)

pub returns-in_err-push-in-Found : goal.returns-in_err-push-in-Found
returns-in_err-push-in-Found g c =
    let w = c.loop-before.invariant.walked in
    let t = c.in-Found.ensures.asked in
    let a : Asked = record { request = c.in_ok-request.request; tries = t.1.0; end = t.0 } in
    let next : IsNext c.args.community.now c.args.tries (c.loop-before.before + 1) c.loop-before.name a =
    record { within = omega arith; request = c.in_ok-request.ensures.request; ends = t.1.1 } in
    let acts = one_ask_more g.W.Wire.went g.met.W.Wire.goes_on c.args.wire.now c.loop-before.wire c.ask_next.new.wire c.args.peer w.0 a w.2 t.1.2 in
    let more = leads_more _ _ _ _ _ _ _ a c.in-Found.binding c.in-Found.binding.name (c.loop-before.found ++ c.in-Found.binding ∷ []) w.1 next t.2 refl refl in
    let p = err_from_is_err_and c.from_residual-in_err-push-in-Found.result c.from_residual-in_err-push-in-Found.ensures.1 in
    rw (p.1, p.2) (w.0 ++ a ∷ [], leads_short _ _ _ _ _ _ _ more, acts)

pub returns-in-Ended : goal.returns-in-Ended
returns-in-Ended g c =
    let w = c.loop-before.invariant.walked in
    let t = c.in-Ended.ensures.asked in
    let a : Asked = record { request = c.in_ok-request.request; tries = t.1.0; end = t.0 } in
    let next : IsNext c.args.community.now c.args.tries (c.loop-before.before + 1) c.loop-before.name a =
    record { within = omega arith; request = c.in_ok-request.ensures.request; ends = t.1.1 } in
    let acts = one_ask_more g.W.Wire.went g.met.W.Wire.goes_on c.args.wire.now c.loop-before.wire c.ask_next.new.wire c.args.peer w.0 a w.2 t.1.2 in
    (w.0 ++ a ∷ [], leads_ended _ _ _ _ _ _ _ a w.1 next t.2, acts)

pub returns-in-Broken : goal.returns-in-Broken
returns-in-Broken g c =
    let w = c.loop-before.invariant.walked in
    let t = c.in-Broken.ensures.asked in
    let a : Asked = record { request = c.in_ok-request.request; tries = t.1.0; end = t.0 } in
    let next : IsNext c.args.community.now c.args.tries (c.loop-before.before + 1) c.loop-before.name a =
    record { within = omega arith; request = c.in_ok-request.ensures.request; ends = t.1.1 } in
    let acts = one_ask_more g.W.Wire.went g.met.W.Wire.goes_on c.args.wire.now c.loop-before.wire c.ask_next.new.wire c.args.peer w.0 a w.2 t.1.2 in
    (w.0 ++ a ∷ [], leads_broken _ _ _ _ _ _ _ a c.in-Broken.fault w.1 next t.2, acts)

pub loop-before-preserved : goal.loop-before-preserved
loop-before-preserved g c =
    let w = c.loop-before.invariant.walked in
    let t = c.in-Found.ensures.asked in
    let a : Asked = record { request = c.in_ok-request.request; tries = t.1.0; end = t.0 } in
    let next : IsNext c.args.community.now c.args.tries (c.loop-before.before + 1) c.loop-before.name a =
    record { within = omega arith; request = c.in_ok-request.ensures.request; ends = t.1.1 } in
    let acts = one_ask_more g.W.Wire.went g.met.W.Wire.goes_on c.args.wire.now c.loop-before.wire c.ask_next.new.wire c.args.peer w.0 a w.2 t.1.2 in
    record {
      encodable = rw c.in_ok-name-in-Found.ensures.value c.in-Found.ensures.encodable;
      walked = (
        w.0 ++ a ∷ [],
        leads_more _ _ _ _ _ _ _ a c.in-Found.binding _ _ w.1 next t.2 c.in_ok-name-in-Found.ensures.value c.in_ok-push-in-Found.ensures.ok,
        acts,
      );
    }

pub returns : goal.returns
returns g c =
    let w = c.loop-before.invariant.walked in
    (w.0, leads_full _ _ _ _ _ _ _ w.1 (omega arith), w.2)
