use Rattle.std.proofs.Common.{◌∙◌, ◌<◌, sym, subst, ap, length, arith}
use Rattle.std.specs.Prelude.{is_some}
use Rattle.fdb_core.specs.Seen.{rows_at, IsReady}
use Rattle.fdb_core.proofs.Around.{put_now, same_answer, moved_answer, new_answer, full_answer}
use Rattle.fdb_core.proofs.Moments.{ready_put}
use Rattle.fdb_core.proofs.sightings.Sightings.learn.Goals as goal
use Rattle.fdb_core.proofs.sightings.Sightings.learn.Goals.{else-len-limit-via-then-len-limit+else-not-contains_key, else-len-limit-via-else-len-limit}

-- the address is not known, and there is no place
pub returns-then-not-contains_key-clause-answer : goal.returns-then-not-contains_key-clause-answer
returns-then-not-contains_key-clause-answer c memory =
    let s = c.args.self.now in
    sym (full_answer s.tick s.seen.entries c.args.limit c.args.address c.args.port (sym c.contains_key.ensures ∙ c.if-not-contains_key.true) (omega (arith, c.len.ensures.len, c.if-len-limit.true)))

pub returns-in-Ok-None-clause-rows : goal.returns-in-Ok-None-clause-rows
returns-in-Ok-None-clause-rows c =
    let s = c.args.self.now in
    ap (rows_at s.tick) c.in-Ok-None.ensures.entries ∙ put_now s.tick c.args.address c.args.port s.seen.entries c.insert.ensures.was_ordered

pub returns-in-Ok-None-clause-ready : goal.returns-in-Ok-None-clause-ready
returns-in-Ok-None-clause-ready c =
    let s = c.args.self.now in
    subst (IsReady s.oldest s.tick) (sym c.in-Ok-None.ensures.entries) (ready_put s.oldest s.tick c.args.address c.args.port s.seen.entries c.requires.ready)

pub returns-in-Ok-None-clause-answer : goal.returns-in-Ok-None-clause-answer
returns-in-Ok-None-clause-answer c memory =
    let s = c.args.self.now in
    let none = sym c.in-Ok-None.ensures.old ∙ c.in-Ok-None.field-0-is in
    let place : length s.seen.entries < c.args.limit = (elim c.else-len-limit.branch [
      | else-len-limit-via-then-len-limit+else-not-contains_key w ↦ (let known = w.contains_key.ensures in let no = w.if-not-contains_key.false in let found = ap is_some none in absurd cc)
      | else-len-limit-via-else-len-limit w ↦ omega (arith, w.if-len-limit.false, c.len.ensures.len)
    ]) in
    sym (new_answer s.tick s.seen.entries c.args.limit c.args.address c.args.port none place)

pub returns-in-Ok-Some-clause-rows : goal.returns-in-Ok-Some-clause-rows
returns-in-Ok-Some-clause-rows c =
    let s = c.args.self.now in
    ap (rows_at s.tick) c.in-Ok-Some.ensures.entries ∙ put_now s.tick c.args.address c.args.port s.seen.entries c.insert.ensures.was_ordered

pub returns-in-Ok-Some-clause-ready : goal.returns-in-Ok-Some-clause-ready
returns-in-Ok-Some-clause-ready c =
    let s = c.args.self.now in
    subst (IsReady s.oldest s.tick) (sym c.in-Ok-Some.ensures.entries) (ready_put s.oldest s.tick c.args.address c.args.port s.seen.entries c.requires.ready)

pub returns-in-Ok-Some-clause-answer : goal.returns-in-Ok-Some-clause-answer
returns-in-Ok-Some-clause-answer c memory =
    let s = c.args.self.now in
    let known = sym c.in-Ok-Some.ensures.old ∙ c.in-Ok-Some.field-0-is in
    sym (same_answer s.tick s.seen.entries c.args.limit c.args.address c.args.port c.in-Ok-Some.before known c.if-before-port.true)

pub returns-in-Ok-Some-2-clause-rows : goal.returns-in-Ok-Some-2-clause-rows
returns-in-Ok-Some-2-clause-rows c =
    let s = c.args.self.now in
    ap (rows_at s.tick) c.in-Ok-Some.ensures.entries ∙ put_now s.tick c.args.address c.args.port s.seen.entries c.insert.ensures.was_ordered

pub returns-in-Ok-Some-2-clause-ready : goal.returns-in-Ok-Some-2-clause-ready
returns-in-Ok-Some-2-clause-ready c =
    let s = c.args.self.now in
    subst (IsReady s.oldest s.tick) (sym c.in-Ok-Some.ensures.entries) (ready_put s.oldest s.tick c.args.address c.args.port s.seen.entries c.requires.ready)

pub returns-in-Ok-Some-2-clause-answer : goal.returns-in-Ok-Some-2-clause-answer
returns-in-Ok-Some-2-clause-answer c memory =
    let s = c.args.self.now in
    let known = sym c.in-Ok-Some.ensures.old ∙ c.in-Ok-Some.field-0-is in
    sym (moved_answer s.tick s.seen.entries c.args.limit c.args.address c.args.port c.in-Ok-Some.before known c.if-before-port.false)

-- the address is not known, there is a place and no memory
pub returns-in-Err-clause-memory : goal.returns-in-Err-clause-memory
returns-in-Err-clause-memory c same =
    let s = c.args.self.now in
    let none = c.in-Err.ensures.absent in
    let place : length s.seen.entries < c.args.limit = (elim c.else-len-limit.branch [
      | else-len-limit-via-then-len-limit+else-not-contains_key w ↦ (let known = w.contains_key.ensures in let no = w.if-not-contains_key.false in let found = ap is_some none in absurd cc)
      | else-len-limit-via-else-len-limit w ↦ omega (arith, w.if-len-limit.false, c.len.ensures.len)
    ]) in
    new_answer s.tick s.seen.entries c.args.limit c.args.address c.args.port none place
