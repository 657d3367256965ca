use Rattle.std.proofs.Common.{◌≡◌, ◌≢◌, inl, inr, ℕ, ◌<◌, Contains, List, ◌∷◌, ◌++◌, refl, ap, ◌∙◌, length, length-append, append_assoc, arith}
use Rattle.std.proofs.lemmas.List.Elements.{All-nil, Contains-append_right}
use Rattle.script_core.proofs.LinesLemmas.{first_line-last, HasNoEnd-append}
use Rattle.script_core.proofs.RunsLemmas.{if_err_known, if_err_both, on_ok_weaker, Adds-same, Adds-more, Adds-weaker, Feeds-none, Feeds-then, GivesUpLine-within}
use Rattle.script_core.proofs.run.feed.Goals as goal

pub loop-part-init : goal.loop-part-init
loop-part-init g c = record { part = c.requires; feeds = λ (rest : List ℕ). Adds-same _ refl (Feeds-none _) }

pub returns-in_err-feed_line-clause-given_up : goal.returns-in_err-feed_line-clause-given_up
returns-in_err-feed_line-clause-given_up g c =
    if_err_known c.from_residual.result _ _ c.from_residual.ensures.1
    (λ e made (rest : List ℕ).
    let same : c.feed_line.new.buffers.out.items ≡ c.loop-part.buffers.out.items = c.in_err-feed_line.ensures.same in
    let line = c.loop-part.buffers.line.items in
    let left = c.loop-part.left.now in
    let part = c.in-Some.part.now in
    let behind = c.in-Some.behind.now in
    let cut : left ≡ part ++ (10 ∷ behind) = c.in-Some.ensures.cut.0 in
    let some : 0 < length left = omega (arith, ap length cut, length-append part (10 ∷ behind)) in
    let ended : Contains (line ++ left) 10 =
    Contains-append_right line left 10 (rw cut (Contains-append_right part (10 ∷ behind) 10 (0, omega arith, refl))) in
    rw (made, same)
    (Adds-weaker _ (c.loop-part.invariant.feeds rest)
    (λ s p. GivesUpLine-within _ _ line left some (rw cut (c.in_err-feed_line.ensures.given_up behind)) (inr ended) p)))

pub loop-part-preserved : goal.loop-part-preserved
loop-part-preserved g c = record {
  part = rw c.in_ok-feed_line.ensures.part (All-nil (λ octet. octet ≢ 10));
  feeds = λ (rest : List ℕ).
      let line = c.loop-part.buffers.line.items in
      let part = c.in-Some.part.now in
      let behind = c.in-Some.behind.now in
      Adds-more _ (c.loop-part.invariant.feeds rest) (c.in_ok-feed_line.ensures.feeds (behind ++ rest))
      (λ s t p q. Feeds-then _ p
      (ap (λ l. line ++ (l ++ rest)) c.in-Some.ensures.cut.0 ∙ ap (λ l. line ++ l) (append_assoc part (10 ∷ behind) rest)) q);
}

pub returns-clause-feeds : goal.returns-clause-feeds
returns-clause-feeds g c =
    on_ok_weaker c.hold.result c.hold.ensures.held
    (λ held (rest : List ℕ).
    rw (c.hold.ensures.same, held, append_assoc c.loop-part.buffers.line.items c.loop-part.left.now rest)
    (c.loop-part.invariant.feeds rest))

pub returns-clause-given_up : goal.returns-clause-given_up
returns-clause-given_up g c =
    if_err_both c.hold.result _ _ c.hold.ensures.memory c.hold.ensures.some
    (λ e memory some (rest : List ℕ).
    let line = c.loop-part.buffers.line.items in
    let left = c.loop-part.left.now in
    let first = first_line-last (line ++ left) (HasNoEnd-append line left c.loop-part.invariant.part c.in_default.ensures.whole) in
    let more : 0 < length (line ++ left) = omega (arith, length-append line left, some) in
    rw c.hold.ensures.same
    (Adds-weaker _ (c.loop-part.invariant.feeds rest)
    (λ s p. GivesUpLine-within _ _ line left some (inr (memory, inl (rw first more))) (inl memory) p)))
