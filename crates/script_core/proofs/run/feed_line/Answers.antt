use Rattle.std.proofs.Common.{◌≡◌, inl, inr, ◌<◌, ℕ, List, [], ◌++◌, length, length-append, sym, arith}
use Rattle.script_core.proofs.LinesLemmas.{first_line-parts}
use Rattle.script_core.proofs.RunsLemmas.{if_err_known, Adds-weaker, Feeds-parts}
use Rattle.script_core.proofs.run.feed_line.Goals as goal

pub returns-in_err-hold-clause-given_up : goal.returns-in_err-hold-clause-given_up
returns-in_err-hold-clause-given_up g c =
    if_err_known c.from_residual.result _ _ c.from_residual.ensures.1
    (λ e made (rest : List ℕ).
    let line = c.args.buffers.now.line.items in
    let part = c.args.part.now in
    let first = first_line-parts line part rest c.requires.line c.requires.part in
    let some : 0 < length (line ++ part) = omega (arith, length-append line part, c.in_err-hold.ensures.some) in
    rw (made, first) (inr (c.in_err-hold.ensures.memory, inl some)))

pub returns-in_err-finish_line-clause-given_up : goal.returns-in_err-finish_line-clause-given_up
returns-in_err-finish_line-clause-given_up g c =
    if_err_known c.from_residual-in_err-finish_line.result _ _ c.from_residual-in_err-finish_line.ensures.1
    (λ e made (rest : List ℕ).
    let first = first_line-parts c.args.buffers.now.line.items c.args.part.now rest c.requires.line c.requires.part in
    rw (made, first, sym {A = List ℕ} c.in_ok-hold.ensures.held) c.in_err-finish_line.ensures.given_up)

pub returns-clause-feeds : goal.returns-clause-feeds
returns-clause-feeds g c =
    λ (rest : List ℕ).
    let empty : c.finish_line.new.buffers.line.items ≡ [] = c.in_ok-finish_line.ensures.empty in
    rw (empty, sym {A = List ℕ} c.in_ok-hold.ensures.same)
    (Adds-weaker _ c.in_ok-finish_line.ensures.stated
    (λ s p. Feeds-parts _ c.args.buffers.now.line.items c.args.part.now _ c.in_ok-hold.ensures.held c.requires.line c.requires.part p))
