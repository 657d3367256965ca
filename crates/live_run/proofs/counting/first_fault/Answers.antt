use Rattle.std.proofs.Common.{◌≡◌, ◌∙◌, [], ◌∷◌, sym, ap, arith, take, drop, suc}
use Rattle.std.specs.Prelude.{Option, Some, None}
use Rattle.wire_core.specs.declared.wire.WireFault.{WireFault}
use Rattle.live_run.specs.Reports.{fault_at, first_of, first_fault}
use Rattle.live_run.proofs.Gathering.{one_more, cut_at}
use Rattle.live_run.proofs.Counts.{first_fault-append, none_of}
use Rattle.live_run.proofs.counting.first_fault.Goals as goal

pub returns-in-Some : goal.returns-in-Some
returns-in-Some c =
    let rs = c.args.runs.now in
    let i = c.loop-ran.ran-index in
    let r = c.ran-item.result in
    let rest = drop (suc i) rs in
    let got : fault_at r.end ≡ Some c.in-Some.cause = sym c.fault_at.ensures ∙ c.in-Some.is in
    sym (ap first_fault (cut_at rs i r (omega arith) c.ran-item.is) ∙ first_fault-append (take i rs) (r ∷ rest)
    ∙ ap (λ (o : Option WireFault). first_of o (first_fault (r ∷ rest))) c.loop-ran.invariant ∙ ap (λ (o : Option WireFault). first_of o (first_fault rest)) got)

pub loop-ran-preserved : goal.loop-ran-preserved
loop-ran-preserved c =
    let rs = c.args.runs.now in
    let i = c.loop-ran.ran-index in
    let r = c.ran-item.result in
    let none : fault_at r.end ≡ None = sym c.fault_at.ensures ∙ none_of c.fault_at.result c.in_default.not-Some in
    ap first_fault (one_more rs i r (omega arith) c.ran-item.is) ∙ first_fault-append (take i rs) (r ∷ [])
    ∙ ap (λ (o : Option WireFault). first_of o (first_fault (r ∷ []))) c.loop-ran.invariant ∙ ap (λ (o : Option WireFault). first_of o None) none
