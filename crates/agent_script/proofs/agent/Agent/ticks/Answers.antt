use Rattle.std.proofs.Common.{◌≡◌, ◌∙◌, ◌++◌, ◌&&◌, Bool, ℕ, List, [], ap, sym, append-nil, append_assoc, arith}
use Rattle.history_core.specs.declared.event.Event.TheVariants.{Tick}
use Rattle.agent_script.proofs.Happenings.{says_nothing, says_more, is_out}
use Rattle.agent_script.proofs.agent.Agent.ticks.Goals as goal
use Rattle.agent_script.proofs.agent.Agent.ticks.Goals.{then-whole, else-whole}

pub loop-i-init : goal.loop-i-init
loop-i-init g c = record { stated = []; added = sym (append-nil c.args.out.now.items); holds = says_nothing Tick c.args.self.now }

pub loop-i-preserved : goal.loop-i-preserved
loop-i-preserved g c =
    let p = c.loop-i.invariant in
    let q = c.in-Ok.ensures.stated in
    let both : c.if-whole.whole ≡ (c.loop-i.whole && c.in-Ok.is_full) = elim c.if-whole.branch [
      | then-whole w ↦ w.whole-is ∙ sym (ap (λ (b : Bool). b && c.in-Ok.is_full) w.if-whole.true)
      | else-whole w ↦ w.whole-is ∙ w.if-whole.false ∙ sym (ap (λ (b : Bool). b && c.in-Ok.is_full) w.if-whole.false)
    ] in
    rw both (record {
      stated = p.stated ++ q.stated;
      added = q.added ∙ ap (λ (l : List ℕ). l ++ q.stated) p.added ∙ append_assoc c.args.out.now.items p.stated q.stated;
      holds = says_more Tick c.loop-i.i 1 c.args.self.now _ _ p.stated q.stated c.loop-i.whole c.in-Ok.is_full p.holds q.holds;
    })

pub returns-clause-stated : goal.returns-clause-stated
returns-clause-stated g c =
    let ended : c.loop-i.i ≡ c.args.seconds = omega (arith, c.loop-i-test.false, c.loop-i.auto.i-end) in
    rw (← ended) c.loop-i.invariant

pub returns-in-Err-clause-stopped : goal.returns-in-Err-clause-stopped
returns-in-Err-clause-stopped g c = λ stopped.
    let p = c.loop-i.invariant in
    is_out Tick c.loop-i.i c.args.seconds c.args.self.now c.loop-i.self p.stated c.loop-i.whole p.holds c.loop-i-test.true (c.in-Err.ensures.stopped stopped)
