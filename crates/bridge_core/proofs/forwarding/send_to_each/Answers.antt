use Rattle.std.proofs.Common.{arith, rules, ◌∙◌, sym, ℕ, Bool}
use Rattle.bridge_core.specs.ForwardingInside.{leads, goes_by}
use Rattle.bridge_core.proofs.Counts.{count_step, sent_whole}
use Rattle.bridge_core.proofs.Walks.{walk_step, ports_none}
use Rattle.bridge_core.proofs.forwarding.send_to_each.Goals as goal

pub loop-i-init : goal.loop-i-init
loop-i-init c = record { counters = search rules; egress = c.requires.empty ∙ sym (ports_none _); few = rw c.requires.empty (omega arith) }

pub loop-i-preserved : goal.loop-i-preserved
loop-i-preserved c =
    let test : ℕ → Bool = goes_by (leads c.args.way.now) c.args.from c.args.tree.now in
    record {
      counters = count_step test _ _ c.loop-i.i _ c.goes_by-goes.result c.loop-i-test.true c.loop-i.invariant.counters c.goes_by-goes.ensures c.send_one.ensures.counters;
      egress = walk_step test _ _ c.loop-i.i c.goes_by-goes.result c.loop-i.invariant.egress c.goes_by-goes.ensures c.send_one.ensures.egress;
      few = omega (arith, c.send_one.ensures.most, c.loop-i.invariant.few);
    }

pub returns-clause-counters : goal.returns-clause-counters
returns-clause-counters c = sent_whole _ _ _ c.loop-i.i c.loop-i-test.false c.loop-i.invariant.counters
