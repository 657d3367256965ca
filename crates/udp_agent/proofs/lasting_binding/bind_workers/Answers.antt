use Rattle.std.proofs.Common.{rules, ◌≡◌, sym, subst}
use Rattle.std.specs.List.{All}
use Rattle.std.proofs.lemmas.List.Elements.{All-push}
use Rattle.live_audit.specs.Audited.{is_audited}
use Rattle.udp_agent.specs.Binding.{is_audited_worker}
use Rattle.udp_agent.proofs.lasting_binding.bind_workers.Goals as goal

pub loop-preserved : goal.loop-preserved
loop-preserved g c = record {
  count = search rules;
  audited = subst (All (λ worker. is_audited_worker worker ≡ is_audited c.args.audits.now)) (sym c.in_ok-push.ensures.items)
      (All-push (λ worker. is_audited_worker worker ≡ is_audited c.args.audits.now) c.loop.workers.items c.in_ok-worker_over.field-0 c.loop.invariant.audited c.in_ok-worker_over.ensures);
}
