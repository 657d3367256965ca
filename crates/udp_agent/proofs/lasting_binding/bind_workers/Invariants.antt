use Rattle.std.proofs.Common.{◌≡◌, length}
use Rattle.std.specs.List.{All}
use Rattle.live_audit.specs.Audited.{is_audited}
use Rattle.udp_agent.specs.Binding.{is_audited_worker}
use Rattle.udp_agent.proofs.lasting_binding.bind_workers.Given as goal

-- a wire for each turn so far, audited where that is asked for
abbrev pub invariant-loop : goal.invariant-loop
invariant-loop g l = record {
  count : length l.workers.items ≡ l.counter;
  audited : All (λ worker. is_audited_worker worker ≡ is_audited l.audits) l.workers.items;
}
