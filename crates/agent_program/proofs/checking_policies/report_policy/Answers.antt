use Rattle.std.proofs.Common.{ℕ, List, inl, subst, ◌∙◌}
use Rattle.agent_program.specs.Reporting.{IsReported}
use Rattle.agent_program.proofs.checking_policies.report_policy.Goals as goal

pub returns-in-Ok : goal.returns-in-Ok
returns-in-Ok g c = inl (subst (λ (text : List ℕ). IsReported g.O.Write.contents text c.args.writer.now c.write_out.new.writer c.write_out.result) (c.deref.ensures.value ∙ c.in-Ok.ensures) c.write_out.ensures)
