use Rattle.history_core.specs.declared.event.Event.TheVariants.{Tick}
use Rattle.script_core.specs.Runs.{Adds}
use Rattle.agent_script.specs.Sessions.{SaysOfEvents}
use Rattle.agent_script.proofs.agent.Agent.ticks.Given as goal

-- so many seconds have passed, and what was added is written for them
abbrev pub invariant-loop-i : goal.invariant-loop-i
invariant-loop-i g l = Adds l.initial.out.items l.out.items (λ stated. SaysOfEvents Tick l.i l.initial.self stated l.self l.whole)
