-- How often a wire has failed, by how an event ended its line.
use Rattle.std.proofs.Common.{◌≡◌, ℕ, refl}
use Rattle.std.specs.Prelude.{Option, Some, None}
use Rattle.wire_core.specs.declared.wire.WireFault.{WireFault}
use Rattle.history_core.specs.declared.applied.Applied.{Applied}
use Rattle.history_core.specs.declared.applied.Applied.TheVariants.{Done, Dropped, Short, HistoryFull}
use Rattle.live_sending.specs.Sending.{failures_after}
use Rattle.live_agent.specs.Lines.{end_after_link}
use Rattle.live_agent.specs.Turns.{end_after}
use Rattle.live_agent.specs.Runs.{failures_by}

pub failures_noted : (a : Applied) (fault : Option WireFault) (n : ℕ) → failures_after fault n ≡ failures_by (end_after a fault) n
failures_noted a (Some fault) n = refl
failures_noted (Done r audit) None n = refl
failures_noted (Dropped r cause audit) None n = refl
failures_noted (Short back) None n = refl
failures_noted (HistoryFull back) None n = refl

pub failures_linked : (a : Applied) (fault : Option WireFault) (n : ℕ) → failures_after fault n ≡ failures_by (end_after_link a fault) n
failures_linked a (Some fault) n = refl
failures_linked (Done r audit) None n = refl
failures_linked (Dropped r cause audit) None n = refl
failures_linked (Short back) None n = refl
failures_linked (HistoryFull back) None n = refl
