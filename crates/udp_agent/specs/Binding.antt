-- The lines of a setup, and what they have in common.
use Rattle.std.specs.Prelude.{◌≡◌, ℕ, ◌+◌, ◌-◌, ◌≤◌, Bool, true, false, List, map, vec_len, length, slice_get, Some, option_map, All}
use Rattle.std.specs.declared.net.socket_addr.SocketAddr.{SocketAddr}
use Rattle.live_agent.specs.declared.gate.Gated.{Gated}
use Rattle.live_agent.specs.declared.plan.Plan.{Plan}
use Rattle.live_audit.specs.Audited.{is_audited}
use Rattle.live_audit.specs.declared.auditing.Auditing.{Auditing}
use Rattle.live_run.specs.declared.lines.Lines.{Lines}
use Rattle.udp_agent.specs.declared.begin_fault.BeginFault.{BeginFault}
use Rattle.udp_agent.specs.declared.begin_fault.BeginFault.TheVariants.{Unbound, System}
use Rattle.udp_agent.specs.declared.begin_fault.SetupSocket.{SetupSocket}
use Rattle.udp_agent.specs.declared.begin_fault.SetupSocket.TheVariants.{Requests, Listen}
use Rattle.udp_agent.specs.declared.setup.PortSockets.{PortSockets}
use Rattle.udp_agent.specs.declared.setup.Setup.{Setup}

-- What the lines of a setup have in common: its rounds, its bridge's address, and for each port, in
-- their order, where its frames go.
pub record IsPlan (setup : Setup) (plan : Plan) : Type 0 where
  pub rounds_are : plan.rounds ≡ setup.serve.rounds
  pub source_is : plan.source ≡ setup.address
  pub peers_are : plan.peers.items ≡ map (λ port. port.peer) setup.ports.items

-- as many lines as a setup has: a worker for each thread that is to answer, and a line for each port
pub record AreLines {A W T : Type 0} (setup : Setup) (lines : Lines A W T) : Type 0 where
  pub workers : vec_len lines.workers ≡ setup.serve.workers
  pub ports : vec_len lines.ports ≡ length setup.ports.items

-- whether the requests of a worker with such a gate are audited
abbrev pub is_audited_worker : {W : Type 0} → Gated W Auditing → Bool
is_audited_worker worker = is_audited worker.gate

-- The requests of every worker are audited, where that is asked for; else those of none are.
abbrev pub AreAudited : {A W T : Type 0} → (A → Bool) → Bool → Lines A W T → Type 0
AreAudited is_worker_audited asked lines =
    All (λ worker. is_worker_audited worker ≡ asked) lines.workers.items

-- one, where there is such a task
abbrev pub one_where : Bool → ℕ
one_where true = 1
one_where false = 0

-- The tasks of an agent without an end: its workers, its ports, its clock, the task that writes the log and
-- the audits, and where there is one, the line of the control socket.
abbrev pub tasks_of : ℕ → ℕ → Bool → ℕ
tasks_of workers ports controlled = workers + ports + 2 + one_where controlled

-- This socket could not be bound to this address.
abbrev pub IsUnbound : SetupSocket → SocketAddr → BeginFault → Type 0
IsUnbound socket address (Unbound named at why) = (named ≡ socket) × (at ≡ address)
IsUnbound socket address (System why) = ⊥

-- A fault names the socket of requests at its address, or none.
abbrev pub IsRequestsFault : SocketAddr → BeginFault → Type 0
IsRequestsFault address (Unbound Requests at why) = at ≡ address
IsRequestsFault address (Unbound (Listen number) at why) = ⊥
IsRequestsFault address (System why) = Unit {0}

-- A fault names the socket of one of these ports, counted from 1, at the address where its frames come in.
abbrev pub IsPortFault : List PortSockets → BeginFault → Type 0
IsPortFault ports (Unbound (Listen number) at why) =
    (1 ≤ number) × (option_map (λ port. port.listen) (slice_get ports (number - 1)) ≡ Some at)
IsPortFault ports (Unbound Requests at why) = ⊥
IsPortFault ports (System why) = ⊥

-- A fault names a socket of a setup at its address, or none.
abbrev pub IsFaultOf : Setup → BeginFault → Type 0
IsFaultOf setup (Unbound Requests at why) = IsRequestsFault setup.serve.snmp (Unbound Requests at why)
IsFaultOf setup (Unbound (Listen number) at why) =
    IsPortFault setup.ports.items (Unbound (Listen number) at why)
IsFaultOf setup (System why) = Unit {0}
