-- The spanning tree of a bridge, and what each event does to it (IEEE 802.1D-2004 clause 17).
use Rattle.std.specs.Prelude.{◌≡◌, ℕ, ◌+◌, ◌-◌, ◌%◌, ◌^◌, Bool, true, false, ◌&&◌, not, ◌==◌, if◌then◌else◌, nat_lt, min, List, [], ◌∷◌, ◌++◌, map, length, slice_index_or}
use Rattle.std.specs.List.{list_any}
use Rattle.std.proofs.Common.{zero, suc}
use Rattle.frame_core.specs.declared.mac.Mac.{Mac}
use Rattle.frame_core.specs.declared.bpdu.BridgeId.{BridgeId}
use Rattle.frame_core.specs.declared.bpdu.Times.{Times}
use Rattle.frame_core.specs.declared.bpdu.Bpdu.{Bpdu}
use Rattle.rstp_settings.specs.Table.{Table, IsPortOf, opening}
use Rattle.rstp_settings.specs.declared.config.PortConfig.{PortConfig}
use Rattle.rstp_rules.specs.declared.port.Port.{Port}
use Rattle.rstp_rules.specs.declared.row.PortInEvent.{PortInEvent}
use Rattle.rstp_rules.specs.declared.row.Context.{Context}
use Rattle.rstp_rules.specs.Vectors.{port_id}
use Rattle.rstp_rules.specs.Ports.{opening_port}
use Rattle.rstp_rules.specs.Lines.{own_id, row_of, timers_of, set_times, times_in_force, context_of}
use Rattle.rstp_settings.specs.Config.{no_config}
use Rattle.rstp_rules.specs.Roles.{after_expiry, candidates, own_best, IsBest}
use Rattle.rstp_rules.specs.Restarts.{after_link, after_settling}
use Rattle.rstp_rules.specs.Arrivals.{after_arrival}
use Rattle.rstp_rules.specs.Ticks.{after_tick}
use Rattle.rstp_rules.specs.Turns.{no_row}
use Rattle.rstp_rules.specs.Sends.{bpdu_of, after_sending, flushed_ports}
use Rattle.rstp_core.specs.Settled.{SettledValues, settled_of, settled_port}
use Rattle.rstp_core.specs.Passes.{rows_with_roles, ready}
use Rattle.rstp_core.specs.declared.facts.BridgeFacts.{BridgeFacts}
use Rattle.rstp_core.specs.declared.rstp.Outcome.{Outcome}

-- What the spanning tree of a bridge keeps.
pub record Tree : Type 0 where
  pub address : Mac
  pub config : List PortConfig
  pub ports : List Port
  pub facts : BridgeFacts
  pub settled : SettledValues

-- Whether it has a port: ports are numbered from 1.
abbrev pub HasPort : Tree → ℕ → Type 0
HasPort t port = IsPortOf (length t.ports) port

-- What a port holds.
abbrev pub port_at : Tree → ℕ → Port
port_at t port = slice_index_or t.ports (port - 1) no_row.port

-- What is configured of a port.
abbrev pub config_at : Tree → ℕ → PortConfig
config_at t port = slice_index_or t.config (port - 1) no_config

-- The rows of all ports, from this port on, as an event begins under the settings s, where w is
-- what was settled.
abbrev pub rows_from : Table → SettledValues → ℕ → List PortConfig → List Port → List PortInEvent
rows_from s w port [] ports = []
rows_from s w port (c ∷ configs) [] = []
rows_from s w port (c ∷ configs) (p ∷ ports) =
    row_of s (settled_port w port) port c p ∷ rows_from s w (port + 1) configs ports

abbrev pub rows_of : Table → Tree → List PortInEvent
rows_of s t = rows_from s t.settled 1 t.config t.ports

abbrev pub ports_of : List PortInEvent → List Port
ports_of rows = map (λ r. r.port) rows

-- Some port signals a topology change.
abbrev pub has_change : List Port → Bool
has_change ports = list_any (λ p. nat_lt 0 p.tc_while) ports

-- The root, the times in force, and the counts of topology changes, where one was signalled before
-- the event or not, and one is signalled after it or not. A topology change is counted where one is
-- signalled and none was. The seconds run from where none is signalled any more, or from the opening
-- where none was; they are 0 while one is signalled.
abbrev pub changes_after : ℕ → Bool → Bool → ℕ
changes_after n had has = if has && not had then (n + 1) % 2 ^ 32 else n

abbrev pub since_after : Bool → ℕ → Bool → ℕ
since_after tick n has = if has then 0 else (if tick then min (n + 1) 18446744073709551615 else n)

abbrev pub facts_after : Bool → Context → Bool → Bool → BridgeFacts → BridgeFacts
facts_after tick c had has f = record {
  root = c.root;
  times = c.times;
  topology_changes = changes_after f.topology_changes had has;
  since = since_after tick f.since has;
}

-- How each event ends, from the rows that the event's own part left: vectors that are too old are
-- received no longer; the root vector is a least element; the roles; the times in force; the
-- states; on a tick the hello step; and what is sent.
pub record Concludes (s : Table) (own : BridgeId) (tick : Bool) (was : Times) (old : List PortInEvent) (c : Context) (new : List PortInEvent) (out : Outcome) : Type 0 where
  pub root : IsBest (candidates own (map after_expiry old)) c.root
  pub context : c ≡ context_of s own c.root was (times_in_force (timers_of s) (rows_with_roles own c.root (map after_expiry old)))
  pub rows : new ≡ map (after_sending c) (ready tick c (rows_with_roles own c.root (map after_expiry old)))
  pub bpdus : out.bpdus.items ≡ map (bpdu_of c) (ready tick c (rows_with_roles own c.root (map after_expiry old)))
  pub flushed : out.flushed.items ≡ flushed_ports (ready tick c (rows_with_roles own c.root (map after_expiry old)))

-- What an event leaves of the tree and gives, where its own part left these rows.
pub record Ends (s : Table) (tick : Bool) (was : Times) (rows : List PortInEvent) (t u : Tree) (out : Outcome) : Type 0 where
  pub context : Context
  pub left : List PortInEvent
  pub concludes : Concludes s (own_id s t.address) tick was rows context left out
  pub tree : u ≡ record t {
    ports = ports_of left;
    facts = facts_after tick context (has_change t.ports) (has_change (ports_of left)) t.facts;
  }

-- The times in force as an event begins.
abbrev pub times_before : Table → Tree → Times
times_before s t = times_in_force (timers_of s) (rows_of s t)

-- A tick of one second.
abbrev pub Ticks : Table → Tree → Tree → Outcome → Type 0
Ticks s t u out = Ends s true (times_before s t) (map after_tick (rows_of s t)) t u out

-- A BPDU at a port.
abbrev pub Arrives : Table → ℕ → Bpdu → Tree → Tree → Outcome → Type 0
Arrives s port b t u out = Ends s false (times_before s t) (after_arrival s (own_id s t.address) port b (rows_of s t)) t u out

-- The link of a port is up, or down.
abbrev pub Links : Table → ℕ → Bool → Tree → Tree → Outcome → Type 0
Links s port up t u out =
    Ends s false (times_before s t) (map (after_link port up) (rows_of s t)) t u out

-- Settling finds that the version is another.
abbrev pub has_other_version : Table → SettledValues → Bool
has_other_version s w = not ((settled_of s).version == w.version)

-- Settling the settings. The version, the edge settings, enabling and the times in force are
-- measured against what was settled before; vectors against the event's start.
abbrev pub Settles : Table → Tree → Tree → Outcome → Type 0
Settles s t u out =
    Ends s false (times_in_force t.settled.timers (rows_of s t)) (map (after_settling (has_other_version s t.settled)) (rows_of s t)) (record t { settled = settled_of s }) u out

-- The opening: all links down, the opening settings settled, this bridge root. Each port holds its
-- designated vector.
abbrev pub opening_port_of : BridgeId → Times → ℕ → Port
opening_port_of own times port =
    opening_port (record { root = own; cost = 0; bridge = own; port = port_id 128 port }) times

abbrev pub opening_ports : BridgeId → Times → ℕ → List Port
opening_ports own times zero = []
opening_ports own times (suc n) =
    opening_ports own times n ++ opening_port_of own times (n + 1) ∷ []

abbrev pub opening_tree : Mac → List PortConfig → Tree
opening_tree address configs =
    let s = opening (length configs) in
    record {
      address = address;
      config = configs;
      ports = opening_ports (own_id s address) (set_times (timers_of s)) (length configs);
      facts = record { root = own_best (own_id s address); times = set_times (timers_of s); topology_changes = 0; since = 0 };
      settled = settled_of s;
    }
