-- What may happen to a bridge, one after another, from the opening on. Each change of settings is
-- followed by settling them before anything else happens.
use Rattle.std.specs.Prelude.{◌≡◌, ◌≢◌, ◌⊎◌, ℕ, Bool, true, false, ◌&&◌, if◌then◌else◌, List, [], ◌∷◌, length}
use Rattle.frame_core.specs.declared.mac.Mac.{Mac}
use Rattle.frame_core.specs.declared.bpdu.Bpdu.{Bpdu}
use Rattle.rstp_settings.specs.Table.{Table, get, opening, without_migration_checks}
use Rattle.rstp_settings.specs.declared.key.Key.TheVariants as key
use Rattle.rstp_settings.specs.declared.key.BridgeKey.TheVariants as bridge
use Rattle.rstp_settings.specs.declared.config.PortConfig.{PortConfig}
use Rattle.rstp_rules.specs.declared.port.Role.TheVariants.{Disabled, Designated, Root}
use Rattle.rstp_rules.specs.declared.port.State.TheVariants.{Discarding, Forwarding}
use Rattle.rstp_rules.specs.Lines.{enabled_by, edge_by, rstp_version}
use Rattle.rstp_rules.specs.Ports.{is_root_or_designated, is_discarding}
use Rattle.rstp_core.specs.declared.rstp.Outcome.{Outcome}
use Rattle.rstp_core.specs.Tree.{Tree, HasPort, port_at, opening_tree, Ticks, Arrives, Links, Settles}
use Rattle.rstp_core.specs.Steps.{Event, tick_event, link_event, arrival_event, settling_event}

pub data Happening : Type 0 where
  -- a second passes
  Tick : Happening
  -- the link of a port is up, or down
  Link : (port : ℕ) (up : Bool) → Happening
  -- a BPDU comes by a port
  Message : (port : ℕ) (b : Bpdu) → Happening
  -- the settings become s, and are settled
  Settle : (s : Table) → Happening

-- From the settings s and the tree t to the settings r and the tree u.
abbrev pub Happens : Happening → Table → Tree → Table → Tree → Outcome → Type 0
Happens Tick s t r u out = (r ≡ s) × Ticks s t u out
Happens (Link port up) s t r u out = (r ≡ s) × Links s port up t u out
Happens (Message port b) s t r u out = (r ≡ s) × Arrives s port b t u out
Happens (Settle v) s t r u out = (r ≡ without_migration_checks v) × Settles v t u out

-- A list of happenings, the latest first, leads from the settings s and the tree t to the settings
-- r and the tree u.
abbrev pub Leads : Table → Tree → List Happening → Table → Tree → Type 0
Leads s t [] r u = (r ≡ s) × (u ≡ t)
Leads s t (h ∷ past) r u =
    (v : Table) × (w : Tree) × (out : Outcome) × Leads s t past v w × Happens h v w r u out

-- It leads there from the opening.
abbrev pub Runs : Mac → List PortConfig → List Happening → Table → Tree → Type 0
Runs address configs hs s t = Leads (opening (length configs)) (opening_tree address configs) hs s t

pub record IsRootPort (t : Tree) (port : ℕ) : Type 0 where
  pub has_port : HasPort t port
  pub root : (port_at t port).role ≡ Root

-- A port that learned or forwarded is now disabled, alternate or backup.
pub record LeavesActivity (t u : Tree) (port : ℕ) : Type 0 where
  pub has_port : HasPort t port
  pub learned : is_discarding (port_at t port).state ≡ false
  pub now : is_root_or_designated (port_at u port).role ≡ false

-- A happening as an event, by its own part.
abbrev pub event_by : Happening → Table → Tree → Event
event_by Tick s t = tick_event s t
event_by (Link port up) s t = link_event s port up t
event_by (Message port b) s t = arrival_event s port b t
event_by (Settle v) s t = settling_event v t

abbrev pub version_of : Table → ℕ
version_of s = get s (key.Bridge bridge.Version)

-- A port is on: enabled by its setting, and its link is up.
abbrev pub is_on : Table → Tree → ℕ → Bool
is_on s t port = enabled_by s port && (port_at t port).link

-- A port starts anew: its link changes while it is enabled; settling finds another version; or,
-- with its link up, settling finds that it was enabled and is not, or is and was not.
abbrev pub Restarts : Happening → Table → Tree → ℕ → Type 0
Restarts Tick s t port = ⊥
Restarts (Message other b) s t port = ⊥
Restarts (Link other up) s t port =
    (other ≡ port) × (enabled_by s port ≡ true) × ((port_at t port).link ≢ up)
Restarts (Settle v) s t port = (version_of v ≢ version_of s) ⊎ (((port_at t port).link ≡ true) × (enabled_by v port ≢ enabled_by s port))

-- A port that started anew: where it is off it is disabled and discards. Where it is on it is
-- designated and discards; but under version 2 it forwards at once where it is set to be at the
-- edge.
pub record IsAnew (s : Table) (t : Tree) (port : ℕ) : Type 0 where
  pub role : (port_at t port).role ≡ (if is_on s t port then Designated else Disabled)
  pub state : (port_at t port).state ≡ (if is_on s t port && rstp_version s && edge_by s port then Forwarding else Discarding)
