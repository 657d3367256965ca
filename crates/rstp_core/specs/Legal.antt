-- What holds of settings and spanning tree between events, where each change of settings has been
-- settled.
use Rattle.std.specs.Prelude.{◌≡◌, ℕ, ◌+◌, ◌<◌, true, false, List, length, slice_index_or, All}
use Rattle.rstp_settings.specs.Table.{Table}
use Rattle.rstp_rules.specs.declared.row.PortInEvent.{PortInEvent}
use Rattle.rstp_rules.specs.Ports.{is_root_or_designated, is_discarding}
use Rattle.rstp_rules.specs.Lines.{own_id}
use Rattle.rstp_rules.specs.Roles.{candidates, own_best, IsBest}
use Rattle.rstp_rules.specs.Turns.{no_row}
use Rattle.rstp_core.specs.Settled.{settled_of}
use Rattle.rstp_core.specs.Passes.{rows_with_roles}
use Rattle.rstp_core.specs.Tree.{Tree, rows_of}

-- A port that learns or forwards is on, and is a root or designated port (IEEE 802.1D-2004 7.4,
-- 17.29, 17.30).
pub record IsActive (r : PortInEvent) : Type 0 where
  pub on : r.inputs.on ≡ true
  pub role : is_root_or_designated r.port.role ≡ true

abbrev pub MayLearn : PortInEvent → Type 0
MayLearn r = is_discarding r.port.state ≡ false → IsActive r

-- The roles of the whole tree (17.21.25): the root vector is the best of the candidates of the
-- ports as they are, and each port has the information, the role and the vector that it gives:
-- choosing the roles again changes nothing.
pub record HasRoles (s : Table) (t : Tree) : Type 0 where
  pub root : IsBest (candidates (own_id s t.address) (rows_of s t)) t.facts.root
  pub ports : rows_with_roles (own_id s t.address) t.facts.root (rows_of s t) ≡ rows_of s t

-- Each port has a configuration; what was settled is the settings; the roles are those of the whole
-- tree; and only active ports learn or forward.
pub record IsLegal (s : Table) (t : Tree) : Type 0 where
  pub configured : length t.config ≡ length t.ports
  pub settled : t.settled ≡ settled_of s
  pub roles : HasRoles s t
  pub active : All MayLearn (rows_of s t)

-- The rows are of port 1, port 2, .., in this order.
abbrev pub AreNumbered : List PortInEvent → Type 0
AreNumbered rows = (k : ℕ) → k < length rows → (slice_index_or rows k no_row).inputs.number ≡ k + 1

-- The root vector is this bridge's own: it is the root.
abbrev pub IsRootBridge : Table → Tree → Type 0
IsRootBridge s t = t.facts.root ≡ own_best (own_id s t.address)

-- A later tree of the same bridge.
pub record IsSameBridge (t u : Tree) : Type 0 where
  pub address : u.address ≡ t.address
  pub config : u.config ≡ t.config
