-- The root vector and the port roles (IEEE 802.1D-2004 17.6, 17.21.25, 17.28).
use Rattle.std.specs.Prelude.{◌≡◌, ◌+◌, Bool, false, ◌&&◌, not, if◌then◌else◌, ◌==◌, min, List, ◌∷◌, Option, Some, None, All, Contains}
use Rattle.std.specs.List.{filter_map}
use Rattle.std.specs.declared.cmp.Ordering.{Ordering}
use Rattle.std.specs.Ordering.{nat_cmp, ordering_then, is_lt}
use Rattle.frame_core.specs.declared.bpdu.BridgeId.{BridgeId}
use Rattle.frame_core.specs.declared.bpdu.PriorityVector.{PriorityVector}
use Rattle.rstp_rules.specs.declared.row.Best.{Best}
use Rattle.rstp_rules.specs.declared.row.PortInputs.{PortInputs}
use Rattle.rstp_rules.specs.declared.row.PortInEvent.{PortInEvent}
use Rattle.rstp_rules.specs.declared.port.Info.TheVariants.{Mine}
use Rattle.rstp_rules.specs.declared.port.Role.TheVariants.{Disabled, Designated, Root, Alternate, Backup}
use Rattle.rstp_rules.specs.Ports.{is_received}
use Rattle.rstp_rules.specs.Vectors.{vector_cmp}
use Rattle.frame_core.specs.Octets.{same_mac}

-- Where two vectors are equal, the receiving port's own id decides.
abbrev pub best_cmp : Best → Best → Ordering
best_cmp a b = ordering_then (vector_cmp a.vector b.vector) (nat_cmp a.receiver b.receiver)

abbrev pub beats : Best → Best → Bool
beats a b = is_lt (best_cmp a b)

-- 17.21.23, 17.27. A received vector whose time is over is received no longer.
abbrev pub after_expiry : PortInEvent → PortInEvent
after_expiry r = if is_received r.port.info && r.port.rcvd_info_while == 0
    then record r { port = record r.port { info = Mine } }
    else r

-- The bridge's own vector: its id as root and bridge, no cost, no port.
abbrev pub own_best : BridgeId → Best
own_best own =
    record { vector = record { root = own; cost = 0; bridge = own; port = 0 }; receiver = 0 }

-- What a port that is on offers for the root vector: a received vector of another bridge, with the
-- port's cost added, at most 4294967295.
abbrev pub candidate : BridgeId → PortInEvent → Option Best
candidate own r = if r.inputs.on && is_received r.port.info && not (same_mac r.port.vector.bridge.address own.address)
    then Some (record { vector = record r.port.vector { cost = min (r.port.vector.cost + r.inputs.cost) 4294967295 }; receiver = r.inputs.id })
    else None

abbrev pub candidates : BridgeId → List PortInEvent → List Best
candidates own rows = own_best own ∷ filter_map (candidate own) rows

-- The better of a vector and what a port may offer.
abbrev pub or_better : Best → Option Best → Best
or_better b None = b
or_better b (Some c) = if beats c b then c else b

-- The root vector is a least element of the candidates: one of them, beaten by none.
pub record IsBest (bs : List Best) (b : Best) : Type 0 where
  pub one : Contains bs b
  pub least : All (λ c. beats c b ≡ false) bs

-- 17.19.4. The vector of a designated port.
abbrev pub designated_vector : BridgeId → Best → PortInputs → PriorityVector
designated_vector own root l =
    record { root = root.vector.root; cost = root.vector.cost; bridge = own; port = l.id }

-- A port that is not received holds its designated vector.
abbrev pub with_designated_vector : BridgeId → Best → PortInEvent → PortInEvent
with_designated_vector own root r = record r { port = record r.port { info = Mine; role = Designated; vector = designated_vector own root r.inputs } }

-- 17.21.25. The role of a port: disabled where it is off; designated where its vector is its own;
-- root where the root vector came by it; designated where its designated vector is better than its
-- vector; backup where its vector is of this bridge; and else alternate. A port that is off holds
-- its designated vector too.
abbrev pub with_role : BridgeId → Best → PortInEvent → PortInEvent
with_role own root r =
    if not r.inputs.on then record r { port = record r.port { role = Disabled; vector = designated_vector own root r.inputs } }
    else (if not (is_received r.port.info) then with_designated_vector own root r
    else (if root.receiver == r.inputs.id then record r { port = record r.port { role = Root } }
    else (if is_lt (vector_cmp (designated_vector own root r.inputs) r.port.vector) then with_designated_vector own root r
    else (if same_mac r.port.vector.bridge.address own.address then record r { port = record r.port { role = Backup } }
    else record r { port = record r.port { role = Alternate } }))))
