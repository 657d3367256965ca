-- Identifiers, priority vectors and their order (IEEE 802.1D-2004 9.2.5, 9.2.7, 17.5, 17.6).
use Rattle.std.specs.Prelude.{ℕ, ◌+◌, ◌*◌, ◌/◌, ◌%◌, Bool, ◌&&◌, ◌==◌, if◌then◌else◌, nat_lt}
use Rattle.std.specs.declared.cmp.Ordering.{Ordering}
use Rattle.std.specs.Ordering.{nat_cmp, ordering_then}
use Rattle.frame_core.specs.Octets.{mac_cmp, same_mac}
use Rattle.frame_core.specs.declared.bpdu.BridgeId.{BridgeId}
use Rattle.frame_core.specs.declared.bpdu.PriorityVector.{PriorityVector}
use Rattle.frame_core.specs.declared.bpdu.Times.{Times}

-- 9.2.7. A port id is 256 x port priority + number; its number is in the low twelve bits.
abbrev pub port_id : ℕ → ℕ → ℕ
port_id priority port = 256 * priority + port

abbrev pub port_number : ℕ → ℕ
port_number id = id % 4096

-- 9.2.5. A bridge id is the priority in two octets and the address in six, compared as one unsigned
-- number: by priority and then octet by octet.
abbrev pub bridge_cmp : BridgeId → BridgeId → Ordering
bridge_cmp a b = ordering_then (nat_cmp a.priority b.priority) (mac_cmp a.address b.address)

-- 17.5, 17.6. Root id, cost, bridge id and port id are compared in that order. Lower is better.
abbrev pub vector_cmp : PriorityVector → PriorityVector → Ordering
vector_cmp v w = ordering_then (bridge_cmp v.root w.root) (ordering_then (nat_cmp v.cost w.cost) (ordering_then (bridge_cmp v.bridge w.bridge) (nat_cmp v.port w.port)))

abbrev pub same_bridge : BridgeId → BridgeId → Bool
same_bridge a b = a.priority == b.priority && same_mac a.address b.address

abbrev pub same_vector : PriorityVector → PriorityVector → Bool
same_vector v w = same_bridge v.root w.root && v.cost == w.cost && same_bridge v.bridge w.bridge && v.port == w.port

-- All four times count.
abbrev pub same_times : Times → Times → Bool
same_times t u = t.message_age == u.message_age && t.max_age == u.max_age && t.hello == u.hello && t.forward_delay == u.forward_delay

-- 17.6. The sender of a vector is the address in its bridge id and the number in its port id.
abbrev pub same_sender : PriorityVector → PriorityVector → Bool
same_sender v w =
    same_mac v.bridge.address w.bridge.address && port_number v.port == port_number w.port

-- 17.21.23. How many seconds a vector with these times is kept: none where its age, one second
-- later, is past the maximum; else three hello times, rounded up.
abbrev pub info_time : Times → ℕ
info_time t = if nat_lt t.max_age (t.message_age + 256) then 0 else (3 * t.hello + 255) / 256
