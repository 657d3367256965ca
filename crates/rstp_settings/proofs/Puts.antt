-- What a put leaves: the setting of its key is the new one, and every other as before.
use Rattle.std.proofs.Common.{◌≡◌, ◌≢◌, ℕ, ◌+◌, ◌-◌, ◌<◌, ◌≤◌, Bool, true, false, cond, ◌&&◌, eqb, List, ◌++◌, map, take, drop, length, get_or, set, refl, sym, ap, subst, ◌∙◌, inl, inr, arith}
use Rattle.std.proofs.lemmas.List.{get_or-set_same, get_or-set_other, set-get_or, length-set, set-set, length-map, get_or-map, get_or_default, set_comm, ext_get_or}
use Rattle.std.proofs.lemmas.List.Edits.{map_over_more}
use Rattle.std.specs.List.{refill}
use Rattle.std.proofs.Math.Seq.{take-append_seam}
use Rattle.std.proofs.lemmas.Bool.Decides.{eqb_tells}
use Rattle.std.proofs.lemmas.Map.Views.{exact_unsigned_eq}
use Rattle.rstp_settings.specs.declared.key.BridgeKey.{BridgeKey}
use Rattle.rstp_settings.specs.declared.key.BridgeKey.TheVariants as bridge
use Rattle.rstp_settings.specs.declared.key.PortKey.{PortKey}
use Rattle.rstp_settings.specs.declared.key.PortKey.TheVariants as port
use Rattle.rstp_settings.specs.declared.key.Key.{Key}
use Rattle.rstp_settings.specs.declared.key.Key.TheVariants.{Bridge, Port}
use Rattle.rstp_settings.specs.declared.key.BridgeValues.{BridgeValues}
use Rattle.rstp_settings.specs.declared.key.PortValues.{PortValues}
use Rattle.rstp_settings.specs.Values.{bridge_value, with_bridge_value, port_value, with_port_value, IsBridgeRange, IsPortRange, same_bridge_key, same_port_key}
use Rattle.rstp_settings.specs.Table.{Table, no_values, port_at, HasKey, get, put, IsInRange, IsValid, same_key, without_migration_checks, without_migration_check}

-- what the slice of an ArrayVec leaves, where it has the length that it had
pub refill_same : {X : Type 0} (xs ws : List X) → length ws ≡ length xs → refill (length xs) xs ws ≡ ws
refill_same xs ws same = rw (← same, take-append_seam)

-- a loop that replaces each element x by f x
pub map_step : {X : Type 0} (f : X → X) (xs ys : List X) (i : ℕ) (d y : X) → i < length ys → length ys ≡ length xs → ys ≡ map f (take i xs) ++ drop i xs → y ≡ f (get_or ys i d) → set ys i y ≡ map f (take (i + 1) xs) ++ drop (i + 1) xs
map_step f xs ys i d y within same inv e =
    ap (set ys i) e ∙ map_over_more f xs ys i (get_or ys i d) (omega arith) inv (get_or_default ys i d (get_or ys i d) within)

-- a clause on each constructor makes the last one go through all other pairs
pub bridge_value-with : (b : BridgeValues) (k l : BridgeKey) (v : ℕ) → bridge_value (with_bridge_value b k v) l ≡ cond (same_bridge_key k l) v (bridge_value b l)
bridge_value-with b bridge.Priority bridge.Priority v = refl
bridge_value-with b bridge.MaxAge bridge.MaxAge v = refl
bridge_value-with b bridge.Hello bridge.Hello v = refl
bridge_value-with b bridge.ForwardDelay bridge.ForwardDelay v = refl
bridge_value-with b bridge.Version bridge.Version v = refl
bridge_value-with b bridge.HoldCount bridge.HoldCount v = refl
bridge_value-with b bridge.Aging bridge.Aging v = refl
bridge_value-with b k l v = refl

pub bridge_value-back : (b : BridgeValues) (k : BridgeKey) (v : ℕ) → with_bridge_value (with_bridge_value b k v) k (bridge_value b k) ≡ b
bridge_value-back b bridge.Priority v = refl
bridge_value-back b k v = refl

pub port_value-with : (p : PortValues) (k l : PortKey) (v : ℕ) → port_value (with_port_value p k v) l ≡ cond (same_port_key k l) v (port_value p l)
port_value-with p port.Priority port.Priority v = refl
port_value-with p port.Enable port.Enable v = refl
port_value-with p port.Cost port.Cost v = refl
port_value-with p port.Migrate port.Migrate v = refl
port_value-with p port.Edge port.Edge v = refl
port_value-with p port.PointToPoint port.PointToPoint v = refl
port_value-with p k l v = refl

pub port_value-back : (p : PortValues) (k : PortKey) (v : ℕ) → with_port_value (with_port_value p k v) k (port_value p k) ≡ p
port_value-back p port.Priority v = refl
port_value-back p k v = refl

same_bridge_key-is : (k l : BridgeKey) → same_bridge_key k l ≡ true → k ≡ l
same_bridge_key-is bridge.Priority bridge.Priority e = refl
same_bridge_key-is bridge.MaxAge bridge.MaxAge e = refl
same_bridge_key-is bridge.Hello bridge.Hello e = refl
same_bridge_key-is bridge.ForwardDelay bridge.ForwardDelay e = refl
same_bridge_key-is bridge.Version bridge.Version e = refl
same_bridge_key-is bridge.HoldCount bridge.HoldCount e = refl
same_bridge_key-is bridge.Aging bridge.Aging e = refl
same_bridge_key-is k l e = cc

same_port_key-is : (k l : PortKey) → same_port_key k l ≡ true → k ≡ l
same_port_key-is port.Priority port.Priority e = refl
same_port_key-is port.Enable port.Enable e = refl
same_port_key-is port.Cost port.Cost e = refl
same_port_key-is port.Migrate port.Migrate e = refl
same_port_key-is port.Edge port.Edge e = refl
same_port_key-is port.PointToPoint port.PointToPoint e = refl
same_port_key-is k l e = cc

-- what each setting is after one was put
get_port-put : (ps : List PortValues) (n m : ℕ) (k l : PortKey) (v : ℕ) → 1 ≤ n → n ≤ length ps → 1 ≤ m → port_value (get_or (set ps (n - 1) (with_port_value (get_or ps (n - 1) no_values) k v)) (m - 1) no_values) l ≡ cond (eqb n m && same_port_key k l) v (port_value (get_or ps (m - 1) no_values) l)
get_port-put ps n m k l v low high low' =
    elim (eqb_tells n m) [
      | inl e ↦ same e.0 e.1
      | inr h ↦ let other : m - 1 ≢ n - 1 = λ e. h.1 (omega arith) in rw (h.0, get_or-set_other ps (n - 1) (m - 1) _ no_values other)
    ] where
      same : eqb n m ≡ true → n ≡ m → port_value (get_or (set ps (n - 1) (with_port_value (get_or ps (n - 1) no_values) k v)) (m - 1) no_values) l ≡ cond (eqb n m && same_port_key k l) v (port_value (get_or ps (m - 1) no_values) l)
      same t e = rw (t, ← e, get_or-set_same ps (n - 1) (with_port_value (get_or ps (n - 1) no_values) k v) no_values (omega arith)) (port_value-with (get_or ps (n - 1) no_values) k l v)

pub get-put : (t : Table) (k l : Key) (v : ℕ) → HasKey t k → HasKey t l → get (put t k v) l ≡ cond (same_key k l) v (get t l)
get-put t (Bridge k) (Bridge l) v h i = bridge_value-with t.bridge k l v
get-put t (Bridge k) (Port m l) v h i = refl
get-put t (Port n k) (Bridge l) v h i = refl
get-put t (Port n k) (Port m l) v h i = get_port-put t.ports n m k l v h.0 h.1 i.0

set-back : (ps : List PortValues) (i : ℕ) (k : PortKey) (v : ℕ) → i < length ps → set (set ps i (with_port_value (get_or ps i no_values) k v)) i (with_port_value (get_or (set ps i (with_port_value (get_or ps i no_values) k v)) i no_values) k (port_value (get_or ps i no_values) k)) ≡ ps
set-back ps i k v within = rw (get_or-set_same ps i (with_port_value (get_or ps i no_values) k v) no_values within, port_value-back (get_or ps i no_values) k v, set-set ps i _ (get_or ps i no_values)) (set-get_or ps i no_values)

-- a put of the old value restores all settings
pub put-back : (t : Table) (k : Key) (v : ℕ) → HasKey t k → put (put t k v) k (get t k) ≡ t
put-back t (Bridge k) v h = ap (λ (b : BridgeValues). record { bridge = b; ports = t.ports }) (bridge_value-back t.bridge k v)
put-back t (Port n k) v h = ap (λ (ps : List PortValues). record { bridge = t.bridge; ports = ps }) (set-back t.ports (n - 1) k v (omega (arith, h.0, h.1)))

pub same_key-is : (k l : Key) → same_key k l ≡ true → k ≡ l
same_key-is (Bridge k) (Bridge l) e = ap Bridge (same_bridge_key-is k l e)
same_key-is (Port n k) (Port m l) e = same_ports n m k l (eqb n m) refl e where
  same_ports : (n m : ℕ) (k l : PortKey) (b : Bool) → eqb n m ≡ b → (b && same_port_key k l) ≡ true → Port n k ≡ Port m l
  same_ports n m k l true s e = let p = exact_unsigned_eq n m s in let q = same_port_key-is k l e in cc
  same_ports n m k l false s e = cc
same_key-is (Bridge k) (Port m l) e = cc
same_key-is (Port n k) (Bridge l) e = cc

HasKey-put : (t : Table) (k l : Key) (v : ℕ) → HasKey (put t k v) l → HasKey t l
HasKey-put t k (Bridge l) v h = tt
HasKey-put t (Bridge k) (Port m l) v h = h
HasKey-put t (Port n k) (Port m l) v h = (h.0, omega (arith, h.1, length-set {A = PortValues}))

-- a value of its range leaves all settings in their ranges
pub IsValid-put : (t : Table) (k : Key) (v : ℕ) → IsValid t → HasKey t k → IsInRange k v → IsValid (put t k v)
IsValid-put t k v valid has fits l there =
    let has' = HasKey-put t k l v there in
    rw (get-put t k l v has has') (chosen (same_key k l) refl) where
      chosen : (b : Bool) → same_key k l ≡ b → IsInRange l (cond b v (get t l))
      chosen true e = subst (λ (j : Key). IsInRange j v) (same_key-is k l e) fits
      chosen false e = valid l (HasKey-put t k l v there)

spent_in_range : (p : PortValues) (k : PortKey) → IsPortRange k (port_value p k) → IsPortRange k (port_value (without_migration_check p) k)
spent_in_range p port.Migrate h = omega arith
spent_in_range p k h = h

pub IsValid-spent : (t : Table) → IsValid t → IsValid (without_migration_checks t)
IsValid-spent t valid (Bridge k) h = valid (Bridge k) tt
IsValid-spent t valid (Port n k) h =
    let few : n ≤ length t.ports = omega (arith, h.1, length-map t.ports without_migration_check) in
    let there : n - 1 < length t.ports = omega (arith, h.0) in
    rw (get_or-map without_migration_check t.ports (n - 1) no_values no_values there) (spent_in_range (port_at t n) k (valid (Port n k) (h.0, few)))

-- puts of two different settings
with_bridge_values-comm : (b : BridgeValues) (k l : BridgeKey) (v w : ℕ) → same_bridge_key k l ≡ false → with_bridge_value (with_bridge_value b k v) l w ≡ with_bridge_value (with_bridge_value b l w) k v
with_bridge_values-comm b bridge.Priority bridge.Priority v w e = cc
with_bridge_values-comm b bridge.MaxAge bridge.MaxAge v w e = cc
with_bridge_values-comm b bridge.Hello bridge.Hello v w e = cc
with_bridge_values-comm b bridge.ForwardDelay bridge.ForwardDelay v w e = cc
with_bridge_values-comm b bridge.Version bridge.Version v w e = cc
with_bridge_values-comm b bridge.HoldCount bridge.HoldCount v w e = cc
with_bridge_values-comm b bridge.Aging bridge.Aging v w e = cc
with_bridge_values-comm b k l v w e = refl

with_port_values-comm : (p : PortValues) (k l : PortKey) (v w : ℕ) → same_port_key k l ≡ false → with_port_value (with_port_value p k v) l w ≡ with_port_value (with_port_value p l w) k v
with_port_values-comm p port.Priority port.Priority v w e = cc
with_port_values-comm p port.Enable port.Enable v w e = cc
with_port_values-comm p port.Cost port.Cost v w e = cc
with_port_values-comm p port.Migrate port.Migrate v w e = cc
with_port_values-comm p port.Edge port.Edge v w e = cc
with_port_values-comm p port.PointToPoint port.PointToPoint v w e = cc
with_port_values-comm p k l v w e = refl

-- at two places of the list
puts_apart : (ps : List PortValues) (i j : ℕ) (k l : PortKey) (v w : ℕ) → i ≢ j → set (set ps i (with_port_value (get_or ps i no_values) k v)) j (with_port_value (get_or (set ps i (with_port_value (get_or ps i no_values) k v)) j no_values) l w) ≡ set (set ps j (with_port_value (get_or ps j no_values) l w)) i (with_port_value (get_or (set ps j (with_port_value (get_or ps j no_values) l w)) i no_values) k v)
puts_apart ps i j k l v w apart =
    let back : j ≢ i = λ e. apart (sym e) in
    rw (get_or-set_other ps i j _ no_values back, get_or-set_other ps j i _ no_values apart) (set_comm ps i j _ _ apart)

-- at one place of the list
puts_here : (ps : List PortValues) (i : ℕ) (k l : PortKey) (v w : ℕ) → i < length ps → same_port_key k l ≡ false → set (set ps i (with_port_value (get_or ps i no_values) k v)) i (with_port_value (get_or (set ps i (with_port_value (get_or ps i no_values) k v)) i no_values) l w) ≡ set (set ps i (with_port_value (get_or ps i no_values) l w)) i (with_port_value (get_or (set ps i (with_port_value (get_or ps i no_values) l w)) i no_values) k v)
puts_here ps i k l v w within e =
    rw (get_or-set_same ps i (with_port_value (get_or ps i no_values) k v) no_values within, get_or-set_same ps i (with_port_value (get_or ps i no_values) l w) no_values within, set-set ps i _ _, set-set ps i _ _) (ap (set ps i) (with_port_values-comm (get_or ps i no_values) k l v w e))

same_key-false : (k l : Key) (b : Bool) → same_key k l ≡ b → k ≢ l → same_key k l ≡ false
same_key-false k l true e d = absurd (d (same_key-is k l e))
same_key-false k l false e d = e

-- different settings may be put in either order
pub put-comm : (t : Table) (k l : Key) (v w : ℕ) → k ≢ l → HasKey t k → HasKey t l → put (put t k v) l w ≡ put (put t l w) k v
put-comm t (Bridge k) (Bridge l) v w d h i = ap (λ (b : BridgeValues). record { bridge = b; ports = t.ports }) (with_bridge_values-comm t.bridge k l v w (same_key-false (Bridge k) (Bridge l) (same_bridge_key k l) refl d))
put-comm t (Bridge k) (Port m l) v w d h i = refl
put-comm t (Port n k) (Bridge l) v w d h i = refl
put-comm t (Port n k) (Port m l) v w d h i =
    ap (λ (ps : List PortValues). record { bridge = t.bridge; ports = ps }) (elim (eqb_tells n m) [
      | inl e ↦ here e.0 e.1
      | inr e ↦ puts_apart t.ports (n - 1) (m - 1) k l v w (λ q. e.1 (omega (arith, q, h.0, i.0)))
    ]) where
      here : eqb n m ≡ true → n ≡ m → set (set t.ports (n - 1) (with_port_value (get_or t.ports (n - 1) no_values) k v)) (m - 1) (with_port_value (get_or (set t.ports (n - 1) (with_port_value (get_or t.ports (n - 1) no_values) k v)) (m - 1) no_values) l w) ≡ set (set t.ports (m - 1) (with_port_value (get_or t.ports (m - 1) no_values) l w)) (n - 1) (with_port_value (get_or (set t.ports (m - 1) (with_port_value (get_or t.ports (m - 1) no_values) l w)) (n - 1) no_values) k v)
      here s e =
          let apart : (eqb n m && same_port_key k l) ≡ false = same_key-false (Port n k) (Port m l) (same_key (Port n k) (Port m l)) refl d in
          let keys : same_port_key k l ≡ false = rw s at apart in
          rw (← e) (puts_here t.ports (n - 1) k l v w (omega (arith, h.0, h.1)) keys)

same_port : (p q : PortValues) → ((k : PortKey) → port_value p k ≡ port_value q k) → p ≡ q
same_port p q e =
    let priority = e port.Priority in
    let enable = e port.Enable in
    let cost = e port.Cost in
    let migrate = e port.Migrate in
    let edge = e port.Edge in
    let point_to_point = e port.PointToPoint in
    λ i. record { priority = priority i; enable = enable i; cost = cost i; migrate = migrate i; edge = edge i; point_to_point = point_to_point i }

same_bridge : (b c : BridgeValues) → ((k : BridgeKey) → bridge_value b k ≡ bridge_value c k) → b ≡ c
same_bridge b c e =
    let priority = e bridge.Priority in
    let max_age = e bridge.MaxAge in
    let hello = e bridge.Hello in
    let forward_delay = e bridge.ForwardDelay in
    let version = e bridge.Version in
    let hold_count = e bridge.HoldCount in
    let aging = e bridge.Aging in
    λ i. record { priority = priority i; max_age = max_age i; hello = hello i; forward_delay = forward_delay i; version = version i; hold_count = hold_count i; aging = aging i }

-- settings that agree on every key are equal
pub table-ext : (t u : Table) → length t.ports ≡ length u.ports → ((k : Key) → HasKey t k → get t k ≡ get u k) → t ≡ u
table-ext t u same e =
    let b = same_bridge t.bridge u.bridge (λ k. e (Bridge k) tt) in
    let p = ext_get_or no_values t.ports u.ports same at in
    λ i. record { bridge = b i; ports = p i }
  where
    at : (i : ℕ) → i < length t.ports → get_or t.ports i no_values ≡ get_or u.ports i no_values
    at i h = same_port (get_or t.ports i no_values) (get_or u.ports i no_values) (λ k.
        let j : (i + 1) - 1 ≡ i = omega arith in
        rw j at (e (Port (i + 1) k) (omega arith, omega (arith, h))))
