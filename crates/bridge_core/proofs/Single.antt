-- A frame that may go by one port alone.
use Rattle.std.proofs.Common.{◌≡◌, ◌≢◌, ℕ, ◌+◌, ◌-◌, ◌<◌, ◌≤◌, zero, suc, add-zero, Bool, true, false, ◌&&◌, List, [], ◌∷◌, ◌++◌, length, get_or, set, refl, sym, ap, ◌∙◌, arith}
use Rattle.std.specs.Prelude.{◌==◌, if◌then◌else◌}
use Rattle.std.proofs.lemmas.Bool.{and_right, eq-eqb, ne_eqb}
use Rattle.rstp_settings.specs.Table.{IsPortOf}
use Rattle.rstp_core.specs.Tree.{Tree}
use Rattle.bridge_core.specs.declared.counters.PortCounters.{PortCounters}
use Rattle.bridge_core.specs.declared.forwarding.Way.TheVariants.{Nowhere, By}
use Rattle.bridge_core.specs.Bridge.{no_counters}
use Rattle.bridge_core.specs.Counting.{with_frame_out, sent_from, sent_where}
use Rattle.bridge_core.specs.Forwarding.{ports_where}
use Rattle.bridge_core.specs.ForwardingInside.{leads, is_open, goes_by}
use Rattle.bridge_core.proofs.Walks.{ports_more, ports_none}

and_true : (b : Bool) → (b && true) ≡ b
and_true true = refl
and_true false = refl

-- a way that leads by one port is by that, where it is open, and by no other
by_that : (from : ℕ) (t : Tree) (one : ℕ) → goes_by (leads (By one)) from t one ≡ is_open from t one
by_that from t one = ap (λ (b : Bool). is_open from t one && b) (eq-eqb one one refl) ∙ and_true (is_open from t one)

by_other : (from : ℕ) (t : Tree) (one q : ℕ) → q ≢ one → goes_by (leads (By one)) from t q ≡ false
by_other from t one q h = and_right (is_open from t q) (one == q) (ne_eqb one q (λ e. h (sym e)))

-- the ports that pass a test, where none does
no_port : (test : ℕ → Bool) (n : ℕ) → ((q : ℕ) → 1 ≤ q → q ≤ n → test q ≡ false) → ports_where test n ≡ []
no_port test zero h = ports_none test
no_port test (suc n) h =
    let m : suc n ≡ n + 1 = omega arith in
    rw m (ports_more test n false (h (n + 1) (omega arith) (omega arith)) ∙ no_port test n (λ q a b. h q a (omega arith)))

-- and where none but one does
one_port : (test : ℕ → Bool) (p k : ℕ) → ((q : ℕ) → q ≢ p + 1 → test q ≡ false) → ports_where test (p + 1 + k) ≡ (if test (p + 1) then (p + 1) ∷ [] else [])
one_port test p zero h =
    rw add-zero (ports_more test p (test (p + 1)) refl ∙ ap (λ (xs : List ℕ). if test (p + 1) then xs ++ (p + 1) ∷ [] else xs) (no_port test p (λ q a b. h q (omega arith))))
one_port test p (suc k) h =
    let m : p + 1 + suc k ≡ (p + 1 + k) + 1 = omega arith in
    rw m (ports_more test (p + 1 + k) false (h (p + 1 + k + 1) (omega arith)) ∙ one_port test p k h)

-- the counters, where no port passes a test
none_sent : (test : ℕ → Bool) (n : ℕ) (cs : List PortCounters) → ((q : ℕ) → n ≤ q → q < n + length cs → test q ≡ false) → sent_from test n cs ≡ cs
none_sent test n [] h = refl
none_sent test n (c ∷ cs) h =
    rw (h n (omega arith) (omega arith)) (ap (λ (xs : List PortCounters). c ∷ xs) (none_sent test (n + 1) cs (λ q a b. h q (omega arith) (omega arith))))

-- and where none but one does
one_sent : (test : ℕ → Bool) (n : ℕ) (cs : List PortCounters) (i : ℕ) → ((q : ℕ) → q ≢ n + i → test q ≡ false) → i < length cs → sent_from test n cs ≡ set cs i (with_frame_out (test (n + i)) (get_or cs i no_counters))
one_sent test n [] i h b = absurd (omega arith)
one_sent test n (c ∷ cs) zero h b =
    rw add-zero (ap (λ (xs : List PortCounters). with_frame_out (test n) c ∷ xs) (none_sent test (n + 1) cs (λ q x y. h q (omega arith))))
one_sent test n (c ∷ cs) (suc i) h b =
    let m : n + suc i ≡ (n + 1) + i = omega arith in
    rw (h n (omega arith), m) (ap (λ (xs : List PortCounters). c ∷ xs) (one_sent test (n + 1) cs i (λ q x. h q (λ e. x (e ∙ m))) (omega arith)))

-- by a port that there is
pub ports_by_one : (from : ℕ) (t : Tree) (one n : ℕ) → IsPortOf n one → ports_where (goes_by (leads (By one)) from t) n ≡ (if is_open from t one then one ∷ [] else [])
ports_by_one from t one n h =
    let test : ℕ → Bool = goes_by (leads (By one)) from t in
    let at : one - 1 + 1 ≡ one = omega (arith, h.0) in
    let far : one - 1 + 1 + (n - one) ≡ n = omega (arith, h.0, h.1) in
    let here : ports_where test n ≡ (if test one then one ∷ [] else []) =
    rw (far, at) at (one_port test (one - 1) (n - one) (λ q x. by_other from t one q (λ e. x (e ∙ sym at)))) in
    here ∙ ap (λ (b : Bool). if b then one ∷ [] else []) (by_that from t one)

pub sent_by_one : (from : ℕ) (t : Tree) (one : ℕ) (cs : List PortCounters) → IsPortOf (length cs) one → sent_where (goes_by (leads (By one)) from t) cs ≡ set cs (one - 1) (with_frame_out (is_open from t one) (get_or cs (one - 1) no_counters))
unfolding sent_where
sent_by_one from t one cs h =
    let test : ℕ → Bool = goes_by (leads (By one)) from t in
    let at : 1 + (one - 1) ≡ one = omega (arith, h.0) in
    one_sent test 1 cs (one - 1) (λ q x. by_other from t one q (λ e. x (e ∙ sym at))) (omega (arith, h.0, h.1))
    ∙ ap (λ (b : Bool). set cs (one - 1) (with_frame_out b (get_or cs (one - 1) no_counters))) (ap test at ∙ by_that from t one)

-- by a port that there is not
pub ports_by_none : (from : ℕ) (t : Tree) (one n : ℕ) → (IsPortOf n one → ⊥) → ports_where (goes_by (leads (By one)) from t) n ≡ []
ports_by_none from t one n h =
    no_port (goes_by (leads (By one)) from t) n (λ q a b. by_other from t one q (λ e. h (omega (arith, e), omega (arith, e))))

pub sent_by_none : (from : ℕ) (t : Tree) (one : ℕ) (cs : List PortCounters) → (IsPortOf (length cs) one → ⊥) → sent_where (goes_by (leads (By one)) from t) cs ≡ cs
unfolding sent_where
sent_by_none from t one cs h =
    none_sent (goes_by (leads (By one)) from t) 1 cs (λ q a b. by_other from t one q (λ e. h (omega (arith, e), omega (arith, e))))

-- a way that leads nowhere
pub ports_nowhere : (from : ℕ) (t : Tree) (n : ℕ) → ports_where (goes_by (leads Nowhere) from t) n ≡ []
ports_nowhere from t n = no_port (goes_by (leads Nowhere) from t) n (λ q a b. and_right (is_open from t q) false refl)

pub sent_nowhere : (from : ℕ) (t : Tree) (cs : List PortCounters) → sent_where (goes_by (leads Nowhere) from t) cs ≡ cs
unfolding sent_where
sent_nowhere from t cs = none_sent (goes_by (leads Nowhere) from t) 1 cs (λ q a b. and_right (is_open from t q) false refl)
