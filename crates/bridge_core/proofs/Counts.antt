-- Counting frames out, port by port.
use Rattle.std.proofs.Math.Numerals.{one-add}
use Rattle.std.proofs.Common.{◌≡◌, ℕ, ◌+◌, ◌-◌, ◌<◌, ◌≤◌, Bool, List, [], ◌∷◌, ◌++◌, length, take, drop, get_or, set, zero, suc, add-zero, refl, ap, ◌∙◌, arith}
use Rattle.std.proofs.lemmas.List.{take_all, drop_all, append-nil}
use Rattle.std.specs.Prelude.{Option, None, is_some}
use Rattle.frame_core.specs.declared.bpdu.Bpdu.{Bpdu}
use Rattle.bridge_core.specs.declared.counters.PortCounters.{PortCounters}
use Rattle.bridge_core.specs.Bridge.{no_counters}
use Rattle.bridge_core.specs.Counting.{with_frame_out, sent_from, sent_where, has_bpdu}

-- a loop that counts has not yet reached element i
sent_read : (test : ℕ → Bool) (n : ℕ) (cs : List PortCounters) (i : ℕ) (d : PortCounters) → get_or (sent_from test n (take i cs) ++ drop i cs) i d ≡ get_or cs i d
sent_read test n cs zero d = refl
sent_read test n [] (suc i) d = refl
sent_read test n (c ∷ cs) (suc i) d = sent_read test (n + 1) cs i d

sent_write : (test : ℕ → Bool) (n : ℕ) (cs : List PortCounters) (i : ℕ) (d : PortCounters) → i < length cs → set (sent_from test n (take i cs) ++ drop i cs) i (with_frame_out (test (n + i)) (get_or cs i d)) ≡ sent_from test n (take (suc i) cs) ++ drop (suc i) cs
sent_write test n [] i d h = absurd (omega arith)
sent_write test n (c ∷ cs) zero d h = rw add-zero
sent_write test n (c ∷ cs) (suc i) d h =
    let same : n + suc i ≡ (n + 1) + i = omega arith in
    rw same (ap (λ (xs : List PortCounters). with_frame_out (test n) c ∷ xs) (sent_write test (n + 1) cs i d (omega arith)))

-- one more port of a loop that counts
pub sent_step : (test : ℕ → Bool) (cs xs : List PortCounters) (i : ℕ) (d x : PortCounters) → i < length cs → xs ≡ sent_from test 1 (take i cs) ++ drop i cs → x ≡ with_frame_out (test (i + 1)) (get_or xs i d) → set xs i x ≡ sent_from test 1 (take (i + 1) cs) ++ drop (i + 1) cs
sent_step test cs xs i d x h e g =
    let m : i + 1 ≡ 1 + i = omega arith in
    rw (g, e, sent_read test 1 cs i d, m, one-add) (rw one-add at (sent_write test 1 cs i d h))

-- one more port, where what decides was found
pub count_step : (test : ℕ → Bool) (cs xs : List PortCounters) (i : ℕ) (x : PortCounters) (b : Bool) → i < length cs → xs ≡ sent_from test 1 (take i cs) ++ drop i cs → b ≡ test (i + 1) → x ≡ with_frame_out b (get_or xs i no_counters) → set xs i x ≡ sent_from test 1 (take (i + 1) cs) ++ drop (i + 1) cs
count_step test cs xs i x b h e f g =
    sent_step test cs xs i no_counters x h e (g ∙ ap (λ (v : Bool). with_frame_out v (get_or xs i no_counters)) f)

-- whether the port at i sends a BPDU
pub sends_at : (bpdus : List (Option Bpdu)) (i : ℕ) (b : Bool) → b ≡ is_some (get_or bpdus i None) → b ≡ has_bpdu bpdus (i + 1)
sends_at bpdus i b e =
    let same : i ≡ i + 1 - 1 = omega arith in
    e ∙ ap (λ (k : ℕ). is_some (get_or bpdus k None)) same

-- all ports
pub sent_whole : (test : ℕ → Bool) (cs xs : List PortCounters) (i : ℕ) → length cs ≤ i → xs ≡ sent_from test 1 (take i cs) ++ drop i cs → xs ≡ sent_where test cs
unfolding sent_where
sent_whole test cs xs i h e = rw (e, take_all i cs h, drop_all i cs h) (append-nil (sent_from test 1 cs))
