-- What stands under the index of a scalar, and under that of a port; and which comes next.
use Rattle.std.proofs.Common.{◌≡◌, ◌≢◌, ℕ, zero, suc, ◌+◌, ◌<◌, ◌≤◌, Bool, true, false, cond, nat_eq, nat_lt, List, [], ◌∷◌, map, find, refl, sym, ap, ◌∙◌, arith, Option, Some, None, option_map, ◌⊎◌, inl, inr, length, get_or}
use Rattle.std.specs.Prelude.{slice_get, unwrap_or}
use Rattle.std.proofs.lemmas.Bool.Decides.{eqb_tells, nat_tests}
use Rattle.oid_core.specs.Order.{name_lt, name_eq}
use Rattle.message_core.specs.declared.value.Value.{Value}
use Rattle.setphase_core.specs.Values.{IndexedValue, scalar, by_port, numbers_from, value_at, index_after}

pub scalar_value : (b : Bool) (at : List ℕ) (v : Value) → b ≡ name_eq (0 ∷ []) at → value_at (scalar v) at ≡ cond b (Some v) None
scalar_value b at v e = ap (λ c. option_map (λ (s : IndexedValue). s.value) (cond c (Some (record { index = 0 ∷ []; value = v })) None)) (sym e) ∙ pick b
  where
    pick : (c : Bool) → option_map (λ (s : IndexedValue). s.value) (cond c (Some (record { index = 0 ∷ []; value = v })) None) ≡ cond c (Some v) None
    pick true = refl
    pick false = refl

pub scalar_last : (x : ℕ) (more : List ℕ) (v : Value) → None ≡ index_after (scalar v) (Some (x ∷ more))
scalar_last x more v =
    let lt : nat_lt x 0 ≡ false = grind (arith, nat_tests) in
    let not : name_lt (x ∷ more) (0 ∷ []) ≡ false = rw lt (pick (nat_eq x 0)) in
    sym (ap (λ b. option_map (λ (s : IndexedValue). s.index) (cond b (Some (record { index = 0 ∷ []; value = v })) None)) not)
  where
    pick : (b : Bool) → cond b false false ≡ false
    pick true = refl
    pick false = refl

-- ---- ports

abbrev row_of : (ℕ → Value) → ℕ → IndexedValue
row_of f n = record { index = n ∷ []; value = f n }

none_eq : (at : List ℕ) (first count : ℕ) (f : ℕ → Value) → ((n : ℕ) → first ≤ n → n < first + count → name_eq (n ∷ []) at ≡ false) → find (λ s. name_eq s.index at) (map (row_of f) (numbers_from first count)) ≡ None
none_eq at first zero f h = refl
none_eq at first (suc count) f h = rw (h first (omega arith) (omega arith)) (none_eq at (first + 1) count f (λ n low high. h n (omega (arith, low)) (omega (arith, high))))

one_eq : (n first count : ℕ) (f : ℕ → Value) → first ≤ n → n < first + count → find (λ s. name_eq s.index (n ∷ [])) (map (row_of f) (numbers_from first count)) ≡ Some (row_of f n)
one_eq n first zero f low high = absurd (omega (arith, low, high))
one_eq n first (suc count) f low high = elim (eqb_tells first n) [
  | inl e ↦ rw e.0 (ap (λ m. Some (row_of f m)) e.1)
  | inr e ↦ rw e.0 (one_eq n (first + 1) count f (omega (arith, low, e.1)) (omega (arith, high)))
]

other_number : (m n : ℕ) → m ≢ n → name_eq (m ∷ []) (n ∷ []) ≡ false
other_number m n ne = elim (eqb_tells m n) [
  | inl e ↦ absurd (ne e.1)
  | inr e ↦ rw e.0 refl
]

longer_number : (m n k : ℕ) (more : List ℕ) → name_eq (m ∷ []) (n ∷ k ∷ more) ≡ false
longer_number m n k more = pick (nat_eq m n)
  where
    pick : (b : Bool) → cond b false false ≡ false
    pick true = refl
    pick false = refl

pub port_there : (ports n : ℕ) (f : ℕ → Value) → 1 ≤ n → n ≤ ports → value_at (by_port ports f) (n ∷ []) ≡ Some (f n)
port_there ports n f low high = ap (option_map (λ s. s.value)) (one_eq n 1 ports f low (omega (arith, high)))

pub port_missing : (ports n : ℕ) (f : ℕ → Value) → (n ≡ 0) ⊎ (ports < n) → value_at (by_port ports f) (n ∷ []) ≡ None
port_missing ports n f out = ap (option_map (λ s. s.value)) (none_eq (n ∷ []) 1 ports f (λ m low high. other_number m n (away m low high out)))
  where
    away : (m : ℕ) → 1 ≤ m → m < 1 + ports → (n ≡ 0) ⊎ (ports < n) → m ≢ n
    away m low high (inl z) = λ e. omega (arith, low, z, e)
    away m low high (inr z) = λ e. omega (arith, high, z, e)

pub port_none : (ports : ℕ) (f : ℕ → Value) → value_at (by_port ports f) [] ≡ None
port_none ports f = ap (option_map (λ s. s.value)) (none_eq [] 1 ports f (λ n low high. refl))

pub port_longer : (ports n k : ℕ) (more : List ℕ) (f : ℕ → Value) → value_at (by_port ports f) (n ∷ k ∷ more) ≡ None
port_longer ports n k more f = ap (option_map (λ s. s.value)) (none_eq (n ∷ k ∷ more) 1 ports f (λ m low high. longer_number m n k more))

-- the first number above x
number_test : (x n : ℕ) (more : List ℕ) → name_lt (x ∷ more) (n ∷ []) ≡ nat_lt x n
number_test x n more = pick (nat_lt x n) (nat_eq x n)
  where
    pick : (a b : Bool) → cond a true (cond b false false) ≡ a
    pick true b = refl
    pick false true = refl
    pick false false = refl

after_there : (x first count : ℕ) (more : List ℕ) (f : ℕ → Value) → first ≤ x + 1 → x + 1 < first + count → find (λ s. name_lt (x ∷ more) s.index) (map (row_of f) (numbers_from first count)) ≡ Some (row_of f (x + 1))
after_there x first zero more f low high = absurd (omega (arith, low, high))
after_there x first (suc count) more f low high = elim (eqb_tells first (x + 1)) [
  | inl e ↦
      let same : first ≡ x + 1 = e.1 in
      let lt : nat_lt x first ≡ true = grind (arith, nat_tests, same) in
      let test : name_lt (x ∷ more) (first ∷ []) ≡ true = number_test x first more ∙ lt in
      rw test (ap (λ m. Some (row_of f m)) same)
  | inr e ↦
      let below : first ≤ x = omega (arith, low, e.1) in
      let lt : nat_lt x first ≡ false = grind (arith, nat_tests, below) in
      let test : name_lt (x ∷ more) (first ∷ []) ≡ false = number_test x first more ∙ lt in
      rw test (after_there x (first + 1) count more f (omega (arith, below)) (omega (arith, high)))
]

after_none : (x first count : ℕ) (more : List ℕ) (f : ℕ → Value) → first + count ≤ x + 1 → find (λ s. name_lt (x ∷ more) s.index) (map (row_of f) (numbers_from first count)) ≡ None
after_none x first zero more f out = refl
after_none x first (suc count) more f out =
    let below : first ≤ x = omega (arith, out) in
    let lt : nat_lt x first ≡ false = grind (arith, nat_tests, below) in
    let test : name_lt (x ∷ more) (first ∷ []) ≡ false = number_test x first more ∙ lt in
    rw test (after_none x (first + 1) count more f (omega (arith, out)))

pub next_port : (ports x : ℕ) (more : List ℕ) (f : ℕ → Value) → x < ports → index_after (by_port ports f) (Some (x ∷ more)) ≡ Some ((x + 1) ∷ [])
next_port ports x more f h = ap (option_map (λ s. s.index)) (after_there x 1 ports more f (omega arith) (omega (arith, h)))

pub last_port : (ports x : ℕ) (more : List ℕ) (f : ℕ → Value) → ports ≤ x → index_after (by_port ports f) (Some (x ∷ more)) ≡ None
last_port ports x more f h = ap (option_map (λ s. s.index)) (after_none x 1 ports more f (omega (arith, h)))

no_port : (f : ℕ → Value) (after : Option (List ℕ)) → index_after (by_port 0 f) after ≡ None
no_port f None = refl
no_port f (Some a) = refl

from_first : (ports : ℕ) (f : ℕ → Value) → 0 < ports → (index_after (by_port ports f) None ≡ Some (1 ∷ [])) × (index_after (by_port ports f) (Some []) ≡ Some (1 ∷ []))
from_first zero f h = absurd (omega (arith, h))
from_first (suc ports) f h = (refl, refl)

-- the first number of an index, or 0 where there is none
abbrev first_number : Option (List ℕ) → ℕ
first_number after = unwrap_or (slice_get (unwrap_or after []) 0) 0

pub port_after_is : (ports : ℕ) (f : ℕ → Value) (after : Option (List ℕ)) (last : ℕ) → last ≡ first_number after → last < ports → Some ((last + 1) ∷ []) ≡ index_after (by_port ports f) after
port_after_is ports f None last e h = ap (λ n. Some ((n + 1) ∷ [])) e ∙ sym (from_first ports f (omega (arith, h))).0
port_after_is ports f (Some []) last e h = ap (λ n. Some ((n + 1) ∷ [])) e ∙ sym (from_first ports f (omega (arith, h))).1
port_after_is ports f (Some (x ∷ more)) last e h = ap (λ n. Some ((n + 1) ∷ [])) e ∙ sym (next_port ports x more f (omega (arith, e, h)))

pub port_after_none : (ports : ℕ) (f : ℕ → Value) (after : Option (List ℕ)) (last : ℕ) → last ≡ first_number after → ports ≤ last → None ≡ index_after (by_port ports f) after
port_after_none zero f after last e h = sym (no_port f after)
port_after_none (suc ports) f None last e h = absurd (omega (arith, e, h))
port_after_none (suc ports) f (Some []) last e h = absurd (omega (arith, e, h))
port_after_none (suc ports) f (Some (x ∷ more)) last e h = sym (last_port (suc ports) x more f (omega (arith, e, h)))

-- ---- by how many numbers there are

pub at_one : (ports : ℕ) (at : List ℕ) (f : ℕ → Value) → length at ≡ 1 → 1 ≤ get_or at 0 0 → get_or at 0 0 ≤ ports → value_at (by_port ports f) at ≡ Some (f (get_or at 0 0))
at_one ports [] f e low high = absurd (omega (arith, e))
at_one ports (n ∷ []) f e low high = port_there ports n f low high
at_one ports (n ∷ k ∷ more) f e low high = absurd (omega (arith, e))

pub at_other : (ports : ℕ) (at : List ℕ) (f : ℕ → Value) → length at ≡ 1 → (get_or at 0 0 ≡ 0) ⊎ (ports < get_or at 0 0) → value_at (by_port ports f) at ≡ None
at_other ports [] f e out = absurd (omega (arith, e))
at_other ports (n ∷ []) f e out = port_missing ports n f out
at_other ports (n ∷ k ∷ more) f e out = absurd (omega (arith, e))

pub at_none : (ports : ℕ) (at : List ℕ) (f : ℕ → Value) → length at ≢ 1 → value_at (by_port ports f) at ≡ None
at_none ports [] f ne = port_none ports f
at_none ports (n ∷ []) f ne = absurd (ne refl)
at_none ports (n ∷ k ∷ more) f ne = port_longer ports n k more f
