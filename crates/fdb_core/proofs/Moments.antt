-- Rows by the moment at which each address was learned.
use Rattle.std.proofs.Common.{◌≡◌, ℕ, ◌+◌, ◌-◌, ◌<◌, ◌≤◌, Bool, true, false, cond, List, [], ◌∷◌, length, map, refl, ap, ap₂, arith}
use Rattle.std.specs.Prelude.{filter, nat_lt, min, not, ◌==◌}
use Rattle.std.specs.List.{list_any}
use Rattle.std.specs.Map.{values_of}
use Rattle.std.specs.Ordering.{match_ordering}
use Rattle.std.specs.BTreeMap.{insert_entry}
use Rattle.std.specs.declared.cmp.Ordering.{Ordering}
use Rattle.std.specs.declared.cmp.Ordering.TheVariants.{Less, Equal, Greater}
use Rattle.std.proofs.lemmas.Bool.{ltb-true, lt-ltb}
use Rattle.frame_core.specs.declared.mac.Mac.{Mac}
use Rattle.frame_core.specs.Octets.{mac_cmp}
use Rattle.fdb_core.specs.declared.row.LearnedRow.{LearnedRow}
use Rattle.fdb_core.specs.declared.seen.Seen.{Seen}
use Rattle.fdb_core.specs.Rows.{older_row, young_rows, other_rows}
use Rattle.fdb_core.specs.Seen.{rows_at, young_entries, other_entries, lowered_entries, oldest_tick, AreSeenWithin, IsReady}
use Rattle.fdb_core.proofs.Around.{rows_filter}

-- a row of this age
abbrev aged : Mac × Seen → ℕ → LearnedRow
aged e age = record { address = e.0; port = e.1.port; age = age }

-- a second later each is a second older
pub rows_older : (oldest tick : ℕ) (es : List (Mac × Seen)) → AreSeenWithin oldest tick es → map older_row (rows_at tick es) ≡ rows_at (tick + 1) es
rows_older oldest tick [] h = refl
rows_older oldest tick (e ∷ es) h = ap₂ (λ r l. r ∷ l) (ap (aged e) (omega (arith, h.0.1))) (rows_older oldest tick es h.1)

pub within_later : (oldest tick : ℕ) (es : List (Mac × Seen)) → AreSeenWithin oldest tick es → AreSeenWithin oldest (tick + 1) es
within_later oldest tick [] h = tt
within_later oldest tick (e ∷ es) h = ((h.0.0, omega (arith, h.0.1)), within_later oldest tick es h.1)

-- what a test keeps is as it was
within_kept : (p : Mac × Seen → Bool) (oldest tick : ℕ) (es : List (Mac × Seen)) → AreSeenWithin oldest tick es → AreSeenWithin oldest tick (filter p es)
within_kept p oldest tick [] h = tt
within_kept p oldest tick (e ∷ es) h =
    let more = within_kept p oldest tick es h.1 in
    elim (p e) as (λ b. AreSeenWithin oldest tick (cond b (e ∷ filter p es) (filter p es))) [ true ↦ (h.0, more) | false ↦ more ]

pub within_young : (oldest tick limit : ℕ) (es : List (Mac × Seen)) → AreSeenWithin oldest tick es → AreSeenWithin oldest tick (young_entries tick limit es)
within_young oldest tick limit es h = within_kept (λ e. nat_lt (tick - e.1.tick) limit) oldest tick es h

few_kept : (p : Mac × Seen → Bool) (es : List (Mac × Seen)) → length (filter p es) ≤ length es
few_kept p [] = omega arith
few_kept p (e ∷ es) =
    let more = few_kept p es in
    elim (p e) as (λ b. length (cond b (e ∷ filter p es) (filter p es)) ≤ length (e ∷ es)) [ true ↦ omega (arith, more) | false ↦ omega (arith, more) ]

pub few_other : (ports : List ℕ) (es : List (Mac × Seen)) → length (other_entries ports es) ≤ length es
few_other ports es = few_kept (λ e. not (list_any (λ n. n == e.1.port) ports)) es

pub few_young : (tick limit : ℕ) (es : List (Mac × Seen)) → length (young_entries tick limit es) ≤ length es
few_young tick limit es = few_kept (λ e. nat_lt (tick - e.1.tick) limit) es

pub ready_kept : (p : Mac × Seen → Bool) (oldest tick : ℕ) (es : List (Mac × Seen)) → IsReady oldest tick es → IsReady oldest tick (filter p es)
ready_kept p oldest tick es r = record {
  timed = record { within = within_kept p oldest tick es r.timed.within; not_later = r.timed.not_later };
  recent = r.recent;
  can_rise = r.can_rise;
}

-- the rows of other ports are those of the addresses of other ports
pub rows_other : (tick : ℕ) (ports : List ℕ) (es : List (Mac × Seen)) → other_rows ports (rows_at tick es) ≡ rows_at tick (other_entries ports es)
rows_other tick ports es = rows_filter (λ r. not (list_any (λ n. n == r.port) ports)) tick es

-- the young rows are those of the young addresses
pub rows_young : (tick limit : ℕ) (es : List (Mac × Seen)) → young_rows limit (rows_at tick es) ≡ rows_at tick (young_entries tick limit es)
rows_young tick limit es = rows_filter (λ r. nat_lt r.age limit) tick es

-- none is old where the bound is not
pub all_young : (oldest tick limit : ℕ) (es : List (Mac × Seen)) → AreSeenWithin oldest tick es → tick - oldest < limit → young_entries tick limit es ≡ es
all_young oldest tick limit [] h near = refl
all_young oldest tick limit (e ∷ es) h near =
    let young : nat_lt (tick - e.1.tick) limit ≡ true = lt-ltb (tick - e.1.tick) limit (omega (arith, h.0.0, near)) in
    rw young (ap (λ l. e ∷ l) (all_young oldest tick limit es h.1 near))

-- lowered together they have the ages that they had
pub rows_lowered : (oldest tick : ℕ) (es : List (Mac × Seen)) → AreSeenWithin oldest tick es → rows_at (tick - oldest) (lowered_entries oldest es) ≡ rows_at tick es
rows_lowered oldest tick [] h = refl
rows_lowered oldest tick (e ∷ es) h = ap₂ (λ r l. r ∷ l) (ap (aged e) (omega (arith, h.0.0, h.0.1))) (rows_lowered oldest tick es h.1)

pub within_lowered : (oldest tick : ℕ) (es : List (Mac × Seen)) → AreSeenWithin oldest tick es → AreSeenWithin 0 (tick - oldest) (lowered_entries oldest es)
within_lowered oldest tick [] h = tt
within_lowered oldest tick (e ∷ es) h = ((omega arith, omega (arith, h.0.0, h.0.1)), within_lowered oldest tick es h.1)

-- the bound made anew
pub oldest_not_later : (tick : ℕ) (ss : List Seen) → oldest_tick tick ss ≤ tick
oldest_not_later tick [] = omega arith
oldest_not_later tick (s ∷ ss) = omega (arith, oldest_not_later tick ss)

weaker : (a b tick : ℕ) (es : List (Mac × Seen)) → b ≤ a → AreSeenWithin a tick es → AreSeenWithin b tick es
weaker a b tick [] le h = tt
weaker a b tick (e ∷ es) le h = ((omega (arith, le, h.0.0), h.0.1), weaker a b tick es le h.1)

pub within_oldest : (oldest tick : ℕ) (es : List (Mac × Seen)) → AreSeenWithin oldest tick es → AreSeenWithin (oldest_tick tick (values_of es)) tick es
within_oldest oldest tick [] h = tt
within_oldest oldest tick (e ∷ es) h =
    let rest = oldest_tick tick (values_of es) in
    ((omega arith, h.0.1), weaker rest (min e.1.tick rest) tick es (omega arith) (within_oldest oldest tick es h.1))

pub oldest_recent : (tick limit : ℕ) → 0 < limit → (es : List (Mac × Seen)) → tick < oldest_tick tick (values_of (young_entries tick limit es)) + limit
oldest_recent tick limit some [] = omega arith
oldest_recent tick limit some (e ∷ es) = recent_more (nat_lt (tick - e.1.tick) limit) refl (oldest_recent tick limit some es)
  where
    recent_more : (b : Bool) → nat_lt (tick - e.1.tick) limit ≡ b → tick < oldest_tick tick (values_of (young_entries tick limit es)) + limit → tick < oldest_tick tick (values_of (cond b (e ∷ young_entries tick limit es) (young_entries tick limit es))) + limit
    recent_more true is more =
        let lt : tick - e.1.tick < limit = ltb-true (tick - e.1.tick) limit is in
        omega (arith, lt, more)
    recent_more false is more = more

-- an address learned now
put_within : (oldest tick : ℕ) (a : Mac) (s : Seen) → oldest ≤ s.tick → s.tick ≤ tick → (e : Mac × Seen) (es : List (Mac × Seen)) → AreSeenWithin oldest tick (e ∷ es) → AreSeenWithin oldest tick (insert_entry mac_cmp es a s) → (o : Ordering) → AreSeenWithin oldest tick (match_ordering o ((a, s) ∷ e ∷ es) ((e.0, s) ∷ es) (e ∷ insert_entry mac_cmp es a s))
put_within oldest tick a s low high e es h more Less = ((low, high), h)
put_within oldest tick a s low high e es h more Equal = ((low, high), h.1)
put_within oldest tick a s low high e es h more Greater = (h.0, more)

within_put : (oldest tick : ℕ) (a : Mac) (s : Seen) → oldest ≤ s.tick → s.tick ≤ tick → (es : List (Mac × Seen)) → AreSeenWithin oldest tick es → AreSeenWithin oldest tick (insert_entry mac_cmp es a s)
within_put oldest tick a s low high [] h = ((low, high), tt)
within_put oldest tick a s low high (e ∷ es) h = put_within oldest tick a s low high e es h (within_put oldest tick a s low high es h.1) (mac_cmp a e.0)

pub ready_put : (oldest tick : ℕ) (a : Mac) (port : ℕ) (es : List (Mac × Seen)) → IsReady oldest tick es → IsReady oldest tick (insert_entry mac_cmp es a (record { port = port; tick = tick }))
ready_put oldest tick a port es r = record {
  timed = record {
    within = within_put oldest tick a (record { port = port; tick = tick }) r.timed.not_later (omega arith) es r.timed.within;
    not_later = r.timed.not_later;
  };
  recent = r.recent;
  can_rise = r.can_rise;
}
