-- The slots of a Set that stand while one after the other is committed.
use Rattle.std.proofs.Common.{◌≡◌, ◌≢◌, ℕ, ◌+◌, ◌<◌, ◌≤◌, ◌∙◌, sym, ap, subst, refl, Bool, true, false, List, [], ◌∷◌, ◌++◌, length, map, take, slice_set, arith, inl, inr}
use Rattle.std.proofs.lemmas.List.{length-set}
use Rattle.std.proofs.lemmas.Bool.Decides.{eqb_tells}
use Rattle.setphase_core.specs.declared.staging.Staged.{Staged}
use Rattle.setphase_core.specs.declared.world.World.{World}
use Rattle.setphase_core.specs.Objects.{ObjectState, IsCommitted, reservation_of, committed_reservation, object_after_commit, object_after_release, object_called, IsByPlan}
use Rattle.setphase_core.specs.Settings.{setting, put, IsSettingInRange}
use Rattle.setphase_core.specs.Staging.{object_at, entry_at, assignment_of_entry, assignments_of, IsDistinct, IsLegal, AreLegal, StandsReserved, StandsCommitted, AreCommitted, CallAt, AreCalled, commit_at}
use Rattle.setphase_core.specs.Together.{assign}
use Rattle.setphase_core.proofs.Puts.{keys-kept, range-kept}
use Rattle.setphase_core.proofs.Assigns.{legal-taken, setting-assign, assign_more, distinct_below, without_before}
use Rattle.setphase_core.proofs.Holding.{Holds, holds_reserved, holds_committed, holds_others, holds_made, holds_after_call}
use Rattle.setphase_core.proofs.Called.{called_more}

-- The objects after the commit of an entry.
abbrev pub after_commit : List ObjectState → World → Staged → List ObjectState
after_commit os w e =
    slice_set os e.object (object_after_commit (object_at os e.object) e.slot (setting w e.slot.key))

abbrev pub put_entry : World → Staged → World
put_entry w e = put w e.slot.key e.slot.value

-- The objects after a call of the device of an entry's object that put nothing.
abbrev pub after_called : Bool → List ObjectState → Staged → List ObjectState
after_called fails os e =
    slice_set os e.object (object_called fails (object_at os e.object))

-- What the committed entries write was legal before.
pub had_key : (before w : World) (os : List ObjectState) (es : List Staged) (n : ℕ) →
    AreCommitted before w os es n → (k : ℕ) → k < n →
    IsLegal before (assignment_of_entry (entry_at es k))
had_key before w os es n done k low = (done.stands k low).had

had_all : (before w : World) (os : List ObjectState) (es : List Staged) (n : ℕ) →
    n ≤ length es → AreCommitted before w os es n → AreLegal before (take n (assignments_of es))
had_all before w os es n h done = legal-taken es n before h (had_key before w os es n done)

-- The entry that was committed just now.
just_committed : (before w : World) (os : List ObjectState) (e : Staged) →
    StandsReserved w os e → IsLegal before (assignment_of_entry e) →
    setting w e.slot.key ≡ setting before e.slot.key →
    IsSettingInRange w e.slot.key (setting w e.slot.key) →
    StandsCommitted before (put_entry w e) (after_commit os w e) e
just_committed before w os e here had was range =
    let after : Holds (object_at (after_commit os w e) e.object) e.slot.place (committed_reservation e.slot (setting w e.slot.key))
    = holds_made os e.object e.slot (setting w e.slot.key) here.within here.reserved.place in
    record {
      had = had;
      within = omega (arith, here.within, length-set {A = ObjectState});
      committed = subst (λ v. IsCommitted (put_entry w e) (object_at (after_commit os w e) e.object) e.slot v) was (record {
        key = keys-kept w e.slot.key e.slot.key e.slot.value here.reserved.value here.reserved.key;
        value = range-kept w e.slot.key e.slot.key e.slot.value (setting w e.slot.key) range;
        place = after.within;
        stands = after.stands;
      });
    }

-- An entry that was committed before.
still_committed : (before w : World) (os : List ObjectState) (e f : Staged) →
    StandsReserved w os e → StandsCommitted before w os f → f.slot.key ≢ e.slot.key →
    StandsCommitted before (put_entry w e) (after_commit os w e) f
still_committed before w os e f here there ne =
    let after : Holds (object_at (after_commit os w e) f.object) f.slot.place (committed_reservation f.slot (setting before f.slot.key))
    = holds_others os e.object e.slot (setting w e.slot.key) (reservation_of e.slot here.reserved.old) f.object f.slot.place (committed_reservation f.slot (setting before f.slot.key)) here.within (holds_reserved w (object_at os e.object) e.slot here.reserved) (holds_committed w (object_at os f.object) f.slot (setting before f.slot.key) there.committed) ne in
    record {
      had = there.had;
      within = omega (arith, there.within, length-set {A = ObjectState});
      committed = record {
        key = keys-kept w e.slot.key f.slot.key e.slot.value here.reserved.value there.committed.key;
        value = range-kept w e.slot.key f.slot.key e.slot.value (setting before f.slot.key) there.committed.value;
        place = after.within;
        stands = after.stands;
      };
    }

-- What stands while slots are committed.
pub record Commits (before w : World) (os : List ObjectState) (es : List Staged) (i : ℕ) :
    Type 0 where
  pub world : w ≡ assign (take i (assignments_of es)) before
  pub done : AreCommitted before w os es i

committed_more : (before w : World) (os : List ObjectState) (es : List Staged) (i : ℕ) →
    IsDistinct (assignments_of es) → i < length es → StandsReserved w os (entry_at es i) →
    IsLegal before (assignment_of_entry (entry_at es i)) → Commits before w os es i →
    IsSettingInRange w (entry_at es i).slot.key (setting w (entry_at es i).slot.key) →
    AreCommitted before (put_entry w (entry_at es i)) (after_commit os w (entry_at es i)) es (i + 1)
committed_more before w os es i d h here had commits range =
    let was : setting w (entry_at es i).slot.key ≡ setting before (entry_at es i).slot.key
    = ap (λ v. setting v (entry_at es i).slot.key) commits.world
    ∙ setting-assign (take i (assignments_of es)) before (entry_at es i).slot.key (without_before es i d h) (had_all before w os es i (omega arith) commits.done) had.key in
    record {
      stands = λ k low. elim (eqb_tells k i) [
        | inl e ↦ subst (λ n. StandsCommitted before (put_entry w (entry_at es i)) (after_commit os w (entry_at es i)) (entry_at es n)) (sym e.1) (just_committed before w os (entry_at es i) here had was range)
        | inr e ↦
            let less : k < i = omega (arith, low, e.1) in
            still_committed before w os (entry_at es i) (entry_at es k) here (commits.done.stands k less) (λ q. distinct_below es k i d less h (sym q))
      ];
    }

pub entry_is : (es ds : List Staged) (i n : ℕ) → ds ≡ es → n ≡ i → entry_at ds n ≡ entry_at es i
entry_is es ds i n e f = ap (λ xs. entry_at xs n) e ∙ ap (entry_at es) f

-- One more entry is committed.
pub commit_step : (before w v : World) (os ns : List ObjectState) (es ds : List Staged) (i n : ℕ) →
    ds ≡ es → n ≡ i → IsDistinct (assignments_of es) → i < length es →
    StandsReserved w os (entry_at ds n) → IsLegal before (assignment_of_entry (entry_at es i)) →
    Commits before w os es i → v ≡ put_entry w (entry_at ds n) →
    ns ≡ after_commit os w (entry_at ds n) →
    IsSettingInRange w (entry_at ds n).slot.key (setting w (entry_at ds n).slot.key) →
    Commits before v ns es (i + 1)
commit_step before w v os ns es ds i n e f d h stands had commits puts sets range =
    let same : entry_at ds n ≡ entry_at es i = entry_is es ds i n e f in
    let world : v ≡ put_entry w (entry_at es i) = puts ∙ ap (put_entry w) same in
    let after : ns ≡ after_commit os w (entry_at es i) = sets ∙ ap (after_commit os w) same in
    let here : StandsReserved w os (entry_at es i) = subst (StandsReserved w os) same stands in
    let in_range : IsSettingInRange w (entry_at es i).slot.key (setting w (entry_at es i).slot.key)
    = subst (λ (z : Staged). IsSettingInRange w z.slot.key (setting w z.slot.key)) same range in
    record {
      world = world ∙ assign_more before w es i h commits.world;
      done = subst (λ u. AreCommitted before u ns es (i + 1)) (sym world) (subst (λ xs. AreCommitted before (put_entry w (entry_at es i)) xs es (i + 1)) (sym after) (committed_more before w os es i d h here had commits in_range));
    }

-- The committed entries after a call that put nothing.
pub committed_after_call : (fails : Bool) (before w v : World) (os ns : List ObjectState) (es : List Staged)
    (n : ℕ) (e : Staged) → e.object < length os → v ≡ w → ns ≡ after_called fails os e →
    AreCommitted before w os es n → AreCommitted before v ns es n
committed_after_call fails before w v os ns es n e h world objects done =
    subst (λ u. AreCommitted before u ns es n) (sym world) (subst (λ xs. AreCommitted before w xs es n) (sym objects) (record {
      stands = λ k low.
          let f = entry_at es k in
          let there : StandsCommitted before w os (entry_at es k) = done.stands k low in
          let after : Holds (object_at (after_called fails os e) (entry_at es k).object) (entry_at es k).slot.place (committed_reservation (entry_at es k).slot (setting before (entry_at es k).slot.key))
          = holds_after_call fails os e.object f.object f.slot.place (committed_reservation f.slot (setting before f.slot.key)) h (holds_committed w (object_at os f.object) f.slot (setting before f.slot.key) there.committed) in
          record {
            had = there.had;
            within = omega (arith, there.within, length-set {A = ObjectState});
            committed = record {
              key = there.committed.key;
              value = there.committed.value;
              place = after.within;
              stands = after.stands;
            };
          };
    }))

-- What all objects are, once all is dropped, after one more commit, and after one that failed.
pub called_after_commit : (w : World) (os ns zs : List ObjectState) (cs : List CallAt)
    (e : Staged) → ns ≡ after_commit os w e → IsByPlan (object_at os e.object) false →
    AreCalled cs zs (map object_after_release os) →
    AreCalled (cs ++ commit_at false e ∷ []) zs (map object_after_release ns)
called_after_commit w os ns zs cs e after planned h =
    called_more cs zs os ns e.object false (object_after_commit (object_at os e.object) e.slot (setting w e.slot.key)) after refl planned h

pub called_after_call : (fails : Bool) (os ns zs : List ObjectState) (cs : List CallAt)
    (e : Staged) → ns ≡ after_called fails os e → IsByPlan (object_at os e.object) fails →
    AreCalled cs zs (map object_after_release os) →
    AreCalled (cs ++ commit_at fails e ∷ []) zs (map object_after_release ns)
called_after_call fails os ns zs cs e after planned h =
    called_more cs zs os ns e.object fails (object_called fails (object_at os e.object)) after (released fails (object_at os e.object)) planned h
  where
    released : (b : Bool) (o : ObjectState) → object_after_release (object_called b o) ≡ object_called b (object_after_release o)
    released true o = refl
    released false o = refl
