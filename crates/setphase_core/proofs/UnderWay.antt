-- A Set that is under way stays so over each of its steps.
use Rattle.std.proofs.Common.{◌≡◌, ◌≢◌, ℕ, ◌+◌, ◌<◌, ◌≤◌, ◌∙◌, sym, ap, subst, refl, Bool, true, false, List, [], ◌∷◌, ◌++◌, length, slice_get, slice_set, None, Some, Result, Ok, Err, IfOk, OnOk, OnErr, arith, inl, inr, length-append}
use Rattle.std.proofs.lemmas.List.{length-set, get_or-set_same, get_or-set_other, map-append}
use Rattle.std.proofs.lemmas.Bool.{cases_lt}
use Rattle.std.proofs.lemmas.Bool.Decides.{eqb_tells}
use Rattle.message_core.specs.declared.binding.Binding.{Binding}
use Rattle.setting_keys.specs.declared.SettingKey.{SettingKey}
use Rattle.setting_keys.specs.declared.SettingValue.{SettingValue}
use Rattle.setphase_core.specs.declared.world.World.{World}
use Rattle.setphase_core.specs.declared.object.Reservation.{Reservation}
use Rattle.setphase_core.specs.declared.object.Slot.{Slot}
use Rattle.setphase_core.specs.declared.staging.Staged.{Staged}
use Rattle.setphase_core.specs.declared.staging.Standing.{Standing}
use Rattle.setphase_core.specs.declared.staging.Standing.TheVariants.{First, Repeats, Contradicts}
use Rattle.setphase_core.specs.declared.staging.TestedVariable.{TestedVariable}
use Rattle.setphase_core.specs.declared.staging.VariableFault.{VariableFault}
use Rattle.setphase_core.specs.Objects.{ObjectState, IsReserved, IsCommitted, reserve, pending_reservation, committed_reservation, reservation_of}
use Rattle.setphase_core.specs.Settings.{setting, put, IsSettingInRange}
use Rattle.setphase_core.specs.Staging.{object_at, no_object, entry_at, assignment_of_entry, assignments_of, IsDistinct, IsLegal, StandsReserved, StandsUndoable, IsUnderWay}
use Rattle.setphase_core.specs.Tested.{value_among, standing_by, staged_by, IsPassed}
use Rattle.setphase_core.proofs.Assigns.{distinct_below}
use Rattle.setphase_core.proofs.Commits.{put_entry, after_commit, after_called}
use Rattle.setphase_core.proofs.Firsts.{is_first, distinct_last}
use Rattle.setphase_core.proofs.Holding.{Holds, holds_reserved, holds_committed, holds_others, holds_made, holds_after_call}
use Rattle.setphase_core.proofs.Puts.{keys-kept, range-kept}
use Rattle.setphase_core.specs.Writing.{assignments_in}
use Rattle.setphase_core.proofs.Ranges.{IsSound, legal}
use Rattle.setphase_core.proofs.Slotted.{slice_get-append, slice_get-last, entry_at-append, entry_at-last}
use Rattle.setphase_core.proofs.Writings.{placed_ok, owner_within, within_ok}

-- What holds of the object at a place, where the one at some place is another now.
at_set : (P : ObjectState → Type 0) (os : List ObjectState) (p j : ℕ) (o : ObjectState) →
    p < length os → (P (object_at os p) → P o) → P (object_at os j) →
    P (object_at (slice_set os p o) j)
at_set P os p j o h step there = elim (eqb_tells j p) [
  | inl e ↦ subst P (sym (ap (object_at (slice_set os p o)) e.1 ∙ get_or-set_same os p o no_object h)) (step (subst (λ n. P (object_at os n)) e.1 there))
  | inr e ↦ subst P (sym (get_or-set_other os p j o no_object e.1)) there
]

-- ---- a slot more

reserved_more : (w : World) (o : ObjectState) (s t : Slot) → IsReserved w o t →
    IsReserved w (reserve o s) t
reserved_more w o s t h = record {
  key = h.key;
  value = h.value;
  place = omega (arith, h.place, length-append o.reserved (pending_reservation s ∷ []));
  old = h.old;
  stands = slice_get-append o.reserved (pending_reservation s ∷ []) t.place _ h.stands;
}

committed_more : (w : World) (o : ObjectState) (s t : Slot) (v : SettingValue) →
    IsCommitted w o t v → IsCommitted w (reserve o s) t v
committed_more w o s t v h = record {
  key = h.key;
  value = h.value;
  place = omega (arith, h.place, length-append o.reserved (pending_reservation s ∷ []));
  stands = slice_get-append o.reserved (pending_reservation s ∷ []) t.place _ h.stands;
}

module _ (w : World) (os : List ObjectState) (p : ℕ) (s : Slot) (h : p < length os) where
  abbrev pub with_slot : List ObjectState
  with_slot = slice_set os p (reserve (object_at os p) s)

  reserved_stays : (e : Staged) → StandsReserved w os e → StandsReserved w with_slot e
  reserved_stays e there = record {
    within = omega (arith, there.within, length-set {A = ObjectState});
    reserved = at_set (λ z. IsReserved w z e.slot) os p e.object (reserve (object_at os p) s) h (reserved_more w (object_at os p) s e.slot) there.reserved;
  }

  undoable_stays : (e : Staged) → StandsUndoable w os e → StandsUndoable w with_slot e
  undoable_stays e there = record {
    within = omega (arith, there.within, length-set {A = ObjectState});
    before = there.before;
    committed = at_set (λ z. IsCommitted w z e.slot there.before) os p e.object (reserve (object_at os p) s) h (committed_more w (object_at os p) s e.slot there.before) there.committed;
  }

  -- It is not staged.
  pub slot_more : (es : List Staged) (t m n : ℕ) → t ≤ m → IsUnderWay w os es t n →
      IsUnderWay w with_slot es m n
  slot_more es t m n more u = record {
    few = omega (arith, u.few);
    counted = u.counted;
    distinct = u.distinct;
    reserved = λ k high. reserved_stays (entry_at es k) (u.reserved k high);
    undoable = λ k low. undoable_stays (entry_at es k) (u.undoable k low);
  }

  module _ (place : s.place ≡ length (object_at os p).reserved)
      (allowed : IsLegal w (record { key = s.key; value = s.value })) (es : List Staged)
      (t n : ℕ) (u : IsUnderWay w os es t n) where
    abbrev pub entry : Staged
    entry = record { object = p; slot = s; number = t + 1 }

    just_reserved : StandsReserved w with_slot entry
    just_reserved = record {
      within = omega (arith, h, length-set {A = ObjectState});
      reserved = subst (λ z. IsReserved w z s) (sym (get_or-set_same os p (reserve (object_at os p) s) no_object h)) (record {
        key = allowed.key;
        value = allowed.value;
        place = omega (arith, place, length-append (object_at os p).reserved (pending_reservation s ∷ []));
        old = None;
        stands = ap (slice_get ((object_at os p).reserved ++ pending_reservation s ∷ [])) place ∙ slice_get-last (object_at os p).reserved (pending_reservation s);
      });
    }

    -- It is staged, as the first of its setting.
    staged_more : value_among (assignments_of es) s.key ≡ None →
        IsUnderWay w with_slot (es ++ entry ∷ []) (t + 1) n
    staged_more none =
        let longer : length (es ++ entry ∷ []) ≡ length es + 1 = length-append es (entry ∷ []) in
        record {
          few = omega (arith, u.few, longer);
          counted = omega (arith, u.counted, longer);
          distinct = subst IsDistinct (sym (map-append assignment_of_entry es (entry ∷ []))) (distinct_last (assignments_of es) (assignment_of_entry entry) u.distinct none);
          reserved = λ k high. elim (eqb_tells k (length es)) [
            | inl q ↦ subst (StandsReserved w with_slot) (sym (ap (entry_at (es ++ entry ∷ [])) q.1 ∙ entry_at-last es entry)) just_reserved
            | inr q ↦
                let below : k < length es = omega (arith, high, q.1, longer) in
                subst (StandsReserved w with_slot) (sym (entry_at-append es entry k below)) (reserved_stays (entry_at es k) (u.reserved k below))
          ];
          undoable = λ k low.
              let below : k < length es = omega (arith, low, u.counted) in
              subst (StandsUndoable w with_slot) (sym (entry_at-append es entry k below)) (undoable_stays (entry_at es k) (u.undoable k low));
        }

    pub staged_by_standing : (st : Standing) →
        st ≡ standing_by (value_among (assignments_of es) s.key) s.value →
        IsUnderWay w with_slot (staged_by st es entry) (t + 1) n
    staged_by_standing First is = staged_more (is_first (value_among (assignments_of es) s.key) s.value (sym is))
    staged_by_standing Repeats is = slot_more es t (t + 1) n (omega arith) u
    staged_by_standing Contradicts is = slot_more es t (t + 1) n (omega arith) u

-- One more variable passed its tests.
pub passed_more : (w : World) (view : List ℕ) (b : Binding) (os ns : List ObjectState)
    (es fs : List Staged) (t n : ℕ) (v : TestedVariable) →
    IsSound w → IsPassed os ns w view t b es fs v →
    IsUnderWay w os es t n → IsUnderWay w ns fs (t + 1) n
passed_more w view b os ns es fs t n v sound passed u =
    let within : passed.place < length os = owner_within os b.name passed.place passed.at.owner in
    let placed = placed_ok _ (object_at os passed.place).reserved passed.slot passed.at.answer in
    subst (λ zs. IsUnderWay w zs fs (t + 1) n) (sym passed.at.reserved)
    (subst (λ xs. IsUnderWay w (with_slot w os passed.place passed.slot within) xs (t + 1) n) (sym passed.at.staged)
    (staged_by_standing w os passed.place passed.slot within placed.place (legal _ w _ b.value _ sound (within_ok w (assignments_in (object_at os passed.place).reserved) _ _ placed.assigned)) es t n u v.standing passed.at.standing))

-- ---- a commit

module _ (w : World) (os : List ObjectState) (es : List Staged) (t n : ℕ)
    (u : IsUnderWay w os es t n) (more : n < length es) where
  abbrev e : Staged
  e = entry_at es n

  here : StandsReserved w os (entry_at es n)
  here = u.reserved n more

  -- What is held for an entry of another setting stays.
  stays : (f : Staged) (r : Reservation) → Holds (object_at os f.object) f.slot.place r →
      r.key ≢ (entry_at es n).slot.key →
      Holds (object_at (after_commit os w (entry_at es n)) f.object) f.slot.place r
  stays f r there ne =
      holds_others os e.object e.slot (setting w e.slot.key) (reservation_of e.slot here.reserved.old) f.object f.slot.place r here.within (holds_reserved w (object_at os e.object) e.slot here.reserved) there ne

  apart : (k : ℕ) → k < length es → k ≢ n → (entry_at es k).slot.key ≢ (entry_at es n).slot.key
  apart k high ne = elim (cases_lt n k) [
    | inl above ↦ distinct_below es n k u.distinct above high
    | inr low ↦ (λ q. distinct_below es k n u.distinct (omega (arith, low, ne)) more (sym q))
  ]

  made : Holds (object_at (after_commit os w (entry_at es n)) (entry_at es n).object) (entry_at es n).slot.place (committed_reservation (entry_at es n).slot (setting w (entry_at es n).slot.key))
  made = holds_made os e.object e.slot (setting w e.slot.key) here.within here.reserved.place

  module _ (range : IsSettingInRange w (entry_at es n).slot.key (setting w (entry_at es n).slot.key)) where
    reserved_here : StandsReserved (put_entry w (entry_at es n)) (after_commit os w (entry_at es n)) (entry_at es n)
    reserved_here = record {
      within = omega (arith, here.within, length-set {A = ObjectState});
      reserved = record {
        key = keys-kept w e.slot.key e.slot.key e.slot.value here.reserved.value here.reserved.key;
        value = range-kept w e.slot.key e.slot.key e.slot.value e.slot.value here.reserved.value;
        place = made.within;
        old = Some (setting w e.slot.key);
        stands = made.stands;
      };
    }

    undoable_here : StandsUndoable (put_entry w (entry_at es n)) (after_commit os w (entry_at es n)) (entry_at es n)
    undoable_here = record {
      within = omega (arith, here.within, length-set {A = ObjectState});
      before = setting w e.slot.key;
      committed = record {
        key = keys-kept w e.slot.key e.slot.key e.slot.value here.reserved.value here.reserved.key;
        value = range-kept w e.slot.key e.slot.key e.slot.value (setting w e.slot.key) range;
        place = made.within;
        stands = made.stands;
      };
    }

    reserved_other : (f : Staged) → StandsReserved w os f → f.slot.key ≢ (entry_at es n).slot.key →
        StandsReserved (put_entry w (entry_at es n)) (after_commit os w (entry_at es n)) f
    reserved_other f there ne =
        let after = stays f (reservation_of f.slot there.reserved.old) (holds_reserved w (object_at os f.object) f.slot there.reserved) ne in
        record {
          within = omega (arith, there.within, length-set {A = ObjectState});
          reserved = record {
            key = keys-kept w e.slot.key f.slot.key e.slot.value here.reserved.value there.reserved.key;
            value = range-kept w e.slot.key f.slot.key e.slot.value f.slot.value there.reserved.value;
            place = after.within;
            old = there.reserved.old;
            stands = after.stands;
          };
        }

    undoable_other : (f : Staged) → StandsUndoable w os f → f.slot.key ≢ (entry_at es n).slot.key →
        StandsUndoable (put_entry w (entry_at es n)) (after_commit os w (entry_at es n)) f
    undoable_other f there ne =
        let after = stays f (committed_reservation f.slot there.before) (holds_committed w (object_at os f.object) f.slot there.before there.committed) ne in
        record {
          within = omega (arith, there.within, length-set {A = ObjectState});
          before = there.before;
          committed = record {
            key = keys-kept w e.slot.key f.slot.key e.slot.value here.reserved.value there.committed.key;
            value = range-kept w e.slot.key f.slot.key e.slot.value there.before there.committed.value;
            place = after.within;
            stands = after.stands;
          };
        }

    committed_now : IsUnderWay (put_entry w (entry_at es n)) (after_commit os w (entry_at es n)) es t (n + 1)
    committed_now = record {
      few = u.few;
      counted = omega (arith, more);
      distinct = u.distinct;
      reserved = λ k high. elim (eqb_tells k n) [
        | inl q ↦ subst (λ j. StandsReserved (put_entry w (entry_at es n)) (after_commit os w (entry_at es n)) (entry_at es j)) (sym q.1) reserved_here
        | inr q ↦ reserved_other (entry_at es k) (u.reserved k high) (apart k high q.1)
      ];
      undoable = λ k low. elim (eqb_tells k n) [
        | inl q ↦ subst (λ j. StandsUndoable (put_entry w (entry_at es n)) (after_commit os w (entry_at es n)) (entry_at es j)) (sym q.1) undoable_here
        | inr q ↦ undoable_other (entry_at es k) (u.undoable k (omega (arith, low, q.1))) (apart k (omega (arith, low, more)) q.1)
      ];
    }

    -- One more entry is committed.
    pub committed_next : (v : World) (ns : List ObjectState) → v ≡ put_entry w (entry_at es n) →
        ns ≡ after_commit os w (entry_at es n) → IsUnderWay v ns es t (n + 1)
    committed_next v ns world objects =
        subst (λ x. IsUnderWay x ns es t (n + 1)) (sym world) (subst (λ zs. IsUnderWay (put_entry w (entry_at es n)) zs es t (n + 1)) (sym objects) committed_now)

-- ---- a call that put nothing, and an undo

-- A device was called, for as many commits or fewer.
pub called : (fails : Bool) (w v : World) (os ns : List ObjectState) (es : List Staged)
    (t n m : ℕ) (e : Staged) → m ≤ n → e.object < length os → v ≡ w →
    ns ≡ after_called fails os e → IsUnderWay w os es t n → IsUnderWay v ns es t m
called fails w v os ns es t n m e less h world objects u =
    subst (λ x. IsUnderWay x ns es t m) (sym world) (subst (λ zs. IsUnderWay w zs es t m) (sym objects) (record {
      few = u.few;
      counted = omega (arith, less, u.counted);
      distinct = u.distinct;
      reserved = λ k high.
          let f = entry_at es k in
          let there : StandsReserved w os (entry_at es k) = u.reserved k high in
          let after : Holds (object_at (after_called fails os e) (entry_at es k).object) (entry_at es k).slot.place (reservation_of (entry_at es k).slot (u.reserved k high).reserved.old)
          = holds_after_call fails os e.object f.object f.slot.place (reservation_of f.slot there.reserved.old) h (holds_reserved w (object_at os f.object) f.slot there.reserved) in
          record {
            within = omega (arith, there.within, length-set {A = ObjectState});
            reserved = record {
              key = there.reserved.key;
              value = there.reserved.value;
              place = after.within;
              old = there.reserved.old;
              stands = after.stands;
            };
          };
      undoable = λ k low.
          let f = entry_at es k in
          let there : StandsUndoable w os (entry_at es k) = u.undoable k (omega (arith, low, less)) in
          let after : Holds (object_at (after_called fails os e) (entry_at es k).object) (entry_at es k).slot.place (committed_reservation (entry_at es k).slot (u.undoable k (omega (arith, low, less))).before)
          = holds_after_call fails os e.object f.object f.slot.place (committed_reservation f.slot there.before) h (holds_committed w (object_at os f.object) f.slot there.before there.committed) in
          record {
            within = omega (arith, there.within, length-set {A = ObjectState});
            before = there.before;
            committed = record {
              key = there.committed.key;
              value = there.committed.value;
              place = after.within;
              stands = after.stands;
            };
          };
    }))

-- A setting was given a value.
given : (w : World) (key : SettingKey) (value : SettingValue) (os : List ObjectState)
    (es : List Staged) (t n : ℕ) → IsSettingInRange w key value → IsUnderWay w os es t n →
    IsUnderWay (put w key value) os es t n
given w key value os es t n range u = record {
  few = u.few;
  counted = u.counted;
  distinct = u.distinct;
  reserved = λ k high.
      let there : StandsReserved w os (entry_at es k) = u.reserved k high in
      record {
        within = there.within;
        reserved = record {
          key = keys-kept w key (entry_at es k).slot.key value range there.reserved.key;
          value = range-kept w key (entry_at es k).slot.key value (entry_at es k).slot.value there.reserved.value;
          place = there.reserved.place;
          old = there.reserved.old;
          stands = there.reserved.stands;
        };
      };
  undoable = λ k low.
      let there : StandsUndoable w os (entry_at es k) = u.undoable k low in
      record {
        within = there.within;
        before = there.before;
        committed = record {
          key = keys-kept w key (entry_at es k).slot.key value range there.committed.key;
          value = range-kept w key (entry_at es k).slot.key value there.before there.committed.value;
          place = there.committed.place;
          stands = there.committed.stands;
        };
      };
}

-- The last commit was undone.
pub undone : (w v : World) (os ns : List ObjectState) (es : List Staged) (t n m : ℕ)
    (e : Staged) (value : SettingValue) → m ≤ n → e.object < length os →
    IsSettingInRange w e.slot.key value →
    v ≡ put w e.slot.key value → ns ≡ after_called false os e →
    IsUnderWay w os es t n → IsUnderWay v ns es t m
undone w v os ns es t n m e value less h range world objects u =
    subst (λ x. IsUnderWay x ns es t m) (sym world)
    (called false (put w e.slot.key value) (put w e.slot.key value) os ns es t n m e less h refl objects (given w e.slot.key value os es t n range u))

-- ---- by what a call answers

module _ {T E : Type 0} (r : Result T E) (w v : World) (os ns : List ObjectState)
    (es : List Staged) (t n m : ℕ) (e : Staged) (less : m ≤ n) (there : StandsUndoable w os e)
    (u : IsUnderWay w os es t n) where
  -- The undo of an entry's commit.
  pub undo_answered :
      OnOk r ((value : SettingValue) → slice_get (object_at os e.object).reserved e.slot.place
      ≡ Some (committed_reservation e.slot value) → v ≡ put w e.slot.key value) →
      OnOk r (ns ≡ after_called false os e) → OnErr r (v ≡ w) →
      OnErr r (ns ≡ after_called true os e) → IsUnderWay v ns es t m
  undo_answered = by_answer r
    where
      by_answer : (r : Result T E) →
          OnOk r ((value : SettingValue) → slice_get (object_at os e.object).reserved e.slot.place
          ≡ Some (committed_reservation e.slot value) → v ≡ put w e.slot.key value) →
          OnOk r (ns ≡ after_called false os e) → OnErr r (v ≡ w) →
          OnErr r (ns ≡ after_called true os e) → IsUnderWay v ns es t m
      by_answer (Ok x) puts kept same failed =
          undone w v os ns es t n m e there.before less there.within there.committed.value (puts there.before there.committed.stands) kept u
      by_answer (Err x) puts kept same failed =
          called true w v os ns es t n m e less there.within same failed u

-- The test of a variable whose object reserved a slot.
pub test_answered : (r : Result TestedVariable VariableFault) (w : World) (view : List ℕ) (b : Binding)
    (os ns : List ObjectState) (es fs : List Staged) (t k n : ℕ) (p : ℕ) (s : Slot) →
    IsSound w → p < length os →
    ns ≡ slice_set os p (reserve (object_at os p) s) →
    IfOk r (λ v. IsPassed os ns w view t b es fs v) → OnOk r (k ≡ t + 1) → OnErr r (fs ≡ es) →
    OnErr r (k ≡ t) → IsUnderWay w os es t n → IsUnderWay w ns fs k n
test_answered (Ok v) w view b os ns es fs t k n p s sound h is passed more same stays u =
    subst (λ j. IsUnderWay w ns fs j n) (sym more) (passed_more w view b os ns es fs t n v sound passed u)
test_answered (Err fault) w view b os ns es fs t k n p s sound h is passed more same stays u =
    subst (λ j. IsUnderWay w ns fs j n) (sym stays)
    (subst (λ xs. IsUnderWay w ns xs t n) (sym same)
    (subst (λ zs. IsUnderWay w zs es t n) (sym is) (slot_more w os p s h es t t n (omega arith) u)))
