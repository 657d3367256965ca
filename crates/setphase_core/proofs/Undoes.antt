-- The slots of a Set while their commits are undone, the last one first.
use Rattle.std.proofs.Common.{◌≡◌, ℕ, ◌+◌, ◌-◌, ◌<◌, ◌≤◌, ◌∙◌, sym, ap, subst, refl, zero, suc, false, true, List, [], ◌∷◌, ◌++◌, length, map, take, drop, slice_get, Some, arith, append-nil}
use Rattle.setting_keys.specs.declared.SettingKey.{SettingKey}
use Rattle.setting_keys.specs.declared.SettingValue.{SettingValue}
use Rattle.setphase_core.specs.declared.object.Reservation.{Reservation}
use Rattle.setphase_core.specs.declared.staging.Staged.{Staged}
use Rattle.setphase_core.specs.declared.world.World.{World}
use Rattle.setphase_core.specs.Objects.{ObjectState, HasSpace, HasSpaceBack, committed_reservation, object_after_release, IsByPlan}
use Rattle.setphase_core.specs.Settings.{setting, put, IsSettingInRange}
use Rattle.setphase_core.specs.Staging.{object_at, entry_at, assignment_of_entry, assignments_of, IsDistinct, IsLegal, StandsCommitted, HasSpaceFor, AreCommitted, AreCalled, commit_at, undos_at, entries_of}
use Rattle.setphase_core.specs.Together.{assign}
use Rattle.setphase_core.proofs.Puts.{keys-kept, range-kept}
use Rattle.setphase_core.proofs.Assigns.{legal-taken, legal-between, range-assigned, value_restored, take_last, without_before}
use Rattle.setphase_core.proofs.Called.{called_none}
use Rattle.setphase_core.proofs.Commits.{after_called, had_key, committed_after_call, called_after_call}
use Rattle.setphase_core.proofs.Space.{space_undo}
use Rattle.setphase_core.proofs.Stuck.{entry_keys, entries_none, without_entries, legal-entries, behind, stay_same, stay_more, undos_same, undos_failed}

-- What stands while commits are undone: of a world and objects where n entries were committed there
-- are now others, where m are, and the settings that could not be undone have these keys.
pub record Undoes (w₁ : World) (os₁ : List ObjectState) (es : List Staged) (n : ℕ) (w : World)
    (os : List ObjectState) (m : ℕ) (keys : List SettingKey) : Type 0 where
  pub stands : (before : World) → AreCommitted before w₁ os₁ es n → AreCommitted before w os es m
  pub reported : keys ≡ entry_keys (entries_of keys (drop m (take n es)))
  pub world : (before : World) → AreCommitted before w₁ os₁ es n →
      w₁ ≡ assign (take n (assignments_of es)) before →
      w ≡ assign (take m (assignments_of es)
      ++ assignments_of (entries_of keys (drop m (take n es)))) before
  pub called : AreCalled (undos_at keys (drop m (take n es))) (map object_after_release os₁)
      (map object_after_release os)

drop-taken : {X : Type 0} (n : ℕ) (xs : List X) → drop n (take n xs) ≡ []
drop-taken zero xs = refl
drop-taken (suc n) [] = refl
drop-taken (suc n) (x ∷ xs) = drop-taken n xs

pub undo_start : (w : World) (os : List ObjectState) (es : List Staged) (n : ℕ) →
    Undoes w os es n w os n []
undo_start w os es n =
    let none : entries_of [] (drop n (take n es)) ≡ [] = entries_none (drop n (take n es)) in
    record {
      stands = λ before done. done;
      reported = sym (ap entry_keys none);
      world = λ before done was.
          was
          ∙ ap (λ ps. assign ps before) (sym (ap (λ xs. take n (assignments_of es) ++ assignments_of xs) none ∙ append-nil (take n (assignments_of es))));
      called = subst (λ xs. AreCalled (undos_at [] xs) (map object_after_release os) (map object_after_release os)) (sym (drop-taken n es)) (called_none (map object_after_release os));
    }

pub undo_end : (w₁ w : World) (os₁ os : List ObjectState) (es : List Staged) (n m : ℕ)
    (keys : List SettingKey) → m ≡ 0 → Undoes w₁ os₁ es n w os m keys →
    Undoes w₁ os₁ es n w os 0 keys
undo_end w₁ w os₁ os es n m keys e undoes = subst (λ j. Undoes w₁ os₁ es n w os j keys) e undoes

-- The entries below a place, of those that are committed, where one setting was given a value.
committed_after_put : (before w v : World) (os : List ObjectState) (es : List Staged)
    (m k : ℕ) (key : SettingKey) (value : SettingValue) → k ≤ m → IsSettingInRange w key value →
    v ≡ put w key value → AreCommitted before w os es m → AreCommitted before v os es k
committed_after_put before w v os es m k key value h range world done =
    subst (λ u. AreCommitted before u os es k) (sym world) (record {
      stands = λ j low.
          let there : StandsCommitted before w os (entry_at es j) = done.stands j (omega arith) in
          record {
            had = there.had;
            within = there.within;
            committed = record {
              key = keys-kept w key (entry_at es j).slot.key value range there.committed.key;
              value = range-kept w key (entry_at es j).slot.key value (setting before (entry_at es j).slot.key) there.committed.value;
              place = there.committed.place;
              stands = there.committed.stands;
            };
          };
    })

fewer : (before w : World) (os : List ObjectState) (es : List Staged) (m k : ℕ) → k ≤ m →
    AreCommitted before w os es m → AreCommitted before w os es k
fewer before w os es m k h done = record { stands = λ j low. done.stands j (omega arith) }

-- What the call that undoes the last commit has as its entry, by the place that it leaves.
last_is : (es ds : List Staged) (m k : ℕ) → ds ≡ es → k + 1 ≡ m →
    entry_at ds (m - 1) ≡ entry_at es k
last_is es ds m k e one = ap (λ xs. entry_at xs (m - 1)) e ∙ ap (entry_at es) (omega arith)

module _ (w₁ w v : World) (os₁ os ns : List ObjectState) (es ds : List Staged) (n m k : ℕ)
    (keys : List SettingKey) (same : ds ≡ es) (distinct : IsDistinct (assignments_of es))
    (high : n ≤ length es) (low : m ≤ n) (one : k + 1 ≡ m)
    (undoes : Undoes w₁ os₁ es n w os m keys) where
  -- The world in which the setting of the last commit has its old value back.
  put_old_is : (before : World) → AreCommitted before w₁ os₁ es n →
      w₁ ≡ assign (take n (assignments_of es)) before →
      put w (entry_at es k).slot.key (setting before (entry_at es k).slot.key)
      ≡ assign (take k (assignments_of es) ++ assignments_of (entries_of keys (drop m (take n es)))) before
  put_old_is before done was =
      let e = entry_at es k in
      let had : (j : ℕ) → j < n → IsLegal before (assignment_of_entry (entry_at es j)) = had_key before w₁ os₁ es n done in
      let is = undoes.world before done was in
      let range : IsSettingInRange before (entry_at es k).slot.key (setting before (entry_at es k).slot.key)
      = range-assigned (take m (assignments_of es) ++ assignments_of (entries_of keys (drop m (take n es)))) before e.slot.key (setting before e.slot.key)
      (subst (λ (x : World). IsSettingInRange x e.slot.key (setting before e.slot.key)) is ((undoes.stands before done).stands k (omega arith)).committed.value) in
      ap (λ u. put u e.slot.key (setting before e.slot.key)) (is ∙ ap (λ ps. assign ps before) (take_last es m k (assignments_of (entries_of keys (drop m (take n es)))) one (omega arith)))
      ∙ value_restored (take k (assignments_of es)) (assignments_of (entries_of keys (drop m (take n es)))) before (assignment_of_entry e)
      (without_before es k distinct (omega arith))
      (without_entries keys (drop m (take n es)) e.slot.key (behind es k m n one low high distinct))
      (legal-taken es k before (omega arith) (λ j less. had j (omega arith)))
      (legal-entries keys (drop m (take n es)) before (legal-between es m n before (legal-taken es n before high had)))
      (had k (omega arith)) range

  -- There is memory for that.
  pub undo_space : (before : World) → AreCommitted before w₁ os₁ es n →
      w₁ ≡ assign (take n (assignments_of es)) before → HasSpaceFor before (assignments_of es) →
      HasSpaceBack w (object_at os (entry_at ds (m - 1)).object) (entry_at ds (m - 1)).slot
  undo_space before done was space =
      let e = entry_at es k in
      let at : entry_at ds (m - 1) ≡ entry_at es k = last_is es ds m k same one in
      let stood = ((undoes.stands before done).stands k (omega arith)).committed.stands in
      subst (λ (z : Staged). HasSpaceBack w (object_at os z.object) z.slot) (sym at) (λ old there.
      let is : setting before (entry_at es k).slot.key ≡ old = same_old (setting before e.slot.key) old (sym stood ∙ there) in
      subst (HasSpace w e.slot.key) is
      (space_undo before w es (take m (assignments_of es) ++ assignments_of (entries_of keys (drop m (take n es)))) k m n keys (setting before e.slot.key) space (undoes.world before done was) (omega arith) (omega arith) (put_old_is before done was)))
    where
      same_old : (u v : SettingValue) → Some (committed_reservation (entry_at es k).slot u) ≡ Some (committed_reservation (entry_at es k).slot v) → u ≡ v
      same_old u v e =
          let same : committed_reservation (entry_at es k).slot u ≡ committed_reservation (entry_at es k).slot v = cc in
          let olds : Some u ≡ Some v = ap (λ (r : Reservation). r.old) same in
          cc

  -- The last commit was undone.
  pub undo_step : (entry_at ds (m - 1)).object < length os →
      ns ≡ after_called false os (entry_at ds (m - 1)) →
      IsByPlan (object_at os (entry_at ds (m - 1)).object) false →
      ((value : SettingValue) → slice_get (object_at os (entry_at ds (m - 1)).object).reserved (entry_at ds (m - 1)).slot.place
      ≡ Some (committed_reservation (entry_at ds (m - 1)).slot value) →
      v ≡ put w (entry_at ds (m - 1)).slot.key value) →
      Undoes w₁ os₁ es n v ns k keys
  undo_step within objects planned puts =
      let e = entry_at es k in
      let at : entry_at ds (m - 1) ≡ entry_at es k = last_is es ds m k same one in
      let stay : entries_of keys (drop k (take n es)) ≡ entries_of keys (drop m (take n es))
      = stay_same es k m n one low high distinct keys undoes.reported in
      let put_old : (before : World) → AreCommitted before w₁ os₁ es n → v ≡ put w (entry_at es k).slot.key (setting before (entry_at es k).slot.key)
      = λ before done.
      subst (λ (z : Staged). slice_get (object_at os z.object).reserved z.slot.place ≡ Some (committed_reservation z.slot (setting before e.slot.key)) → v ≡ put w z.slot.key (setting before e.slot.key)) at (puts (setting before e.slot.key)) ((undoes.stands before done).stands k (omega arith)).committed.stands in
      record {
        stands = λ before done. committed_after_put before w v ns es m k e.slot.key (setting before e.slot.key) (omega arith) ((undoes.stands before done).stands k (omega arith)).committed.value (put_old before done) (committed_after_call false before w w os ns es m (entry_at ds (m - 1)) within refl objects (undoes.stands before done));
        reported = undoes.reported ∙ ap entry_keys (sym stay);
        world = λ before done was.
            put_old before done
            ∙ put_old_is before done was
            ∙ ap (λ xs. assign (take k (assignments_of es) ++ assignments_of xs) before) (sym stay);
        called = subst (λ cs. AreCalled cs (map object_after_release os₁) (map object_after_release ns)) (ap (λ (z : Staged). undos_at keys (drop m (take n es)) ++ commit_at false z ∷ []) at ∙ undos_same es k m n one low high distinct keys undoes.reported) (called_after_call false os ns (map object_after_release os₁) (undos_at keys (drop m (take n es))) (entry_at ds (m - 1)) objects planned undoes.called);
      }

  -- The device failed that was to undo the last commit.
  pub undo_failed : (key : SettingKey) → key ≡ (entry_at ds (m - 1)).slot.key →
      (entry_at ds (m - 1)).object < length os → v ≡ w →
      ns ≡ after_called true os (entry_at ds (m - 1)) →
      IsByPlan (object_at os (entry_at ds (m - 1)).object) true →
      Undoes w₁ os₁ es n v ns k (key ∷ keys)
  undo_failed key is within world objects planned =
      let e = entry_at es k in
      let at : entry_at ds (m - 1) ≡ entry_at es k = last_is es ds m k same one in
      let stay : entries_of ((entry_at es k).slot.key ∷ keys) (drop k (take n es)) ≡ entry_at es k ∷ entries_of keys (drop m (take n es))
      = stay_more es k m n one low high distinct keys in
      subst (λ z. Undoes w₁ os₁ es n v ns k (z ∷ keys)) (sym (is ∙ ap (λ (z : Staged). z.slot.key) at)) (record {
        stands = λ before done. committed_after_call true before w v os ns es k (entry_at ds (m - 1)) within world objects (fewer before w os es m k (omega arith) (undoes.stands before done));
        reported = ap (λ ks. e.slot.key ∷ ks) undoes.reported ∙ ap entry_keys (sym stay);
        world = λ before done was.
            world
            ∙ undoes.world before done was
            ∙ ap (λ ps. assign ps before) (take_last es m k (assignments_of (entries_of keys (drop m (take n es)))) one (omega arith))
            ∙ ap (λ xs. assign (take k (assignments_of es) ++ assignments_of xs) before) (sym stay);
        called = subst (λ cs. AreCalled cs (map object_after_release os₁) (map object_after_release ns)) (ap (λ (z : Staged). undos_at keys (drop m (take n es)) ++ commit_at true z ∷ []) at ∙ undos_failed es k m n one low high distinct keys) (called_after_call true os ns (map object_after_release os₁) (undos_at keys (drop m (take n es))) (entry_at ds (m - 1)) objects planned undoes.called);
      })
