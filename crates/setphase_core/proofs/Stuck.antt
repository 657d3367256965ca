-- Of the entries of a Set those whose settings could not be undone, reported by their keys.
use Rattle.std.proofs.Common.{◌≡◌, ◌≢◌, ℕ, suc, ◌+◌, ◌<◌, ◌≤◌, ◌∙◌, sym, ap, subst, refl, Bool, true, false, ◌||◌, cond, List, [], ◌∷◌, ◌++◌, length, map, take, drop, arith, add-one, length-take}
use Rattle.std.proofs.lemmas.List.{get_or-take}
use Rattle.std.proofs.Math.Seq.{drop-cons}
use Rattle.setting_keys.specs.declared.SettingKey.{SettingKey}
use Rattle.setphase_core.specs.declared.staging.Staged.{Staged}
use Rattle.setphase_core.specs.declared.world.World.{World}
use Rattle.setphase_core.specs.Staging.{assignment_of_entry, assignments_of, entry_at, no_entry, Without, IsDistinct, IsLegal, AreLegal, CallAt, commit_at, undo_at, undos_at, entries_of}
use Rattle.setphase_core.specs.Outcomes.{has_key}
use Rattle.setphase_core.proofs.Puts.{same-exact}
use Rattle.setphase_core.proofs.Assigns.{different, without_behind}
use Rattle.setphase_core.proofs.Called.{undos-cons, undos-more}

-- The settings of entries.
abbrev pub entry_keys : List Staged → List SettingKey
entry_keys es = map (λ e. e.slot.key) es

pub entries_none : (es : List Staged) → entries_of [] es ≡ []
entries_none [] = refl
entries_none (e ∷ es) = entries_none es

-- A setting that no entry has is not among the entries' settings.
pub absent : (fs : List Staged) (k : SettingKey) → Without k (assignments_of fs) →
    has_key (entry_keys fs) k ≡ false
absent [] k h = refl
absent (f ∷ fs) k h =
    ap (λ b. b || has_key (entry_keys fs) k) (different f.slot.key k h.0) ∙ absent fs k h.1

without-picked : (b : Bool) (e : Staged) (es : List Staged) (k : SettingKey) →
    e.slot.key ≢ k → Without k (assignments_of es) →
    Without k (assignments_of (cond b (e ∷ es) es))
without-picked true e es k h i = (h, i)
without-picked false e es k h i = i

pub without_entries : (keys : List SettingKey) (es : List Staged) (k : SettingKey) →
    Without k (assignments_of es) → Without k (assignments_of (entries_of keys es))
without_entries keys [] k h = tt
without_entries keys (e ∷ es) k h =
    without-picked (has_key keys e.slot.key) e (entries_of keys es) k h.0 (without_entries keys es k h.1)

legal-picked : (b : Bool) (e : Staged) (es : List Staged) (w : World) →
    IsLegal w (assignment_of_entry e) → AreLegal w (assignments_of es) →
    AreLegal w (assignments_of (cond b (e ∷ es) es))
legal-picked true e es w h i = (h, i)
legal-picked false e es w h i = i

pub legal-entries : (keys : List SettingKey) (es : List Staged) (w : World) →
    AreLegal w (assignments_of es) → AreLegal w (assignments_of (entries_of keys es))
legal-entries keys [] w h = tt
legal-entries keys (e ∷ es) w h =
    legal-picked (has_key keys e.slot.key) e (entries_of keys es) w h.0 (legal-entries keys es w h.1)

-- A setting that no entry has picks none.
entries_more : (keys : List SettingKey) (key : SettingKey) (es : List Staged) →
    Without key (assignments_of es) → entries_of (key ∷ keys) es ≡ entries_of keys es
entries_more keys key [] h = refl
entries_more keys key (e ∷ es) h =
    ap (λ b. cond (b || has_key keys e.slot.key) (e ∷ entries_of (key ∷ keys) es) (entries_of (key ∷ keys) es)) (different key e.slot.key (λ q. h.0 (sym q)))
    ∙ ap (λ xs. cond (has_key keys e.slot.key) (e ∷ xs) xs) (entries_more keys key es h.1)

-- Of the entries below place n those from k on are the entry at k and those from m on.
module _ (es : List Staged) (k m n : ℕ) (one : k + 1 ≡ m) (low : m ≤ n) (high : n ≤ length es)
    (distinct : IsDistinct (assignments_of es)) where
  next : suc k ≡ m
  next = sym (add-one k) ∙ one

  below : k < n
  below = omega arith

  drop_at : drop k (take n es) ≡ entry_at es k ∷ drop m (take n es)
  drop_at =
      drop-cons (take n es) k no_entry (omega (arith, below, length-take n es))
      ∙ ap (λ x. x ∷ drop (suc k) (take n es)) (get_or-take n es k no_entry below)
      ∙ ap (λ j. entry_at es k ∷ drop j (take n es)) next

  pub behind : Without (entry_at es k).slot.key (assignments_of (drop m (take n es)))
  behind =
      subst (λ j. Without (entry_at es k).slot.key (assignments_of (drop j (take n es)))) next (without_behind es k n distinct below high)

  -- The entry at k was undone.
  pub stay_same : (keys : List SettingKey) →
      keys ≡ entry_keys (entries_of keys (drop m (take n es))) →
      entries_of keys (drop k (take n es)) ≡ entries_of keys (drop m (take n es))
  stay_same keys are =
      let rest = drop m (take n es) in
      let key = (entry_at es k).slot.key in
      ap (entries_of keys) drop_at
      ∙ ap (λ b. cond b (entry_at es k ∷ entries_of keys rest) (entries_of keys rest)) (ap (λ ks. has_key ks key) are ∙ absent (entries_of keys rest) key (without_entries keys rest key behind))

  -- The entry at k could not be undone.
  pub stay_more : (keys : List SettingKey) →
      entries_of ((entry_at es k).slot.key ∷ keys) (drop k (take n es))
      ≡ entry_at es k ∷ entries_of keys (drop m (take n es))
  stay_more keys =
      let rest = drop m (take n es) in
      let key = (entry_at es k).slot.key in
      ap (entries_of (key ∷ keys)) drop_at
      ∙ ap (λ b. cond (b || has_key keys key) (entry_at es k ∷ entries_of (key ∷ keys) rest) (entries_of (key ∷ keys) rest)) ((same-exact key key).1 refl)
      ∙ ap (λ xs. entry_at es k ∷ xs) (entries_more keys key rest behind)

  -- The undos of the entries from k on, where that of the entry at k went well, and where it failed.
  pub undos_same : (keys : List SettingKey) →
      keys ≡ entry_keys (entries_of keys (drop m (take n es))) →
      undos_at keys (drop m (take n es)) ++ commit_at false (entry_at es k) ∷ []
      ≡ undos_at keys (drop k (take n es))
  undos_same keys are =
      let rest = drop m (take n es) in
      let e = entry_at es k in
      sym (ap (undos_at keys) drop_at
      ∙ undos-cons keys e rest
      ∙ ap (λ b. undos_at keys rest ++ (record { place = e.object; fails = b }) ∷ []) (ap (λ ks. has_key ks e.slot.key) are ∙ absent (entries_of keys rest) e.slot.key (without_entries keys rest e.slot.key behind)))

  pub undos_failed : (keys : List SettingKey) →
      undos_at keys (drop m (take n es)) ++ commit_at true (entry_at es k) ∷ []
      ≡ undos_at ((entry_at es k).slot.key ∷ keys) (drop k (take n es))
  undos_failed keys =
      let rest = drop m (take n es) in
      let e = entry_at es k in
      let key = (entry_at es k).slot.key in
      sym (ap (undos_at (key ∷ keys)) drop_at
      ∙ undos-cons (key ∷ keys) e rest
      ∙ ap (λ (cs : List CallAt). cs ++ undo_at (key ∷ keys) e ∷ []) (undos-more keys key rest behind)
      ∙ ap (λ b. undos_at keys rest ++ (record { place = e.object; fails = b || has_key keys key }) ∷ []) ((same-exact key key).1 refl))
