-- Settings that are given values one after the other, and one among them that is restored.
use Rattle.std.proofs.Common.{◌≡◌, ◌≢◌, ℕ, zero, suc, ◌+◌, ◌<◌, ◌≤◌, ◌∙◌, sym, ap, subst, refl, Bool, true, false, List, [], ◌∷◌, ◌++◌, length, take, drop, slice_index_or, arith, add-one, append_assoc}
use Rattle.std.proofs.lemmas.List.{take-map, get_or_default}
use Rattle.setting_keys.specs.declared.SettingKey.{SettingKey}
use Rattle.setting_keys.specs.declared.SettingValue.{SettingValue}
use Rattle.setphase_core.specs.declared.object.Assignment.{Assignment}
use Rattle.setphase_core.specs.declared.staging.Staged.{Staged}
use Rattle.setphase_core.specs.declared.world.World.{World}
use Rattle.setphase_core.specs.Settings.{setting, put, HasSetting, IsSettingInRange, same_setting}
use Rattle.setphase_core.specs.Staging.{assignment_of_entry, assignments_of, no_entry, entry_at, Without, IsDistinct, IsLegal, AreLegal}
use Rattle.setphase_core.specs.Together.{assign}
use Rattle.setphase_core.proofs.Puts.{setting-put_other, put-restored, puts-commuted, keys-kept, range-kept, range-before, same-exact}

-- An entry that is read where it stands, in a list that is this one.
pub entry_read : (es fs : List Staged) (k : ℕ) (x : Staged) → fs ≡ es → k < length es →
    x ≡ slice_index_or fs k x → x ≡ entry_at es k
entry_read es fs k x same h is =
    is ∙ ap (λ (xs : List Staged). slice_index_or xs k x) same ∙ get_or_default es k x no_entry h

pub different : (k l : SettingKey) → k ≢ l → same_setting k l ≡ false
different k l ne = off (same_setting k l) refl
  where
    off : (b : Bool) → same_setting k l ≡ b → b ≡ false
    off true e = absurd (ne ((same-exact k l).0 e))
    off false e = refl

-- ---- what is legal stays so

pub still_legal : (w : World) (a : Assignment) (k : SettingKey) (v : SettingValue) →
    IsSettingInRange w k v → IsLegal w a → IsLegal (put w k v) a
still_legal w a k v range h = record {
  key = keys-kept w k a.key v range h.key;
  value = range-kept w k a.key v a.value h.value;
}

pub legal_after : (w : World) (ps : List Assignment) (k : SettingKey) (v : SettingValue) →
    IsSettingInRange w k v → AreLegal w ps → AreLegal (put w k v) ps
legal_after w [] k v range h = tt
legal_after w (p ∷ ps) k v range h = (still_legal w p k v range h.0, legal_after w ps k v range h.1)

-- ---- the laws of several assignments

pub setting-assign : (ps : List Assignment) (w : World) (k : SettingKey) → Without k ps →
    AreLegal w ps → HasSetting w k → setting (assign ps w) k ≡ setting w k
setting-assign [] w k apart has h = refl
setting-assign (a ∷ ps) w k apart has h =
    setting-assign ps (put w a.key a.value) k apart.1 (legal_after w ps a.key a.value has.0.value has.1) (keys-kept w a.key k a.value has.0.value h)
    ∙ setting-put_other w a.key k a.value (different a.key k apart.0) has.0.key h

put-assign : (ps : List Assignment) (w : World) (k : SettingKey) (v : SettingValue) →
    Without k ps → AreLegal w ps → HasSetting w k → IsSettingInRange w k v →
    put (assign ps w) k v ≡ assign ps (put w k v)
put-assign [] w k v apart has h range = refl
put-assign (a ∷ ps) w k v apart has h range =
    put-assign ps (put w a.key a.value) k v apart.1 (legal_after w ps a.key a.value has.0.value has.1) (keys-kept w a.key k a.value has.0.value h) (range-kept w a.key k a.value v range)
    ∙ ap (assign ps) (puts-commuted w a.key k a.value v apart.0 has.0.key h has.0.value range)

-- One setting among others is restored, to a value that it may have.
pub value_restored : (ps qs : List Assignment) (w : World) (a : Assignment) → Without a.key ps →
    Without a.key qs → AreLegal w ps → AreLegal w qs → IsLegal w a →
    IsSettingInRange w a.key (setting w a.key) →
    put (assign (ps ++ a ∷ qs) w) a.key (setting w a.key) ≡ assign (ps ++ qs) w
value_restored [] qs w a before behind has there h range =
    put-assign qs (put w a.key a.value) a.key (setting w a.key) behind (legal_after w qs a.key a.value h.value there) (keys-kept w a.key a.key a.value h.value h.key) (range-kept w a.key a.key a.value (setting w a.key) range)
    ∙ ap (assign qs) (put-restored w a.key a.value h.key)
value_restored (p ∷ ps) qs w a before behind has there h range =
    let same : setting (put w p.key p.value) a.key ≡ setting w a.key = setting-put_other w p.key a.key p.value (different p.key a.key before.0) has.0.key h.key in
    ap (λ v. put (assign (ps ++ a ∷ qs) (put w p.key p.value)) a.key v) (sym same)
    ∙ value_restored ps qs (put w p.key p.value) a before.1 behind (legal_after w ps p.key p.value has.0.value has.1) (legal_after w qs p.key p.value has.0.value there) (still_legal w a p.key p.value has.0.value h)
    (subst (IsSettingInRange (put w p.key p.value) a.key) (sym same) (range-kept w p.key a.key p.value (setting w a.key) range))

-- What is in range after assignments was before: the ports are as many.
pub range-assigned : (ps : List Assignment) (w : World) (k : SettingKey) (v : SettingValue) →
    IsSettingInRange (assign ps w) k v → IsSettingInRange w k v
range-assigned [] w k v h = h
range-assigned (a ∷ ps) w k v h =
    range-before w a.key k a.value v (range-assigned ps (put w a.key a.value) k v h)

assign-append : (ps qs : List Assignment) (w : World) →
    assign (ps ++ qs) w ≡ assign qs (assign ps w)
assign-append [] qs w = refl
assign-append (a ∷ ps) qs w = assign-append ps qs (put w a.key a.value)

-- ---- what entries write

pub legal-taken : (es : List Staged) (n : ℕ) (w : World) → n ≤ length es →
    ((k : ℕ) → k < n → IsLegal w (assignment_of_entry (entry_at es k))) →
    AreLegal w (take n (assignments_of es))
legal-taken es zero w h has = tt
legal-taken [] (suc n) w h has = tt
legal-taken (e ∷ es) (suc n) w h has =
    (has 0 (omega arith), legal-taken es n w (omega arith) (λ k low. has (suc k) (omega arith)))

legal-drop : (es : List Staged) (m : ℕ) (w : World) → AreLegal w (assignments_of es) →
    AreLegal w (assignments_of (drop m es))
legal-drop es zero w h = h
legal-drop [] (suc m) w h = tt
legal-drop (e ∷ es) (suc m) w h = legal-drop es m w h.1

pub legal-between : (es : List Staged) (m n : ℕ) (w : World) →
    AreLegal w (take n (assignments_of es)) → AreLegal w (assignments_of (drop m (take n es)))
legal-between es m n w h =
    legal-drop (take n es) m w (subst (AreLegal w) (take-map assignment_of_entry n es) h)

take_more : (es : List Staged) (i : ℕ) → i < length es →
    take (suc i) (assignments_of es)
    ≡ take i (assignments_of es) ++ assignment_of_entry (entry_at es i) ∷ []
take_more [] i h = absurd (omega arith)
take_more (e ∷ es) zero h = refl
take_more (e ∷ es) (suc i) h =
    ap (λ ps. assignment_of_entry e ∷ ps) (take_more es i (omega arith))

-- The world after the commit of one more entry.
pub assign_more : (before w : World) (es : List Staged) (i : ℕ) → i < length es →
    w ≡ assign (take i (assignments_of es)) before →
    put w (entry_at es i).slot.key (entry_at es i).slot.value
    ≡ assign (take (i + 1) (assignments_of es)) before
assign_more before w es i h is =
    ap (λ v. put v (entry_at es i).slot.key (entry_at es i).slot.value) is
    ∙ sym (assign-append (take i (assignments_of es)) (assignment_of_entry (entry_at es i) ∷ []) before)
    ∙ ap (λ ps. assign ps before) (sym (ap (λ n. take n (assignments_of es)) (add-one i) ∙ take_more es i h))

-- The last of some entries, and what stands behind them.
pub take_last : (es : List Staged) (m k : ℕ) (qs : List Assignment) → k + 1 ≡ m →
    m ≤ length es →
    take m (assignments_of es) ++ qs
    ≡ take k (assignments_of es) ++ assignment_of_entry (entry_at es k) ∷ qs
take_last es m k qs e h =
    ap (λ n. take n (assignments_of es) ++ qs) (sym e ∙ add-one k)
    ∙ ap (λ ps. ps ++ qs) (take_more es k (omega arith))
    ∙ append_assoc (take k (assignments_of es)) (assignment_of_entry (entry_at es k) ∷ []) qs

-- ---- a setting stands at one place only

without_at : (es : List Staged) (key : SettingKey) (k : ℕ) → Without key (assignments_of es) →
    k < length es → (entry_at es k).slot.key ≢ key
without_at [] key k h l = absurd (omega arith)
without_at (e ∷ es) key zero h l = h.0
without_at (e ∷ es) key (suc k) h l = without_at es key k h.1 (omega arith)

pub distinct_below : (es : List Staged) (j k : ℕ) → IsDistinct (assignments_of es) → j < k →
    k < length es → (entry_at es k).slot.key ≢ (entry_at es j).slot.key
distinct_below [] j k d l m = absurd (omega arith)
distinct_below (e ∷ es) zero zero d l m = absurd (omega arith)
distinct_below (e ∷ es) zero (suc k) d l m = without_at es e.slot.key k d.0 (omega arith)
distinct_below (e ∷ es) (suc j) zero d l m = absurd (omega arith)
distinct_below (e ∷ es) (suc j) (suc k) d l m =
    distinct_below es j k d.1 (omega arith) (omega arith)

pub without_before : (es : List Staged) (i : ℕ) → IsDistinct (assignments_of es) →
    i < length es → Without (entry_at es i).slot.key (take i (assignments_of es))
without_before [] i d h = absurd (omega arith)
without_before (e ∷ es) zero d h = tt
without_before (e ∷ es) (suc i) d h =
    (λ q. without_at es e.slot.key i d.0 (omega arith) (sym q), without_before es i d.1 (omega arith))

without_taken : (es : List Staged) (key : SettingKey) (n : ℕ) → Without key (assignments_of es) →
    Without key (assignments_of (take n es))
without_taken es key zero h = tt
without_taken [] key (suc n) h = tt
without_taken (e ∷ es) key (suc n) h = (h.0, without_taken es key n h.1)

-- The settings of the entries behind a place, up to another.
pub without_behind : (es : List Staged) (k n : ℕ) → IsDistinct (assignments_of es) → k < n →
    n ≤ length es →
    Without (entry_at es k).slot.key (assignments_of (drop (suc k) (take n es)))
without_behind [] k n d l h = absurd (omega arith)
without_behind (e ∷ es) k zero d l h = absurd (omega arith)
without_behind (e ∷ es) zero (suc n) d l h = without_taken es e.slot.key n d.0
without_behind (e ∷ es) (suc k) (suc n) d l h =
    without_behind es k n d.1 (omega arith) (omega arith)
