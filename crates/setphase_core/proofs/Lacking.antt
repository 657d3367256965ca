-- The first variable that writes the ports of a static row that is not there: it is the first of its
-- setting, and so it is staged.
use Rattle.std.proofs.Common.{◌≡◌, ℕ, zero, suc, ◌+◌, ◌-◌, ◌<◌, ◌∙◌, sym, ap, refl, Bool, true, false, cond, ◌||◌, List, [], ◌∷◌, ◌++◌, length, map, take, slice_get, Option, Some, None, arith}
use Rattle.std.specs.List.{list_any}
use Rattle.std.proofs.lemmas.Bool.{or_parts}
use Rattle.std.proofs.lemmas.List.{length-map, take-map}
use Rattle.std.proofs.lemmas.List.Folds.{list_any-append}
use Rattle.setting_keys.specs.declared.SettingKey.{SettingKey}
use Rattle.setphase_core.specs.declared.object.Assignment.{Assignment}
use Rattle.setphase_core.specs.declared.staging.Staged.{Staged}
use Rattle.setphase_core.specs.declared.world.World.{World}
use Rattle.setphase_core.specs.Objects.{ObjectRow}
use Rattle.setphase_core.specs.Settings.{same_setting}
use Rattle.setphase_core.specs.Variables.{NamedAssignment}
use Rattle.setphase_core.specs.Together.{assignments, lacks_row, numbers_where}
use Rattle.setphase_core.specs.Outcomes.{has_key, keys_of, firsts, committed_of}
use Rattle.setphase_core.specs.Staging.{assignment_of_entry, assignments_of, entry_at}
use Rattle.setphase_core.specs.Tested.{first_lacking, IsNumber, AreStaged}
use Rattle.setphase_core.proofs.Puts.{same-exact}

-- ---- variables whose settings pass a test

module _ (test : SettingKey → Bool) where
  -- one of these does
  abbrev passes : List NamedAssignment → Bool
  passes ws = list_any (λ x. test x.assignment.key) ws

  -- where none does, none writes a setting that passes
  none_writes : (ws : List NamedAssignment) (k : SettingKey) → passes ws ≡ false → test k ≡ true →
      has_key (keys_of ws) k ≡ false
  none_writes [] k e h = refl
  none_writes (x ∷ ws) k e h =
      let parts = or_parts (test x.assignment.key) (passes ws) e in
      by_same (same_setting x.assignment.key k) refl parts.0 (none_writes ws k parts.1 h)
    where
      by_same : (b : Bool) → same_setting x.assignment.key k ≡ b → test x.assignment.key ≡ false →
          has_key (keys_of ws) k ≡ false → (b || has_key (keys_of ws) k) ≡ false
      by_same true s fails rest =
          let as_well : test x.assignment.key ≡ true = ap test ((same-exact x.assignment.key k).0 s) ∙ h in
          absurd cc
      by_same false s fails rest = rest

  -- so one passes where one of the firsts does
  firsts_pass : (earlier ws : List NamedAssignment) → passes earlier ≡ false →
      passes (firsts earlier ws) ≡ passes ws
  firsts_pass earlier [] none = refl
  firsts_pass earlier (x ∷ ws) none = by_test (test x.assignment.key) refl (firsts_pass (earlier ++ x ∷ []) ws)
    where
      first : (b : Bool) → has_key (keys_of earlier) x.assignment.key ≡ b → b ≡ false → test x.assignment.key ≡ true →
          passes (cond b [] (x ∷ []) ++ firsts (earlier ++ x ∷ []) ws) ≡ true
      first true at new h = absurd cc
      first false at new h = ap (λ b. b || passes (firsts (earlier ++ x ∷ []) ws)) h

      other : (b : Bool) → test x.assignment.key ≡ false →
          passes (cond b [] (x ∷ []) ++ firsts (earlier ++ x ∷ []) ws) ≡ passes (firsts (earlier ++ x ∷ []) ws)
      other true h = refl
      other false h = ap (λ b. b || passes (firsts (earlier ++ x ∷ []) ws)) h

      by_test : (b : Bool) → test x.assignment.key ≡ b →
          (passes (earlier ++ x ∷ []) ≡ false → passes (firsts (earlier ++ x ∷ []) ws) ≡ passes ws) →
          passes (firsts earlier (x ∷ ws)) ≡ passes (x ∷ ws)
      by_test true h more =
          let new : has_key (keys_of earlier) x.assignment.key ≡ false = none_writes earlier x.assignment.key none h in
          first (has_key (keys_of earlier) x.assignment.key) refl new h
          ∙ sym (ap (λ b. b || passes ws) h)
      by_test false h more =
          let later : passes (earlier ++ x ∷ []) ≡ false =
          list_any-append (λ (y : NamedAssignment). test y.assignment.key) earlier (x ∷ [])
          ∙ ap (λ b. b || (test x.assignment.key || false)) none ∙ ap (λ b. b || false) h in
          other (has_key (keys_of earlier) x.assignment.key) h
          ∙ more later
          ∙ sym (ap (λ b. b || passes ws) h)

  committed_pass : (ws : List NamedAssignment) → passes (committed_of ws) ≡ passes ws
  committed_pass ws = firsts_pass [] ws refl

  -- ---- the first number

  numbers_none : (first : ℕ) (ws : List NamedAssignment) → passes ws ≡ false →
      numbers_where test first (assignments ws) ≡ []
  numbers_none first [] e = refl
  numbers_none first (x ∷ ws) e =
      let parts = or_parts (test x.assignment.key) (passes ws) e in
      ap (λ b. cond b (first ∷ []) [] ++ numbers_where test (first + 1) (assignments ws)) parts.0
      ∙ numbers_none (first + 1) ws parts.1

  first_number : (first : ℕ) (ws : List NamedAssignment) (n : ℕ) (x : NamedAssignment) → slice_get ws n ≡ Some x →
      passes (take n ws) ≡ false → test x.assignment.key ≡ true →
      slice_get (numbers_where test first (assignments ws)) 0 ≡ Some (first + n)
  first_number first [] n x at before here = absurd cc
  first_number first (y ∷ ws) zero x at before here =
      let same : y ≡ x = cc in
      let passed : test y.assignment.key ≡ true = ap (λ (z : NamedAssignment). test z.assignment.key) same ∙ here in
      let number : first ≡ first + 0 = omega arith in
      ap (λ b. slice_get (cond b (first ∷ []) [] ++ numbers_where test (first + 1) (assignments ws)) 0) passed
      ∙ ap Some number
  first_number first (y ∷ ws) (suc n) x at before here =
      let parts = or_parts (test y.assignment.key) (passes (take n ws)) before in
      let number : first + 1 + n ≡ first + suc n = omega arith in
      ap (λ b. slice_get (cond b (first ∷ []) [] ++ numbers_where test (first + 1) (assignments ws)) 0) parts.0
      ∙ first_number (first + 1) ws n x at parts.1 here
      ∙ ap Some number

-- ---- entries

any-map : {X Y : Type 0} (f : X → Y) (t : Y → Bool) (xs : List X) →
    list_any t (map f xs) ≡ list_any (λ x. t (f x)) xs
any-map f t [] = refl
any-map f t (x ∷ xs) = ap (λ b. t (f x) || b) (any-map f t xs)

there_at : {X : Type 0} (xs : List X) (i : ℕ) → i < length xs → (x : X) × (slice_get xs i ≡ Some x)
there_at [] i h = absurd (omega arith)
there_at (x ∷ xs) zero h = (x, refl)
there_at (x ∷ xs) (suc i) h = there_at xs i (omega arith)

key_at : (es : List Staged) (cs : List NamedAssignment) (k : ℕ) (x : NamedAssignment) →
    assignments_of es ≡ assignments cs → slice_get cs k ≡ Some x →
    (entry_at es k).slot.key ≡ x.assignment.key
key_at es [] k x e at = absurd cc
key_at [] (y ∷ cs) k x e at = absurd cc
key_at (d ∷ es) (y ∷ cs) zero x e at =
    let head : assignment_of_entry d ≡ y.assignment = cc in
    let same : y ≡ x = cc in
    ap (λ (a : Assignment). a.key) head ∙ ap (λ (z : NamedAssignment). z.assignment.key) same
key_at (d ∷ es) (y ∷ cs) (suc k) x e at =
    let tail : assignments_of es ≡ assignments cs = cc in
    key_at es cs k x tail at

module _ (v : World) where
  abbrev lacks_one : List Staged → Bool
  lacks_one es = list_any (λ e. lacks_row v e.slot.key) es

  lacks_as : (es : List Staged) (cs : List NamedAssignment) → assignments_of es ≡ assignments cs →
      lacks_one es ≡ passes (lacks_row v) cs
  lacks_as es cs e =
      let lacks : Assignment → Bool = λ a. lacks_row v a.key in
      sym (any-map assignment_of_entry lacks es)
      ∙ ap (list_any lacks) e
      ∙ any-map (λ (x : NamedAssignment). x.assignment) lacks cs

  none_lacks : (es : List Staged) → first_lacking v es ≡ None → lacks_one es ≡ false
  none_lacks [] e = refl
  none_lacks (d ∷ es) e = by_row (lacks_row v d.slot.key) (none_lacks es) e
    where
      by_row : (b : Bool) → (first_lacking v es ≡ None → lacks_one es ≡ false) →
          cond b (Some d.number) (first_lacking v es) ≡ None → (b || lacks_one es) ≡ false
      by_row true rest f = absurd cc
      by_row false rest f = rest f

  -- The first entry that lacks its row stands at a place, with its number.
  record IsFirstLacking (es : List Staged) (n : ℕ) : Type 0 where
    place : ℕ
    within : place < length es
    before : lacks_one (take place es) ≡ false
    here : lacks_row v (entry_at es place).slot.key ≡ true
    number : (entry_at es place).number ≡ n

  first_at : (es : List Staged) (n : ℕ) → first_lacking v es ≡ Some n → IsFirstLacking es n
  first_at [] n e = absurd cc
  first_at (d ∷ es) n e = by_row (lacks_row v d.slot.key) refl (first_at es n) e
    where
      by_row : (b : Bool) → lacks_row v d.slot.key ≡ b → (first_lacking v es ≡ Some n → IsFirstLacking es n) →
          cond b (Some d.number) (first_lacking v es) ≡ Some n → IsFirstLacking (d ∷ es) n
      by_row true h rest f = record {
        place = 0;
        within = omega arith;
        before = refl;
        here = h;
        number = cc;
      }
      by_row false h rest f =
          let later = rest f in
          record {
            place = suc later.place;
            within = omega (arith, later.within);
            before = ap (λ b. b || lacks_one (take later.place es)) h ∙ later.before;
            here = later.here;
            number = later.number;
          }

  -- ---- the entry's number is that of the first variable that lacks its row

  module _ (rows : List ObjectRow) (ws : List NamedAssignment) (es : List Staged) (staged : AreStaged rows ws es) where
    found : (n : ℕ) → IsFirstLacking es n →
        Some n ≡ slice_get (numbers_where (lacks_row v) 1 (assignments ws)) 0
    found n first =
        let k = first.place in
        let cs = committed_of ws in
        let at = there_at cs k (omega (arith, first.within, ap length staged.written, length-map es assignment_of_entry, length-map cs (λ (x : NamedAssignment). x.assignment))) in
        let its : IsNumber ws cs k (entry_at es k).number at.0 = staged.numbered k at.0 at.1 in
        let front : assignments_of (take k es) ≡ assignments (take k cs) =
        sym (take-map assignment_of_entry k es) ∙ ap (take k) staged.written ∙ take-map (λ (x : NamedAssignment). x.assignment) k cs in
        let before : passes (lacks_row v) (take ((entry_at es k).number - 1) ws) ≡ false =
        sym (committed_pass (lacks_row v) (take ((entry_at es k).number - 1) ws))
        ∙ ap (passes (lacks_row v)) its.before ∙ sym (lacks_as (take k es) (take k cs) front) ∙ first.before in
        let here : lacks_row v at.0.assignment.key ≡ true =
        ap (lacks_row v) (sym (key_at es cs k at.0 staged.written at.1)) ∙ first.here in
        let number : n ≡ 1 + ((entry_at es k).number - 1) = omega (arith, first.number, its.least) in
        ap Some number
        ∙ sym (first_number (lacks_row v) 1 ws ((entry_at es k).number - 1) at.0 its.there before here)

    none : first_lacking v es ≡ None →
        None ≡ slice_get (numbers_where (lacks_row v) 1 (assignments ws)) 0
    none e =
        ap (λ ns. slice_get ns 0) (sym (numbers_none (lacks_row v) 1 ws
        (sym (committed_pass (lacks_row v) ws) ∙ sym (lacks_as es (committed_of ws) staged.written) ∙ none_lacks es e)))

    pub first_lacking_staged : first_lacking v es
        ≡ slice_get (numbers_where (lacks_row v) 1 (assignments ws)) 0
    first_lacking_staged = by_found (first_lacking v es) refl
      where
        by_found : (o : Option ℕ) → first_lacking v es ≡ o →
            o ≡ slice_get (numbers_where (lacks_row v) 1 (assignments ws)) 0
        by_found None e = none e
        by_found (Some n) e = found n (first_at es n e)
