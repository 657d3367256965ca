-- Family rows of which one got another mask or type: keys and indexes stay.
use Rattle.std.proofs.Common.{◌≡◌, ℕ, ◌+◌, ◌<◌, ◌≤◌, ◌&&◌, Bool, true, nat_eq, nat_le, List, [], ◌∷◌, ◌++◌, length, get_or, bytes_eq, Option, Some, option_map, refl, sym, ap, subst, ◌∙◌, arith, inl, inr}
use Rattle.std.specs.Cmp.Lexicographic.{pointwise}
use Rattle.std.specs.List.{slice_get}
use Rattle.std.specs.List.Sorted.{IsSortedBy}
use Rattle.std.specs.Ordering.{is_lt}
use Rattle.std.proofs.Math.ListN.{set}
use Rattle.std.proofs.lemmas.Bool.{cases_lt, cases_eq, and_from, le-leb}
use Rattle.std.proofs.lemmas.List.{length-set, get_or-set_same, get_or-set_other, get_or_default}
use Rattle.std.proofs.lemmas.Option.{slice_get-get_or, slice_get_past, get_or_from_slice_get, slice_get_within}
use Rattle.vacm_core.specs.declared.tree.Step.{Step}
use Rattle.vacm_core.specs.declared.tables.FamilyRow.{FamilyRow}
use Rattle.vacm_core.specs.Bitmaps.{IsIn, AreIn, AreInBut}
use Rattle.vacm_core.specs.declared.bitmaps.Block.{Block}
use Rattle.vacm_core.specs.Changes.{with_row, masked, typed, with_mask, with_type}
use Rattle.vacm_core.specs.Keys.{key_cmp, key_at, key_or, view_key, index_key, IsIndex}
use Rattle.vacm_core.specs.Rows.{same_family, family_lengths, family_fields, family_rules}
use Rattle.vacm_core.specs.Tables.{Tables, KeysDiffer, AreWellFormed, IsSound, is_well_formed, written_family}
use Rattle.vacm_core.specs.Texts.{has_length}
use Rattle.vacm_core.specs.declared.limits.TheConstants.{MAX_NAME, MAX_MASK, MAX_FAMILY}
use Rattle.vacm_core.specs.Trees.{way_of, IsPlaced, IsNumbered, IsTreeOf, IsTreeBut}
use Rattle.vacm_core.proofs.Agrees.{and_true}
use Rattle.vacm_core.proofs.FamilyWays.{numbered_alike}

-- rows of one key
pub record SameKey (a b : FamilyRow) : Type 0 where
  pub view : a.view ≡ b.view
  pub subtree : a.subtree ≡ b.subtree

-- as many rows, of the same keys
pub record AreAlike (old new : List FamilyRow) : Type 0 where
  pub long : length new ≡ length old
  pub same : (k : ℕ) (d : FamilyRow) → k < length old → SameKey (get_or old k d) (get_or new k d)

alike_set : (rows : List FamilyRow) (n : ℕ) (row : FamilyRow) → n < length rows → ((d : FamilyRow) → SameKey (get_or rows n d) row) → AreAlike rows (set rows n row)
alike_set rows n row within same = record {
  long = length-set rows n row;
  same = λ k d lt. elim (cases_eq k n) [
    | inl e ↦
        let here : get_or (set rows n row) k d ≡ row = ap (λ (i : ℕ). get_or (set rows n row) i d) e ∙ get_or-set_same rows n row d within in
        subst (SameKey (get_or rows k d)) (sym here) (subst (λ (i : ℕ). SameKey (get_or rows i d) row) (sym e) (same d))
    | inr ne ↦ subst (SameKey (get_or rows k d)) (sym (get_or-set_other rows n k row d ne)) (record { view = refl; subtree = refl })
  ];
}

-- ---- what hangs on keys alone

pub keys_kept : (old new : List FamilyRow) → AreAlike old new → KeysDiffer same_family old → KeysDiffer same_family new
keys_kept old new alike differ i j d lt within =
    let inside : j < length old = omega (arith, alike.long) in
    let a = alike.same i d (omega arith) in
    let b = alike.same j d inside in
    (λ t. bytes_eq (sym a.view t) (sym b.view t) && pointwise nat_eq (sym a.subtree t) (sym b.subtree t)) ∙ differ i j d lt inside

module _ (key : FamilyRow → ℕ × List ℕ) (by_key : (a b : FamilyRow) → SameKey a b → key a ≡ key b) where
  key_same : (old new : List FamilyRow) → AreAlike old new → (n : ℕ) → key_at key old n ≡ key_at key new n
  key_same [] new alike n =
      ap (key_or key) (sym (slice_get_past new n (omega (arith, alike.long))))
  key_same (x ∷ xs) new alike n =
      elim (cases_lt n (length (x ∷ xs))) [
        | inl lt ↦
            ap (key_or key) (slice_get-get_or (x ∷ xs) n x lt)
            ∙ by_key (get_or (x ∷ xs) n x) (get_or new n x) (alike.same n x lt)
            ∙ ap (key_or key) (sym (slice_get-get_or new n x (omega (arith, alike.long))))
        | inr ge ↦ ap (key_or key) (slice_get_past (x ∷ xs) n ge ∙ sym (slice_get_past new n (omega (arith, alike.long))))
      ]

  index_kept : (old new : List FamilyRow) (numbers : List ℕ) → AreAlike old new → IsIndex key old numbers → IsIndex key new numbers
  index_kept old new numbers alike is = record {
    sorted = subst (λ (lt : ℕ → ℕ → Bool). IsSortedBy lt numbers) (λ t a b. is_lt (key_cmp (key_same old new alike a t) (key_same old new alike b t))) is.sorted;
    within = λ k d lt. let below = is.within k d lt in omega (arith, below, alike.long);
    all = λ n lt. is.all n (omega (arith, alike.long));
  }

pub views_kept : (old new : List FamilyRow) (numbers : List ℕ) → AreAlike old new → IsIndex view_key old numbers → IsIndex view_key new numbers
views_kept = index_kept view_key (λ a b h t. (0, h.view t))

pub indexes_kept : (old new : List FamilyRow) (numbers : List ℕ) → AreAlike old new → IsIndex index_key old numbers → IsIndex index_key new numbers
indexes_kept = index_kept index_key (λ a b h t. (0, length (h.view t) ∷ (h.view t ++ length (h.subtree t) ∷ h.subtree t)))

-- ---- another mask

pub mask_set : (rows : List FamilyRow) (n : ℕ) (mask : List ℕ) (row : FamilyRow) → slice_get rows n ≡ Some row → with_mask rows n mask ≡ set rows n (masked mask row)
mask_set rows n mask row here = ap (λ (o : Option FamilyRow). with_row rows n (option_map (masked mask) o)) here

module _ (rows : List FamilyRow) (n : ℕ) (mask : List ℕ) where
  mask_alike_at : (row : FamilyRow) → slice_get rows n ≡ Some row → AreAlike rows (with_mask rows n mask)
  mask_alike_at row here =
      subst (AreAlike rows) (sym (mask_set rows n mask row here))
      (alike_set rows n (masked mask row) (slice_get_within rows n row here) (λ d.
      let is = get_or_from_slice_get rows n row d here in
      record { view = ap (λ (r : FamilyRow). r.view) is; subtree = ap (λ (r : FamilyRow). r.subtree) is }))

  mask_others_at : (row : FamilyRow) → slice_get rows n ≡ Some row → (k : ℕ) (d : FamilyRow) → (k ≡ n → ⊥) → get_or rows k d ≡ get_or (with_mask rows n mask) k d
  mask_others_at row here k d ne =
      sym (ap (λ (l : List FamilyRow). get_or l k d) (mask_set rows n mask row here) ∙ get_or-set_other rows n k (masked mask row) d ne)

row_there : (rows : List FamilyRow) (n : ℕ) → n < length rows → (row : FamilyRow) × (slice_get rows n ≡ Some row)
row_there [] n lt = absurd (omega arith)
row_there (x ∷ xs) n lt = (get_or (x ∷ xs) n x, slice_get-get_or (x ∷ xs) n x lt)

pub mask_alike : (rows : List FamilyRow) (n : ℕ) (mask : List ℕ) → n < length rows → AreAlike rows (with_mask rows n mask)
mask_alike rows n mask lt = let row = row_there rows n lt in mask_alike_at rows n mask row.0 row.1

-- the tree leads to all rows but the one, and by its numbers to that
pub mask_tree : (lead : List Step → ℕ → Bool) (rows : List FamilyRow) (n : ℕ) (mask : List ℕ) → n < length rows → IsTreeOf lead rows → IsTreeBut lead (with_mask rows n mask) n
mask_tree lead rows n mask lt is =
    let row = row_there rows n lt in
    let alike = mask_alike rows n mask lt in
    record {
      others = λ k d within ne. subst (λ (r : FamilyRow). IsPlaced lead r k) (mask_others_at rows n mask row.0 row.1 k d ne) (is k d (omega (arith, alike.long)));
      all = λ k d within.
          let inside : k < length rows = omega (arith, alike.long) in
          let same = alike.same k d inside in
          numbered_alike lead (get_or rows k d) (get_or (with_mask rows n mask) k d) k same.view same.subtree (is k d inside);
    }

-- ---- another type

pub type_set : (rows : List FamilyRow) (n : ℕ) (included : Bool) (row : FamilyRow) → slice_get rows n ≡ Some row → with_type rows n included ≡ set rows n (typed included row)
type_set rows n included row here = ap (λ (o : Option FamilyRow). with_row rows n (option_map (typed included) o)) here

pub type_alike : (rows : List FamilyRow) (n : ℕ) (included : Bool) → n < length rows → AreAlike rows (with_type rows n included)
type_alike rows n included lt =
    let row = row_there rows n lt in
    subst (AreAlike rows) (sym (type_set rows n included row.0 row.1))
    (alike_set rows n (typed included row.0) lt (λ d.
    let is = get_or_from_slice_get rows n row.0 d row.1 in
    record { view = ap (λ (r : FamilyRow). r.view) is; subtree = ap (λ (r : FamilyRow). r.subtree) is }))

type_at : (rows : List FamilyRow) (n : ℕ) (included : Bool) (row : FamilyRow) → slice_get rows n ≡ Some row → (k : ℕ) (d : FamilyRow) → way_of (get_or rows k d) ≡ way_of (get_or (with_type rows n included) k d)
type_at rows n included row here k d =
    let whole = ap (λ (l : List FamilyRow). get_or l k d) (type_set rows n included row here) in
    elim (cases_eq k n) [
      | inl e ↦
          let within = slice_get_within rows n row here in
          let old : get_or rows k d ≡ row = ap (λ (i : ℕ). get_or rows i d) e ∙ get_or_from_slice_get rows n row d here in
          let new : get_or (with_type rows n included) k d ≡ typed included row =
          whole ∙ ap (λ (i : ℕ). get_or (set rows n (typed included row)) i d) e ∙ get_or-set_same rows n (typed included row) d within in
          ap way_of old ∙ ap way_of (sym new)
      | inr ne ↦ ap way_of (sym (whole ∙ get_or-set_other rows n k (typed included row) d ne))
    ]

pub type_tree : (lead : List Step → ℕ → Bool) (rows : List FamilyRow) (n : ℕ) (included : Bool) → n < length rows → IsTreeOf lead rows → IsTreeOf lead (with_type rows n included)
type_tree lead rows n included lt is k d within =
    let row = row_there rows n lt in
    let alike = type_alike rows n included lt in
    let inside : k < length rows = omega (arith, alike.long) in
    let h = is k d inside in
    let same = alike.same k d inside in
    record {
      leads = subst (λ (way : List Step). lead way k ≡ true) (type_at rows n included row.0 row.1 k d) h.leads;
      some = subst (λ (l : List ℕ). 1 ≤ length l) same.subtree h.some;
    }

-- ---- marks

pub all_marked : (old new : List Step → ℕ → Bool) (rows : List FamilyRow) (n : ℕ) (row : FamilyRow) → n < length rows → row ≡ get_or rows n row → IsTreeBut old rows n
    → ((way : List Step) (m : ℕ) → old way m ≡ true → new way m ≡ true) → ((m : ℕ) → IsNumbered old row m → IsPlaced new row m) → IsTreeOf new rows
all_marked old new rows n row within is but kept marked k d inside =
    elim (cases_eq k n) [
      | inl e ↦
          let at : row ≡ get_or rows n d = is ∙ get_or_default rows n row d within in
          subst (λ (i : ℕ). IsPlaced new (get_or rows i d) i) (sym e)
          (subst (λ (r : FamilyRow). IsPlaced new r n) at (marked n (subst (λ (r : FamilyRow). IsNumbered old r n) (sym at) (but.all n d within))))
      | inr ne ↦ let h = but.others k d inside ne in record { leads = kept (way_of (get_or rows k d)) k h.leads; some = h.some }
    ]

-- ---- kept rows stay well formed

still_formed : (mask : List ℕ) (row : FamilyRow) → length mask ≤ MAX_MASK → is_well_formed family_rules (written_family row) ≡ true → is_well_formed family_rules (written_family (masked mask row)) ≡ true
still_formed mask row short h =
    let parts = and_true (family_lengths (written_family row)) (family_fields (written_family row)) h in
    let long = and_true (has_length 1 MAX_NAME row.view && nat_le (length row.mask) MAX_MASK) (nat_le (length row.view + length row.subtree) MAX_FAMILY) parts.0 in
    let view = and_true (has_length 1 MAX_NAME row.view) (nat_le (length row.mask) MAX_MASK) long.0 in
    and_from _ _ (and_from _ _ (and_from _ _ view.0 (le-leb (length mask) MAX_MASK short)) long.1) parts.1

pub mask_formed : (rows : List FamilyRow) (n : ℕ) (mask : List ℕ) → n < length rows → length mask ≤ MAX_MASK → AreWellFormed family_rules written_family rows → AreWellFormed family_rules written_family (with_mask rows n mask)
mask_formed rows n mask lt short formed k d within =
    let row = row_there rows n lt in
    let alike = mask_alike rows n mask lt in
    let inside : k < length rows = omega (arith, alike.long) in
    let P : FamilyRow → Type 0 = λ r. is_well_formed family_rules (written_family r) ≡ true in
    elim (cases_eq k n) [
      | inl e ↦
          let is = get_or_from_slice_get rows n row.0 d row.1 in
          let old : P row.0 = subst P (ap (λ (i : ℕ). get_or rows i d) e ∙ is) (formed k d inside) in
          let new : get_or (with_mask rows n mask) k d ≡ masked mask row.0 =
          ap (λ (l : List FamilyRow). get_or l k d) (mask_set rows n mask row.0 row.1) ∙ ap (λ (i : ℕ). get_or (set rows n (masked mask row.0)) i d) e ∙ get_or-set_same rows n (masked mask row.0) d lt in
          subst P (sym new) (still_formed mask row.0 short old)
      | inr ne ↦ subst P (mask_others_at rows n mask row.0 row.1 k d ne) (formed k d inside)
    ]

pub type_formed : (rows : List FamilyRow) (n : ℕ) (included : Bool) → n < length rows → AreWellFormed family_rules written_family rows → AreWellFormed family_rules written_family (with_type rows n included)
type_formed rows n included lt formed k d within =
    let row = row_there rows n lt in
    let alike = type_alike rows n included lt in
    let inside : k < length rows = omega (arith, alike.long) in
    let P : FamilyRow → Type 0 = λ r. is_well_formed family_rules (written_family r) ≡ true in
    elim (cases_eq k n) [
      | inl e ↦
          let is = get_or_from_slice_get rows n row.0 d row.1 in
          let old : P row.0 = subst P (ap (λ (i : ℕ). get_or rows i d) e ∙ is) (formed k d inside) in
          let new : get_or (with_type rows n included) k d ≡ typed included row.0 =
          ap (λ (l : List FamilyRow). get_or l k d) (type_set rows n included row.0 row.1) ∙ ap (λ (i : ℕ). get_or (set rows n (typed included row.0)) i d) e ∙ get_or-set_same rows n (typed included row.0) d lt in
          subst P (sym new) old
      | inr ne ↦ subst P (sym (ap (λ (l : List FamilyRow). get_or l k d) (type_set rows n included row.0 row.1) ∙ get_or-set_other rows n k (typed included row.0) d ne)) (formed k d inside)
    ]

-- the tables with other families
pub sound_with : (t : Tables) (rows : List FamilyRow) → IsSound t → KeysDiffer same_family rows → AreWellFormed family_rules written_family rows → IsSound (record t { families = rows })
sound_with t rows sound differ formed = record {
  groups = sound.groups;
  access = sound.access;
  families = differ;
  group_rows = sound.group_rows;
  access_rows = sound.access_rows;
  family_rows = formed;
  context_rows = sound.context_rows;
}

-- ---- blocks of bitmaps

-- a changed mask leaves each other row's bits as they are right
pub mask_blocks : (rows : List FamilyRow) (n : ℕ) (mask index : List ℕ) (blocks : List Block) → n < length rows → AreIn rows index blocks → AreInBut (with_mask rows n mask) index n blocks
mask_blocks rows n mask index blocks lt are rank m row ne at here =
    let there = row_there rows n lt in
    let long = (mask_alike rows n mask lt).long in
    let within : m < length rows = let new = slice_get_within (with_mask rows n mask) m row here in omega (arith, new, long) in
    let same = mask_others_at rows n mask there.0 there.1 m row ne ∙ get_or_from_slice_get (with_mask rows n mask) m row row here in
    are rank m row at (slice_get-get_or rows m row within ∙ ap Some same)

-- a type is not in the bits
pub type_blocks : (rows : List FamilyRow) (n : ℕ) (included : Bool) (index : List ℕ) (blocks : List Block) → n < length rows → AreIn rows index blocks → AreIn (with_type rows n included) index blocks
type_blocks rows n included index blocks lt are rank m row at here =
    let old = row_there rows n lt in
    let long = (type_alike rows n included lt).long in
    let within : m < length rows = let new = slice_get_within (with_type rows n included) m row here in omega (arith, new, long) in
    let whole = ap (λ (l : List FamilyRow). get_or l m row) (type_set rows n included old.0 old.1) in
    let found = get_or_from_slice_get (with_type rows n included) m row row here in
    elim (cases_eq m n) [
      | inl e ↦
          let new : row ≡ typed included old.0 = sym found ∙ whole ∙ ap (λ (i : ℕ). get_or (set rows n (typed included old.0)) i row) e ∙ get_or-set_same rows n (typed included old.0) row lt in
          let before : IsIn blocks rank old.0 = are rank n old.0 (subst (λ (k : ℕ). slice_get index rank ≡ Some k) e at) old.1 in
          subst (IsIn blocks rank) (sym new) before
      | inr ne ↦ are rank m row at (slice_get-get_or rows m row within ∙ ap Some (sym (whole ∙ get_or-set_other rows n m (typed included old.0) row ne) ∙ found))
    ]
