-- Masks and types of family rows that are put: what each row then has, and which puts may change
-- places.
use Rattle.std.proofs.Common.{◌≡◌, ◌≢◌, ◌∙◌, ℕ, zero, suc, ◌<◌, ◌≤◌, Bool, true, false, List, [], ◌∷◌, length, map, slice_get, Option, Some, None, refl, sym, ap, ap₂, arith}
use Rattle.std.specs.Bool.{Decides}
use Rattle.std.specs.Option.{option_map}
use Rattle.std.proofs.lemmas.Bool.Decides.{Decides-and, Decides-like}
use Rattle.std.proofs.lemmas.Slice.Eq.{bytes_eq-Decides}
use Rattle.vacm_core.specs.Changes.{with_row, masked, typed, with_mask, with_type}
use Rattle.vacm_core.specs.declared.tables.FamilyRow.{FamilyRow}
use Rattle.setphase_core.specs.Settings.{type_number, included_by, mask_at, type_at, same_bool, same_mark, same_marks, with_marks_of}

-- ---- one row is another

-- The rows of which that of this number is what a function makes of it.
abbrev changed : (FamilyRow → FamilyRow) → List FamilyRow → ℕ → List FamilyRow
changed f [] n = []
changed f (r ∷ rows) zero = f r ∷ rows
changed f (r ∷ rows) (suc n) = r ∷ changed f rows n

row-behind : (r : FamilyRow) (rows : List FamilyRow) (n : ℕ) (o : Option FamilyRow) →
    with_row (r ∷ rows) (suc n) o ≡ r ∷ with_row rows n o
row-behind r rows n (Some row) = refl
row-behind r rows n None = refl

is_changed : (f : FamilyRow → FamilyRow) (rows : List FamilyRow) (n : ℕ) →
    with_row rows n (option_map f (slice_get rows n)) ≡ changed f rows n
is_changed f [] n = refl
is_changed f (r ∷ rows) zero = refl
is_changed f (r ∷ rows) (suc n) =
    row-behind r rows n (option_map f (slice_get rows n))
    ∙ ap (λ (xs : List FamilyRow). r ∷ xs) (is_changed f rows n)

changed-length : (f : FamilyRow → FamilyRow) (rows : List FamilyRow) (n : ℕ) →
    length (changed f rows n) ≡ length rows
changed-length f [] n = refl
changed-length f (r ∷ rows) zero = refl
changed-length f (r ∷ rows) (suc n) = ap suc (changed-length f rows n)

-- A change over another one.
changed-twice : (f g : FamilyRow → FamilyRow) → ((r : FamilyRow) → f (g r) ≡ f r) →
    (rows : List FamilyRow) (n : ℕ) → changed f (changed g rows n) n ≡ changed f rows n
changed-twice f g over [] n = refl
changed-twice f g over (r ∷ rows) zero = ap (λ (x : FamilyRow). x ∷ rows) (over r)
changed-twice f g over (r ∷ rows) (suc n) =
    ap (λ (xs : List FamilyRow). r ∷ xs) (changed-twice f g over rows n)

-- Changes of two rows, and changes of one row that may change places.
changed-others : (f g : FamilyRow → FamilyRow) (rows : List FamilyRow) (n k : ℕ) → n ≢ k →
    changed g (changed f rows n) k ≡ changed f (changed g rows k) n
changed-others f g [] n k ne = refl
changed-others f g (r ∷ rows) zero zero ne = absurd (ne refl)
changed-others f g (r ∷ rows) zero (suc k) ne = refl
changed-others f g (r ∷ rows) (suc n) zero ne = refl
changed-others f g (r ∷ rows) (suc n) (suc k) ne =
    ap (λ (xs : List FamilyRow). r ∷ xs) (changed-others f g rows n k (λ e. ne (ap suc e)))

changed-either : (f g : FamilyRow → FamilyRow) → ((r : FamilyRow) → g (f r) ≡ f (g r)) →
    (rows : List FamilyRow) (n k : ℕ) →
    changed g (changed f rows n) k ≡ changed f (changed g rows k) n
changed-either f g either [] n k = refl
changed-either f g either (r ∷ rows) zero zero = ap (λ (x : FamilyRow). x ∷ rows) (either r)
changed-either f g either (r ∷ rows) zero (suc k) = refl
changed-either f g either (r ∷ rows) (suc n) zero = refl
changed-either f g either (r ∷ rows) (suc n) (suc k) =
    ap (λ (xs : List FamilyRow). r ∷ xs) (changed-either f g either rows n k)

-- A change of masks and types alone is none where these are given anew.
changed-marks : (f : FamilyRow → FamilyRow) →
    ((r : FamilyRow) (m : List ℕ) (b : Bool) →
    typed b (masked m (f r)) ≡ typed b (masked m r)) →
    (froms rows : List FamilyRow) (n : ℕ) →
    with_marks_of froms (changed f rows n) ≡ with_marks_of froms rows
changed-marks f given froms [] n = refl
changed-marks f given [] (r ∷ rows) zero =
    ap (λ (x : FamilyRow). x ∷ with_marks_of [] rows) (given r [] true)
changed-marks f given [] (r ∷ rows) (suc n) =
    ap (λ (xs : List FamilyRow). typed true (masked [] r) ∷ xs) (changed-marks f given [] rows n)
changed-marks f given (from ∷ froms) (r ∷ rows) zero =
    ap (λ (x : FamilyRow). x ∷ with_marks_of froms rows) (given r from.mask from.included)
changed-marks f given (from ∷ froms) (r ∷ rows) (suc n) =
    ap (λ (xs : List FamilyRow). typed from.included (masked from.mask r) ∷ xs)
    (changed-marks f given froms rows n)

-- ---- what is seen of a row behind a change

mask-same : (rows : List FamilyRow) (n : ℕ) (m : List ℕ) → n < length rows →
    mask_at (changed (masked m) rows n) n ≡ m
mask-same [] n m h = absurd (omega arith)
mask-same (r ∷ rows) zero m h = refl
mask-same (r ∷ rows) (suc n) m h = mask-same rows n m (omega arith)

mask-other : (rows : List FamilyRow) (n k : ℕ) (m : List ℕ) → n ≢ k →
    mask_at (changed (masked m) rows n) k ≡ mask_at rows k
mask-other [] n k m ne = refl
mask-other (r ∷ rows) zero zero m ne = absurd (ne refl)
mask-other (r ∷ rows) zero (suc k) m ne = refl
mask-other (r ∷ rows) (suc n) zero m ne = refl
mask-other (r ∷ rows) (suc n) (suc k) m ne = mask-other rows n k m (λ e. ne (ap suc e))

mask-typed : (rows : List FamilyRow) (n k : ℕ) (b : Bool) →
    mask_at (changed (typed b) rows n) k ≡ mask_at rows k
mask-typed [] n k b = refl
mask-typed (r ∷ rows) zero zero b = refl
mask-typed (r ∷ rows) zero (suc k) b = refl
mask-typed (r ∷ rows) (suc n) zero b = refl
mask-typed (r ∷ rows) (suc n) (suc k) b = mask-typed rows n k b

type-same : (rows : List FamilyRow) (n : ℕ) (b : Bool) → n < length rows →
    type_at (changed (typed b) rows n) n ≡ type_number b
type-same [] n b h = absurd (omega arith)
type-same (r ∷ rows) zero b h = refl
type-same (r ∷ rows) (suc n) b h = type-same rows n b (omega arith)

type-other : (rows : List FamilyRow) (n k : ℕ) (b : Bool) → n ≢ k →
    type_at (changed (typed b) rows n) k ≡ type_at rows k
type-other [] n k b ne = refl
type-other (r ∷ rows) zero zero b ne = absurd (ne refl)
type-other (r ∷ rows) zero (suc k) b ne = refl
type-other (r ∷ rows) (suc n) zero b ne = refl
type-other (r ∷ rows) (suc n) (suc k) b ne = type-other rows n k b (λ e. ne (ap suc e))

type-masked : (rows : List FamilyRow) (n k : ℕ) (m : List ℕ) →
    type_at (changed (masked m) rows n) k ≡ type_at rows k
type-masked [] n k m = refl
type-masked (r ∷ rows) zero zero m = refl
type-masked (r ∷ rows) zero (suc k) m = refl
type-masked (r ∷ rows) (suc n) zero m = refl
type-masked (r ∷ rows) (suc n) (suc k) m = type-masked rows n k m

-- The number of a type, and the type of a number.
pub type_back : (n : ℕ) → 1 ≤ n → n ≤ 2 → type_number (included_by n) ≡ n
type_back zero least most = absurd (omega (arith, least))
type_back (suc zero) least most = refl
type_back (suc (suc zero)) least most = refl
type_back (suc (suc (suc n))) least most = absurd (omega (arith, most))

pub type_known : (b : Bool) → included_by (type_number b) ≡ b
type_known true = refl
type_known false = refl

mask-itself : (rows : List FamilyRow) (n : ℕ) → changed (masked (mask_at rows n)) rows n ≡ rows
mask-itself [] n = refl
mask-itself (r ∷ rows) zero = refl
mask-itself (r ∷ rows) (suc n) = ap (λ (xs : List FamilyRow). r ∷ xs) (mask-itself rows n)

type-itself : (rows : List FamilyRow) (n : ℕ) →
    changed (typed (included_by (type_at rows n))) rows n ≡ rows
type-itself [] n = refl
type-itself (r ∷ rows) zero =
    ap (λ (b : Bool). typed b r ∷ rows) (type_known r.included)
type-itself (r ∷ rows) (suc n) = ap (λ (xs : List FamilyRow). r ∷ xs) (type-itself rows n)

-- ---- the same of rows with another mask, and with another type

pub masks_long : (rows : List FamilyRow) (n : ℕ) (m : List ℕ) →
    length (with_mask rows n m) ≡ length rows
masks_long rows n m = ap length (is_changed (masked m) rows n) ∙ changed-length (masked m) rows n

pub types_long : (rows : List FamilyRow) (n : ℕ) (b : Bool) →
    length (with_type rows n b) ≡ length rows
types_long rows n b = ap length (is_changed (typed b) rows n) ∙ changed-length (typed b) rows n

pub mask_put : (rows : List FamilyRow) (n : ℕ) (m : List ℕ) → n < length rows →
    mask_at (with_mask rows n m) n ≡ m
mask_put rows n m h =
    ap (λ (xs : List FamilyRow). mask_at xs n) (is_changed (masked m) rows n) ∙ mask-same rows n m h

pub mask_elsewhere : (rows : List FamilyRow) (n k : ℕ) (m : List ℕ) → n ≢ k →
    mask_at (with_mask rows n m) k ≡ mask_at rows k
mask_elsewhere rows n k m ne =
    ap (λ (xs : List FamilyRow). mask_at xs k) (is_changed (masked m) rows n)
    ∙ mask-other rows n k m ne

pub mask_kept : (rows : List FamilyRow) (n k : ℕ) (b : Bool) →
    mask_at (with_type rows n b) k ≡ mask_at rows k
mask_kept rows n k b =
    ap (λ (xs : List FamilyRow). mask_at xs k) (is_changed (typed b) rows n)
    ∙ mask-typed rows n k b

pub type_put : (rows : List FamilyRow) (n t : ℕ) → n < length rows → (1 ≤ t) × (t ≤ 2) →
    type_at (with_type rows n (included_by t)) n ≡ t
type_put rows n t h range =
    ap (λ (xs : List FamilyRow). type_at xs n) (is_changed (typed (included_by t)) rows n)
    ∙ type-same rows n (included_by t) h
    ∙ type_back t range.0 range.1

pub type_elsewhere : (rows : List FamilyRow) (n k : ℕ) (b : Bool) → n ≢ k →
    type_at (with_type rows n b) k ≡ type_at rows k
type_elsewhere rows n k b ne =
    ap (λ (xs : List FamilyRow). type_at xs k) (is_changed (typed b) rows n)
    ∙ type-other rows n k b ne

pub type_kept : (rows : List FamilyRow) (n k : ℕ) (m : List ℕ) →
    type_at (with_mask rows n m) k ≡ type_at rows k
type_kept rows n k m =
    ap (λ (xs : List FamilyRow). type_at xs k) (is_changed (masked m) rows n)
    ∙ type-masked rows n k m

pub mask_twice : (rows : List FamilyRow) (n : ℕ) (a b : List ℕ) →
    with_mask (with_mask rows n a) n b ≡ with_mask rows n b
mask_twice rows n a b =
    ap (λ (xs : List FamilyRow). with_mask xs n b) (is_changed (masked a) rows n)
    ∙ is_changed (masked b) (changed (masked a) rows n) n
    ∙ changed-twice (masked b) (masked a) (λ r. refl) rows n
    ∙ sym (is_changed (masked b) rows n)

pub type_twice : (rows : List FamilyRow) (n : ℕ) (a b : Bool) →
    with_type (with_type rows n a) n b ≡ with_type rows n b
type_twice rows n a b =
    ap (λ (xs : List FamilyRow). with_type xs n b) (is_changed (typed a) rows n)
    ∙ is_changed (typed b) (changed (typed a) rows n) n
    ∙ changed-twice (typed b) (typed a) (λ r. refl) rows n
    ∙ sym (is_changed (typed b) rows n)

pub mask_again : (rows : List FamilyRow) (n : ℕ) → with_mask rows n (mask_at rows n) ≡ rows
mask_again rows n = is_changed (masked (mask_at rows n)) rows n ∙ mask-itself rows n

pub type_again : (rows : List FamilyRow) (n : ℕ) →
    with_type rows n (included_by (type_at rows n)) ≡ rows
type_again rows n = is_changed (typed (included_by (type_at rows n))) rows n ∙ type-itself rows n

pub masks_either : (rows : List FamilyRow) (n k : ℕ) (a b : List ℕ) → n ≢ k →
    with_mask (with_mask rows n a) k b ≡ with_mask (with_mask rows k b) n a
masks_either rows n k a b ne =
    ap (λ (xs : List FamilyRow). with_mask xs k b) (is_changed (masked a) rows n)
    ∙ is_changed (masked b) (changed (masked a) rows n) k
    ∙ changed-others (masked a) (masked b) rows n k ne
    ∙ sym (is_changed (masked a) (changed (masked b) rows k) n)
    ∙ ap (λ (xs : List FamilyRow). with_mask xs n a) (sym (is_changed (masked b) rows k))

pub types_either : (rows : List FamilyRow) (n k : ℕ) (a b : Bool) → n ≢ k →
    with_type (with_type rows n a) k b ≡ with_type (with_type rows k b) n a
types_either rows n k a b ne =
    ap (λ (xs : List FamilyRow). with_type xs k b) (is_changed (typed a) rows n)
    ∙ is_changed (typed b) (changed (typed a) rows n) k
    ∙ changed-others (typed a) (typed b) rows n k ne
    ∙ sym (is_changed (typed a) (changed (typed b) rows k) n)
    ∙ ap (λ (xs : List FamilyRow). with_type xs n a) (sym (is_changed (typed b) rows k))

pub marks_either : (rows : List FamilyRow) (n k : ℕ) (m : List ℕ) (b : Bool) →
    with_type (with_mask rows n m) k b ≡ with_mask (with_type rows k b) n m
marks_either rows n k m b =
    ap (λ (xs : List FamilyRow). with_type xs k b) (is_changed (masked m) rows n)
    ∙ is_changed (typed b) (changed (masked m) rows n) k
    ∙ changed-either (masked m) (typed b) (λ r. refl) rows n k
    ∙ sym (is_changed (masked m) (changed (typed b) rows k) n)
    ∙ ap (λ (xs : List FamilyRow). with_mask xs n m) (sym (is_changed (typed b) rows k))

-- ---- the masks and types of others

pub marks_over_mask : (froms rows : List FamilyRow) (n : ℕ) (m : List ℕ) →
    with_marks_of froms (with_mask rows n m) ≡ with_marks_of froms rows
marks_over_mask froms rows n m =
    ap (with_marks_of froms) (is_changed (masked m) rows n)
    ∙ changed-marks (masked m) (λ r a b. refl) froms rows n

pub marks_over_type : (froms rows : List FamilyRow) (n : ℕ) (b : Bool) →
    with_marks_of froms (with_type rows n b) ≡ with_marks_of froms rows
marks_over_type froms rows n b =
    ap (with_marks_of froms) (is_changed (typed b) rows n)
    ∙ changed-marks (typed b) (λ r a c. refl) froms rows n

pub marks_itself : (rows : List FamilyRow) → with_marks_of rows rows ≡ rows
marks_itself [] = refl
marks_itself (r ∷ rows) = ap (λ (xs : List FamilyRow). r ∷ xs) (marks_itself rows)

type_one : (a b : Bool) → type_number a ≡ type_number b → a ≡ b
type_one a b e = sym (type_known a) ∙ ap included_by e ∙ type_known b

row_agrees : (r : FamilyRow) (m : List ℕ) (b : Bool) → m ≡ r.mask →
    type_number b ≡ type_number r.included → typed b (masked m r) ≡ r
row_agrees r m b mask type =
    ap₂ (λ (x : List ℕ) (y : Bool). typed y (masked x r)) mask (type_one b r.included type)

-- Those of rows that agree with these in each mask and each type are none but these.
pub marks_agree : (froms rows : List FamilyRow) →
    ((n : ℕ) → n < length rows → mask_at froms n ≡ mask_at rows n) →
    ((n : ℕ) → n < length rows → type_at froms n ≡ type_at rows n) →
    with_marks_of froms rows ≡ rows
marks_agree froms [] mask type = refl
marks_agree [] (r ∷ rows) mask type =
    ap₂ (λ (x : FamilyRow) (xs : List FamilyRow). x ∷ xs)
    (row_agrees r [] true (mask 0 (omega arith)) (type 0 (omega arith)))
    (marks_agree [] rows (λ n h. mask (suc n) (omega arith)) (λ n h. type (suc n) (omega arith)))
marks_agree (from ∷ froms) (r ∷ rows) mask type =
    ap₂ (λ (x : FamilyRow) (xs : List FamilyRow). x ∷ xs)
    (row_agrees r from.mask from.included (mask 0 (omega arith)) (type 0 (omega arith)))
    (marks_agree froms rows (λ n h. mask (suc n) (omega arith)) (λ n h. type (suc n) (omega arith)))

-- ---- masks and types that are the same

-- What a Set may change of a row: its mask and its type.
abbrev pub mark : FamilyRow → List ℕ × Bool
mark r = (r.mask, r.included)

abbrev pub marks : List FamilyRow → List (List ℕ × Bool)
marks rows = map mark rows

pub same_bool-Decides : (a b : Bool) → Decides (same_bool a b) (a ≡ b)
same_bool-Decides true true = (λ e. refl, λ e. refl)
same_bool-Decides true false = (λ e. sym e, λ e. sym e)
same_bool-Decides false true = (λ e. e, λ e. e)
same_bool-Decides false false = (λ e. refl, λ e. refl)

mark-Decides : (r s : FamilyRow) → Decides (same_mark r s) (mark r ≡ mark s)
mark-Decides r s =
    Decides-like _
    (λ h. ap₂ (λ (m : List ℕ) (b : Bool). (m, b)) h.0 h.1)
    (λ e. (ap (λ (p : List ℕ × Bool). p.0) e, ap (λ (p : List ℕ × Bool). p.1) e))
    (Decides-and _ _ (bytes_eq-Decides r.mask s.mask) (same_bool-Decides r.included s.included))

pub marks-Decides : (rows others : List FamilyRow) →
    Decides (same_marks rows others) (marks rows ≡ marks others)
marks-Decides [] [] = (λ e. refl, λ e. refl)
marks-Decides [] (s ∷ others) = (λ e. absurd cc, λ e. absurd cc)
marks-Decides (r ∷ rows) [] = (λ e. absurd cc, λ e. absurd cc)
marks-Decides (r ∷ rows) (s ∷ others) =
    Decides-like _
    (λ h. ap₂ (λ (p : List ℕ × Bool) (ps : List (List ℕ × Bool)). p ∷ ps) h.0 h.1)
    (λ e. (cc, cc))
    (Decides-and _ _ (mark-Decides r s) (marks-Decides rows others))

pub mask_alike : (rows others : List FamilyRow) (n : ℕ) → marks rows ≡ marks others →
    mask_at rows n ≡ mask_at others n
mask_alike [] [] n e = refl
mask_alike [] (s ∷ others) n e = absurd cc
mask_alike (r ∷ rows) [] n e = absurd cc
mask_alike (r ∷ rows) (s ∷ others) zero e =
    let here : mark r ≡ mark s = cc in
    ap (λ (p : List ℕ × Bool). p.0) here
mask_alike (r ∷ rows) (s ∷ others) (suc n) e = mask_alike rows others n cc

pub type_alike : (rows others : List FamilyRow) (n : ℕ) → marks rows ≡ marks others →
    type_at rows n ≡ type_at others n
type_alike [] [] n e = refl
type_alike [] (s ∷ others) n e = absurd cc
type_alike (r ∷ rows) [] n e = absurd cc
type_alike (r ∷ rows) (s ∷ others) zero e =
    let here : mark r ≡ mark s = cc in
    ap (λ (p : List ℕ × Bool). type_number p.1) here
type_alike (r ∷ rows) (s ∷ others) (suc n) e = type_alike rows others n cc
