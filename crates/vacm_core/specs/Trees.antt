-- What the trees of the family rows stand for: which ways lead to which rows.
use Rattle.std.specs.Prelude.{◌≡◌, ℕ, ◌<◌, ◌≤◌, ◌+◌, ◌==◌, Bool, true, false, not, ◌&&◌, ◌||◌, if◌then◌else◌, List, [], ◌∷◌, ◌++◌, map, length, nat_lt, Option, Some, None, slice_get, slice_index_or}
use Rattle.vacm_core.specs.declared.tree.Step.{Step}
use Rattle.vacm_core.specs.declared.tree.Tree.{Tree, Empty, Fork'}
use Rattle.vacm_core.specs.declared.tree.Node.{Node}
use Rattle.vacm_core.specs.declared.radix.Radix as Radixes
use Rattle.vacm_core.specs.declared.radix.Radix.{Radix}
use Rattle.vacm_core.specs.declared.radix.Branch.{Branch}
use Rattle.vacm_core.specs.declared.tables.FamilyRow.{FamilyRow}
use Rattle.vacm_core.specs.Rows.{same_family}
use Rattle.vacm_core.specs.Tables.{KeysDiffer}
use Rattle.vacm_core.specs.Families.{mask_bit}

-- the row that ends here is that of this number
abbrev pub is_row : Option ℕ → ℕ → Bool
is_row (Some n) row = n == row
is_row None row = false

-- the way ends here, at this row, or it leads on
abbrev pub ends_or : Option ℕ → Bool → List Step → ℕ → Bool
ends_or here deeper [] row = is_row here row
ends_or here deeper (s ∷ rest) row = deeper

-- the way leads to the row of this number, and where it does not count, each number that it passes
-- is marked loose, and each that it goes by loose there too
abbrev pub leads : Tree → List Step → ℕ → Bool
leads Empty way row = false
leads (Fork' p part here loose loose_equal less equal greater) [] row = false
leads (Fork' p part here loose loose_equal less equal greater) (s ∷ rest) row =
    (loose || s.counts)
    && (if nat_lt s.part part then leads less (s ∷ rest) row
    else (if nat_lt part s.part then leads greater (s ∷ rest) row
    else (loose_equal || s.counts) && ends_or here (leads equal rest row) rest row))

-- all ways go on alike from here, and none ends
pub record IsAlone (node : Node) : Type 0 where
  pub row : node.row ≡ None
  pub tight : node.loose ≡ false
  pub less : node.less ≡ Empty
  pub greater : node.greater ≡ Empty

-- ---- the radix tree

-- the way has these numbers first, in steps that count unless the run is loose, and then goes on
-- deeper
abbrev pub runs : Bool → List ℕ → (List Step → Bool) → List Step → Bool
runs loose [] deeper way = deeper way
runs loose (p ∷ parts) deeper [] = false
runs loose (p ∷ parts) deeper (s ∷ rest) =
    ((loose || s.counts) && s.part == p) && runs loose parts deeper rest

-- the way leads to the row of this number, as in a tree of single steps
abbrev pub reaches : Radix → List Step → ℕ → Bool
reaches Radixes.Empty way row = false
reaches (Radixes.Fork' p part here loose loose_equal less equal greater) [] row = false
reaches (Radixes.Fork' p part here loose loose_equal less equal greater) (s ∷ rest) row =
    (loose || s.counts)
    && (if nat_lt s.part part then reaches less (s ∷ rest) row
    else (if nat_lt part s.part then reaches greater (s ∷ rest) row
    else (loose_equal || s.counts) && ends_or here (reaches equal rest row) rest row))
reaches (Radixes.Segment' p parts loose below) way row =
    runs loose parts.items (λ rest. reaches below rest row) way

-- the way leads from this fork to the row of this number, as `reaches` has it of a tree
abbrev pub reaches_fork : Branch → List Step → ℕ → Bool
reaches_fork node [] row = false
reaches_fork node (s ∷ rest) row =
    (node.loose || s.counts)
    && (if nat_lt s.part node.part then reaches node.less (s ∷ rest) row
    else (if nat_lt node.part s.part then reaches node.greater (s ∷ rest) row
    else (node.loose_equal || s.counts) && ends_or node.row (reaches node.equal rest row) rest row))

-- ---- names

-- a name is at least as long as the way, and has its number wherever the step counts
abbrev pub fits : List Step → List ℕ → Bool
fits [] name = true
fits (s ∷ rest) [] = false
fits (s ∷ rest) (n ∷ name) = (not s.counts || s.part == n) && fits rest name

-- what follows in a name behind a run: the name has its numbers, or as many where it is loose
abbrev pub after_run : Bool → List ℕ → List ℕ → Option (List ℕ)
after_run loose [] name = Some name
after_run loose (p ∷ parts) [] = None
after_run loose (p ∷ parts) (n ∷ name) =
    if loose || p == n then after_run loose parts name else None

-- two ways have the same numbers
abbrev pub same_parts : List Step → List Step → Bool
same_parts [] [] = true
same_parts [] (b ∷ bs) = false
same_parts (a ∷ more) [] = false
same_parts (a ∷ more) (b ∷ bs) = a.part == b.part && same_parts more bs

-- ---- the best row so far

-- no best row, or one of the rows, which passes
abbrev pub IsFit : {R : Type 0} → (R → Bool) → List R → Option ℕ → Type 0
IsFit passes rows None = Unit {0}
IsFit {R} passes rows (Some best) =
    (best < length rows) × ((d : R) → passes (slice_index_or rows best d) ≡ true)

-- a row that does not beat the best one, where there is one
abbrev pub IsNoBetter : {R : Type 0} → (R → R → Bool) → List R → R → Option ℕ → Type 0
IsNoBetter beats rows row None = ⊥
IsNoBetter beats rows row (Some best) = beats row (slice_index_or rows best row) ≡ false

-- the row of this number does not pass, or does not beat the best one
abbrev pub Covers : {R : Type 0} → (R → Bool) → (R → R → Bool) → List R → Option ℕ → ℕ →
    Type 0
Covers {R} passes beats rows best n =
    (row : R) → slice_get rows n ≡ Some row → passes row ≡ true → IsNoBetter beats rows row best

-- the best row after more rows: it is fit, and what was covered still is
pub record IsLater {R : Type 0} (passes : R → Bool) (beats : R → R → Bool) (rows : List R) (best after : Option ℕ) : Type 0 where
  pub fit : IsFit passes rows after
  pub kept : (n : ℕ) → Covers passes beats rows best n → Covers passes beats rows after n

-- ---- the tree of the family rows

-- a step that counts
abbrev pub counting_part : ℕ → Step
counting_part part = record { part = part; counts = true }

-- the same way, in which each step counts
abbrev pub counting : List Step → List Step
counting way = map (λ s. counting_part s.part) way

-- the way to the rows of a view: the length of its name and its octets
abbrev pub view_way : List ℕ → List Step
view_way view = counting_part (length view) ∷ map counting_part view

-- the way of a subtree, from the k-th bit of the mask on
abbrev pub subtree_way : ℕ → List ℕ → List ℕ → List Step
subtree_way k mask [] = []
subtree_way k mask (s ∷ subtree) =
    record { part = s; counts = mask_bit mask k } ∷ subtree_way (k + 1) mask subtree

abbrev pub way_of : FamilyRow → List Step
way_of row = view_way row.view ++ subtree_way 0 row.mask row.subtree

-- the row's way leads to the row of this number
pub record IsPlaced (lead : List Step → ℕ → Bool) (row : FamilyRow) (n : ℕ) : Type 0 where
  pub leads : lead (way_of row) n ≡ true
  pub some : 1 ≤ length row.subtree

-- a way of the same numbers leads to the row of this number
pub record IsNumbered (lead : List Step → ℕ → Bool) (row : FamilyRow) (n : ℕ) : Type 0 where
  pub way : List Step
  pub same : same_parts way (way_of row) ≡ true
  pub leads : lead way n ≡ true
  pub some : 1 ≤ length row.subtree

-- ways lead to each of the rows
abbrev pub IsTreeOf : (List Step → ℕ → Bool) → List FamilyRow → Type 0
IsTreeOf lead rows =
    (n : ℕ) (d : FamilyRow) → n < length rows → IsPlaced lead (slice_index_or rows n d) n

-- ways of their numbers lead to each of the rows
abbrev pub AreNumbered : (List Step → ℕ → Bool) → List FamilyRow → Type 0
AreNumbered lead rows =
    (n : ℕ) (d : FamilyRow) → n < length rows → IsNumbered lead (slice_index_or rows n d) n

-- ways lead to each of the rows but one, and a way of its numbers to that one
pub record IsTreeBut (lead : List Step → ℕ → Bool) (rows : List FamilyRow) (n : ℕ) : Type 0 where
  pub others : (k : ℕ) (d : FamilyRow) → k < length rows → (k ≡ n → ⊥) → IsPlaced lead (slice_index_or rows k d) k
  pub all : AreNumbered lead rows

-- no two rows have one key, and the tree leads to each of them
pub record AreWithTree (rows : List FamilyRow) (tree : Radix) : Type 0 where
  pub differ : KeysDiffer same_family rows
  pub placed : IsTreeOf (reaches tree) rows
