-- What is wrong with the rows of a table, and which row is the first at fault.
use Rattle.std.specs.Prelude.{◌≡◌, ℕ, ◌<◌, Bool, if◌then◌else◌, List, [], ◌∷◌, ◌++◌, map, take, All, Option, Some, None, slice_get, option_and_then, Result, Ok, Err}
use Rattle.std.specs.List.{list_any}
use Rattle.vacm_core.specs.declared.fault.TableFault.{TableFault}
use Rattle.vacm_core.specs.declared.fault.TableFault.TheVariants.{Row}
use Rattle.vacm_core.specs.declared.fault.Wrong.{Wrong}
use Rattle.vacm_core.specs.declared.fault.Wrong.TheVariants.{Length, Field, Duplicate}

-- The rules of a table: which lengths and which fields a written row may have, the row that it
-- stands for, and when two rows have one key.
pub record Rules (W R : Type 0) : Type 0 where
  pub lengths : W → Bool
  pub fields : W → Bool
  pub row_of : W → R
  pub same_key : R → R → Bool

abbrev pub rules_of : {W R : Type 0} → (W → Bool) → (W → Bool) → (W → R) → (R → R → Bool) →
    Rules W R
rules_of lengths fields row_of same_key =
    record { lengths = lengths; fields = fields; row_of = row_of; same_key = same_key }

-- an earlier row stands for one of the same key
abbrev pub has_earlier : {W R : Type 0} → Rules W R → List W → W → Bool
has_earlier rules earlier w =
    list_any (λ e. rules.same_key (rules.row_of e) (rules.row_of w)) earlier

-- what is wrong with a row behind these: its lengths, then its fields, then its key
abbrev pub wrong_of : {W R : Type 0} → Rules W R → List W → W → Option Wrong
wrong_of rules earlier w =
    if rules.lengths w
    then (if rules.fields w then (if has_earlier rules earlier w then Some Duplicate else None) else Some Field)
    else Some Length

-- what is wrong with the row at a place, if there is a row and something is
abbrev pub wrong_at : {W R : Type 0} → Rules W R → List W → ℕ → Option Wrong
wrong_at rules rows n = option_and_then (wrong_of rules (take n rows)) (slice_get rows n)

-- this is wrong with the row at this place, and nothing with the rows before it
pub record IsFirstWrong {W R : Type 0} (rules : Rules W R) (rows : List W) (n : ℕ) (wrong : Wrong) : Type 0 where
  pub here : wrong_at rules rows n ≡ Some wrong
  pub before : (k : ℕ) → k < n → wrong_at rules rows k ≡ None

-- nothing is wrong with any row
abbrev pub AreRight : {W R : Type 0} → Rules W R → List W → Type 0
AreRight rules rows = (k : ℕ) → wrong_at rules rows k ≡ None

-- There is a first row, and nothing is wrong with it. Rows are kept up to the first that is wrong by
-- itself, so only then does checking the rows take memory.
abbrev pub BeginsRight : {W R : Type 0} → Rules W R → List W → Type 0
BeginsRight rules [] = ⊥
BeginsRight rules (w ∷ ws) = wrong_of rules [] w ≡ None

-- this fault names the first row at fault
pub record IsFirstFault {W R T : Type 0} (rules : Rules W R) (table : T) (rows : List W) (fault : TableFault T) : Type 0 where
  pub place : ℕ
  pub wrong : Wrong
  pub is : fault ≡ Row table place wrong
  pub first : IsFirstWrong rules rows place wrong

-- the row that a written row stands for, or what is wrong with it by itself
abbrev pub by_itself : {W R : Type 0} → Rules W R → W → Result R Wrong
by_itself rules w = if rules.lengths w then (if rules.fields w then Ok (rules.row_of w) else Err Field) else Err Length

-- where the reading of written rows stops: at their end, or at a row with which this is wrong by
-- itself
abbrev pub StopsAt : {W R : Type 0} → Rules W R → Option Wrong → List W → Type 0
StopsAt rules None rest = rest ≡ []
StopsAt rules (Some wrong) [] = ⊥
StopsAt rules (Some wrong) (w ∷ ws) = by_itself rules w ≡ Err wrong

-- these rows are what written rows stand for up to the first with which something is wrong by
-- itself
pub record AreRead {W R : Type 0} (rules : Rules W R) (written : List W) (rows : List R) (wrong : Option Wrong) : Type 0 where
  pub front : List W
  pub rest : List W
  pub all : written ≡ front ++ rest
  pub rows_are : rows ≡ map rules.row_of front
  pub right : All (λ w. by_itself rules w ≡ Ok (rules.row_of w)) front
  pub stops : StopsAt rules wrong rest
