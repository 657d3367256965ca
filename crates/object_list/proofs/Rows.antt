-- The rows of objects, and what they have reserved, while they are made one by one, whatever type
-- the objects have.
use Rattle.std.proofs.Common.{◌≡◌, ℕ, ◌+◌, ◌<◌, List, [], ◌∷◌, ◌++◌, map, take, length, get_or, slice_get, slice_set, Some, zero, suc, refl, sym, ap, ap₂, lit<, ◌∙◌, arith}
use Rattle.std.proofs.lemmas.List.{take_more, map-append, map-set, length-map}
use Rattle.setphase_core.specs.declared.column.Column.{Column}
use Rattle.setphase_core.specs.declared.column.Column.TheVariants as column
use Rattle.setphase_core.specs.declared.column.StpPort.TheVariants as stp_port
use Rattle.setphase_core.specs.Names.{columns, row_of, bridge_rows}
use Rattle.setphase_core.specs.Objects.{ObjectRow, ObjectState}
use Rattle.setphase_core.specs.Registry.{rows_of, held_count}
use Rattle.bridge_mib.specs.Line.{Driven}

-- The row of the object that writes the device of a port.
abbrev pub enable_row : ObjectRow
enable_row = row_of (column.StpPort stp_port.Enable)

pub one_more : {O : Type 0} (state : O → ObjectState) (objects : List O) (o : O) (cs : List Column) (i : ℕ) (d : Column) →
    i < length cs → rows_of (map state objects) ≡ map row_of (take i cs) → (state o).row ≡ row_of (get_or cs i d) →
    rows_of (map state (objects ++ o ∷ [])) ≡ map row_of (take (i + 1) cs)
one_more state objects o cs i d within e f =
    ap rows_of (map-append state objects (o ∷ []))
    ∙ map-append (λ (s : ObjectState). s.row) (map state objects) (state o ∷ [])
    ∙ ap₂ (λ (xs ys : List ObjectRow). xs ++ ys) e (ap (λ (row : ObjectRow). row ∷ []) f)
    ∙ sym (map-append row_of (take i cs) (get_or cs i d ∷ []))
    ∙ ap (map row_of) (sym (take_more cs i d within))

pub one_more_idle : {O : Type 0} (state : O → ObjectState) (objects : List O) (o : O) →
    held_count (map state objects) ≡ 0 → (state o).reserved ≡ [] → held_count (map state (objects ++ o ∷ [])) ≡ 0
one_more_idle state [] o idle e =
    let none : length (state o).reserved ≡ 0 = ap length e in
    omega (arith, none)
one_more_idle state (x ∷ objects) o idle e =
    let others : held_count (map state objects) ≡ 0 = omega (arith, idle) in
    omega (arith, idle, one_more_idle state objects o others e)

-- The object at the place of dot1dStpPortEnable is replaced by one of the same row.
pub rows_with : {O : Type 0} (state : O → ObjectState) (objects : List O) (o : O) (i : ℕ) → i ≡ length columns →
    rows_of (map state objects) ≡ map row_of (take i columns) → (state o).row ≡ enable_row →
    rows_of (map state (slice_set objects 25 o)) ≡ bridge_rows
unfolding bridge_rows
rows_with state objects o i e h enable =
    let all : rows_of (map state objects) ≡ map row_of columns = h ∙ ap (λ (k : ℕ). map row_of (take k columns)) e in
    ap rows_of (map-set state objects 25 o)
    ∙ map-set (λ (s : ObjectState). s.row) (map state objects) 25 (state o)
    ∙ ap₂ (λ (rows : List ObjectRow) (row : ObjectRow). slice_set rows 25 row) all enable

pub idle_with : {O : Type 0} (state : O → ObjectState) (objects : List O) (i : ℕ) (o : O) →
    held_count (map state objects) ≡ 0 → (state o).reserved ≡ [] →
    held_count (map state (slice_set objects i o)) ≡ 0
idle_with state [] i o idle e = idle
idle_with state (x ∷ objects) zero o idle e =
    let none : length (state o).reserved ≡ 0 = ap length e in
    omega (arith, idle, none)
idle_with state (x ∷ objects) (suc i) o idle e =
    let others : held_count (map state objects) ≡ 0 = omega (arith, idle) in
    omega (arith, idle, idle_with state objects i o others e)

pub many : {O : Type 0} (state : O → ObjectState) (objects : List O) (i : ℕ) → i ≡ length columns →
    rows_of (map state objects) ≡ map row_of (take i columns) → 25 < length objects
many state objects i e h =
    let all : length objects ≡ length columns
    = sym (length-map objects state) ∙ sym (length-map (map state objects) (λ (s : ObjectState). s.row))
    ∙ ap length (h ∙ ap (λ (k : ℕ). map row_of (take k columns)) e) in
    let there : 25 < length columns = lit< tt in
    omega (arith, all, there)

pub stands : {X : Type 0} (xs : List X) (i : ℕ) (y : X) → i < length xs → slice_get (slice_set xs i y) i ≡ Some y
stands [] i y h = absurd (omega arith)
stands (x ∷ xs) zero y h = refl
stands (x ∷ xs) (suc i) y h = stands xs i y (omega arith)

pub idle_driven : {L : Type 0} (o : Driven L) (d : L) → o ≡ record { driver = d; reserved = [] } → o.reserved ≡ []
idle_driven {L} o d e = ap (λ (x : Driven L). x.reserved) e
