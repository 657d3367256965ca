-- Kept rows, written again: nothing is wrong with them, and they stand for the same rows.
use Rattle.std.proofs.Common.{◌≡◌, ℕ, ◌<◌, ◌≤◌, true, false, List, [], ◌∷◌, length, map, take, get_or, Some, None, refl, ap, ◌∙◌, arith, inl, inr}
use Rattle.std.specs.List.{slice_get}
use Rattle.std.proofs.lemmas.Bool.{cases_lt}
use Rattle.std.proofs.lemmas.List.{get_or-take, get_or-map, length-take-le, length-map}
use Rattle.std.proofs.lemmas.List.Folds.{list_any_none}
use Rattle.std.proofs.lemmas.Option.{slice_get-get_or, slice_get_past}
use Rattle.vacm_core.specs.declared.tables.AccessRow.{AccessRow}
use Rattle.vacm_core.specs.declared.tables.Level.{Level}
use Rattle.vacm_core.specs.declared.tables.Level.TheVariants.{NoAuthNoPriv, AuthNoPriv, AuthPriv}
use Rattle.vacm_core.specs.Levels.{level_number}
use Rattle.vacm_core.specs.Rows.{level_of, access_row}
use Rattle.vacm_core.specs.Rules.{Rules, has_earlier, wrong_of, wrong_at, AreRight}
use Rattle.vacm_core.specs.Tables.{KeysDiffer, AreWellFormed, written_access}
use Rattle.vacm_core.proofs.Sound.{and_true}

module _ {W R : Type 0} (rules : Rules W R) (written : R → W) (back : (r : R) → rules.row_of (written r) ≡ r) where
  pub map_back : (rows : List R) → map rules.row_of (map written rows) ≡ rows
  map_back [] = refl
  map_back (r ∷ rows) = λ j. back r j ∷ map_back rows j

  none_wrong : (earlier : List W) (w : W) → rules.lengths w ≡ true → rules.fields w ≡ true → has_earlier rules earlier w ≡ false → wrong_of rules earlier w ≡ None
  none_wrong earlier w l f e = rw (l, f, e) refl

  none_earlier : (rows : List R) (d : R) (k : ℕ) → KeysDiffer rules.same_key rows → k < length rows → has_earlier rules (take k (map written rows)) (written (get_or rows k d)) ≡ false
  none_earlier rows d k differ within =
      let ws = map written rows in
      let row = get_or rows k d in
      let len = length-map rows written in
      list_any_none (λ e. rules.same_key (rules.row_of e) (rules.row_of (written row))) (take k ws)
      (λ i e lt.
      let before : i < k = omega (arith, length-take-le k ws (omega arith)) in
      let is = get_or-take k ws i e before ∙ get_or-map written rows i d e (omega arith) in
      ap (λ (x : W). rules.same_key (rules.row_of x) (rules.row_of (written row))) is
      ∙ (λ j. rules.same_key (back (get_or rows i d) j) (back row j)) ∙ differ i k d before within)

  right_here : (rows : List R) (d : R) (k : ℕ) → KeysDiffer rules.same_key rows → AreWellFormed rules written rows → k < length rows → wrong_at rules (map written rows) k ≡ None
  right_here rows d k differ well within =
      let ws = map written rows in
      let row = get_or rows k d in
      let parts = and_true (rules.lengths (written row)) (rules.fields (written row)) (well k d within) in
      let here : slice_get ws k ≡ Some (written row) =
      slice_get-get_or ws k (written d) (omega (arith, length-map rows written)) ∙ ap Some (get_or-map written rows k d (written d) within) in
      rw here (none_wrong (take k ws) (written row) parts.0 parts.1 (none_earlier rows d k differ within))

  right_past : (rows : List R) (k : ℕ) → length rows ≤ k → wrong_at rules (map written rows) k ≡ None
  right_past rows k h = rw (slice_get_past (map written rows) k (omega (arith, length-map rows written))) refl

  pub right_again : (rows : List R) → KeysDiffer rules.same_key rows → AreWellFormed rules written rows → AreRight rules (map written rows)
  right_again [] differ well k = right_past [] k (omega arith)
  right_again (r ∷ rows) differ well k =
      elim (cases_lt k (length (r ∷ rows))) [
        | inl lt ↦ right_here (r ∷ rows) r k differ well lt
        | inr ge ↦ right_past (r ∷ rows) k ge
      ]

pub level_back : (l : Level) → level_of (level_number l) ≡ l
level_back NoAuthNoPriv = refl
level_back AuthNoPriv = refl
level_back AuthPriv = refl

pub access_back : (r : AccessRow) → access_row (written_access r) ≡ r
access_back r = λ j. record r { level = level_back r.level j }

pub map_same : {R : Type 0} (rows : List R) → map (λ r. r) rows ≡ rows
map_same [] = refl
map_same (r ∷ rows) = λ j. r ∷ map_same rows j
