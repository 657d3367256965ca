-- The instance at a spot that a walk found.
use Rattle.std.proofs.Common.{◌≡◌, ℕ, zero, suc, ◌+◌, ◌<◌, Bool, true, false, cond, List, [], ◌∷◌, ◌++◌, length, drop, get_or, slice_get, refl, sym, ap, subst, ◌∙◌, ◌≤◌, arith, length-append, Option, Some, None, IsTrue, Ok}
use Rattle.std.specs.Prelude.{unwrap_or, option_map}
use Rattle.std.specs.Option.{option_and_then}
use Rattle.message_core.specs.declared.value.Value.{Value}
use Rattle.message_core.specs.declared.value.Value.TheVariants.{NoSuchInstance}
use Rattle.message_core.specs.Instances.{next_of}
use Rattle.setphase_core.specs.declared.world.World.{World}
use Rattle.setphase_core.specs.declared.passing.Spot.{Spot}
use Rattle.setphase_core.specs.Objects.{ObjectRow}
use Rattle.setphase_core.specs.Values.{value_at}
use Rattle.setphase_core.specs.Columns.{shown_by, longest_index}
use Rattle.setphase_core.specs.Registry.{prefixes_of, IsNamed, AreNamed, instances_under}
use Rattle.setphase_core.specs.Passing.{open_instances}
use Rattle.setphase_core.specs.Searching.{prefix_at, IsPlace}
use Rattle.setphase_core.specs.Walking.{IsSpot, IsFound, IsPassedOrFound, value_there, IsThere, instance_at}
use Rattle.setphase_core.proofs.Ordered.{AreOrdered}
use Rattle.setphase_core.proofs.Next.{IsBehind, named_some, named_none}
use Rattle.setphase_core.proofs.Passed as passed
use Rattle.setphase_core.proofs.Walks.{made_place}

-- the row at a place, and its name
row_at : (rows : List ObjectRow) (k : ℕ) (row : ObjectRow) → k < length rows → get_or rows k row ≡ row → slice_get rows k ≡ Some row
row_at [] k row h e = absurd (omega (arith, h))
row_at (x ∷ rows) zero row h e = ap Some e
row_at (x ∷ rows) (suc k) row h e = row_at rows k row (omega (arith, h)) e

pub name_there : (rows : List ObjectRow) (k : ℕ) (row : ObjectRow) → k < length rows → get_or rows k row ≡ row → prefix_at (prefixes_of rows) k ≡ row.prefix
name_there [] k row h e = absurd (omega (arith, h))
name_there (x ∷ rows) zero row h e = ap (λ (r : ObjectRow). r.prefix) e
name_there (x ∷ rows) (suc k) row h e = name_there rows k row (omega (arith, h)) e

named_at : (rows : List ObjectRow) (k : ℕ) (row : ObjectRow) → AreNamed rows → k < length rows → get_or rows k row ≡ row → IsNamed row
named_at [] k row named h e = absurd (omega (arith, h))
named_at (x ∷ rows) zero row named h e = subst IsNamed e named.0
named_at (x ∷ rows) (suc k) row named h e = named_at rows k row named.1 (omega (arith, h)) e

names_count : (rows : List ObjectRow) → length (prefixes_of rows) ≡ length rows
names_count [] = refl
names_count (x ∷ rows) = ap (λ (k : ℕ). suc k) (names_count rows)

-- the value there, by the row
pub value_by : (rows : List ObjectRow) (w : World) (spot : Spot) (row : ObjectRow) → spot.place < length rows → get_or rows spot.place row ≡ row → value_there rows w spot ≡ value_at (shown_by row.column w) spot.index.items
value_by rows w spot row h e = ap (option_and_then (λ (r : ObjectRow). value_at (shown_by r.column w) spot.index.items)) (row_at rows spot.place row h e)

module _ (passes : List ℕ → Bool) (rows : List ObjectRow) (w : World) (n : List ℕ) (spot : Spot) (s : IsSpot passes rows w n 0 spot) where
  behind : IsBehind s.row w n spot.index.items
  behind = named_some s.row w n spot.index.items s.index

  shown : value_there rows w spot ≡ Some behind.value
  shown = value_by rows w spot s.row s.within s.at ∙ behind.at

  pub spot_there : AreNamed rows → IsThere rows w spot
  spot_there named = record {
    within = s.within;
    fits = rw (name_there rows spot.place s.row s.within s.at) (omega (arith, (named_at rows spot.place s.row named s.within s.at).most, s.fits, length-append s.row.prefix spot.index.items));
    value = rw shown refl;
  }

  pub spot_found : Some (instance_at rows w spot) ≡ next_of (open_instances passes rows w) n
  spot_found =
      ap (λ (p : List ℕ). Some (record { name = p ++ spot.index.items; value = unwrap_or (value_there rows w spot) NoSuchInstance })) (name_there rows spot.place s.row s.within s.at)
      ∙ (ap (λ (o : Option Value). Some (record { name = s.row.prefix ++ spot.index.items; value = unwrap_or o NoSuchInstance })) shown
      ∙ sym (s.first ∙ behind.next))

-- what a walk found
module _ (passes : List ℕ → Bool) (rows : List ObjectRow) (w : World) (n : List ℕ) where
  pub found_instance : (found : Bool) (spot : Spot) → IsFound passes rows w n 0 (cond found (Some spot) None) → cond found (Some (instance_at rows w spot)) None ≡ next_of (open_instances passes rows w) n
  found_instance false spot e = sym e
  found_instance true spot s = spot_found passes rows w n spot s

  pub found_there : (found : Bool) (spot : Spot) → AreNamed rows → IsFound passes rows w n 0 (cond found (Some spot) None) → IsTrue found → IsThere rows w spot
  found_there false spot named e t = absurd (cc)
  found_there true spot named s t = spot_there passes rows w n spot s named

  pub found_place : (found : Bool) (spot : Spot) → AreOrdered (prefixes_of rows) → IsFound passes rows w n 0 (cond found (Some spot) None) → IsTrue found → IsPlace (prefixes_of rows) (instance_at rows w spot).name (Ok spot.place)
  found_place false spot ordered e t = absurd (cc)
  found_place true spot ordered s t =
      let name = name_there rows spot.place s.row s.within s.at in
      made_place (prefixes_of rows) s.row spot.place (instance_at rows w spot).name spot.index.items ordered (omega (arith, s.within, names_count rows)) name
      (ap (λ (p : List ℕ). p ++ spot.index.items) name)

  pub found_kept : (found : Bool) (spot : Spot) → IsFound passes rows w n 0 (cond found (Some spot) None) → IsTrue found → passes (prefix_at (prefixes_of rows) spot.place) ≡ false
  found_kept false spot e t = absurd (cc)
  found_kept true spot s t = ap passes (name_there rows spot.place s.row s.within s.at) ∙ s.kept

-- the object at a place has the first instance, or the walk goes on behind it
module _ (passes : List ℕ → Bool) (rows : List ObjectRow) (row : ObjectRow) (w : World) (n : List ℕ) (place old : ℕ) (spot : Spot) where
  pub own_answer : (found : Bool) → drop place rows ≡ row ∷ drop (place + 1) rows → passes row.prefix ≡ false → place < length rows → get_or rows place row ≡ row → spot.place ≡ place →
      (found ≡ true → length spot.index.items ≤ longest_index row.column) →
      cond found (Some (row.prefix ++ spot.index.items)) None ≡ option_map (λ b. b.name) (next_of (instances_under row w) n) →
      IsPassedOrFound passes rows w n place old old (cond found (Some spot) None)
  own_answer false split kept within at here fits e =
      passed.walk_later passes (drop place rows) (drop place rows) row (drop (place + 1) rows) w n split old old old (passed.walk_start passes (drop place rows) w n old) kept (named_none row w n e) refl
  own_answer true split kept within at here fits e =
      let start = passed.walk_start passes (drop place rows) w n old in (
        record {
          row = row;
          after = omega (arith, here);
          within = omega (arith, within, here);
          at = ap (λ (k : ℕ). get_or rows k row) here ∙ at;
          kept = kept;
          index = e;
          fits = fits refl;
          first = passed.walk_found passes (drop place rows) (drop place rows) row (drop (place + 1) rows) w n split old old start spot.index.items kept e;
        },
        passed.walk_work passes (drop place rows) (drop place rows) row (drop (place + 1) rows) w n split old old start spot.index.items kept e,
      )
