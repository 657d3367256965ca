-- Where a walk stands at a name, and what it knows of a view there.
use Rattle.std.specs.Prelude.{◌≡◌, ℕ, ◌<◌, ◌≤◌, Bool, true, List, length}
use Rattle.oid_core.specs.Order.{is_prefix}
use Rattle.setphase_core.specs.Searching.{prefix_at, IsPlace}
use Rattle.setphase_core.specs.Walking.{first_place, AreOpen}
use Rattle.agent_core.specs.declared.source.Stand.{Stand}

-- The place is that of the name among the objects; of the objects from there on and in front of a
-- second place each name is shown; and those in front of a third place are not passed over.
pub record IsStand (shows passes : List ℕ → Bool) (prefixes : List (List ℕ)) (stand : Stand)
    (name : List ℕ) : Type 0 where
  pub place : IsPlace prefixes name stand.place
  pub until : (k : ℕ) → first_place stand.place ≤ k → k < stand.until → k < length prefixes →
      (other : List ℕ) → is_prefix (prefix_at prefixes k) other ≡ true → shows other ≡ true
  pub kept : AreOpen passes prefixes (first_place stand.place) stand.open_until
