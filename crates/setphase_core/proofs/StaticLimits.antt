-- How many static rows a Set may make.
use Rattle.std.proofs.Common.{◌≡◌, suc, ◌+◌, ◌<◌, ◌≤◌, Bool, true, false, not, ◌&&◌, cond, List, [], ◌∷◌, ◌++◌, length, map, filter, refl, ap, arith}
use Rattle.std.specs.List.{list_any}
use Rattle.std.proofs.lemmas.Bool.Decides.{nat_tests}
use Rattle.fdb_core.specs.Statics.{made_rows}
use Rattle.setting_keys.specs.declared.SettingKey.{SettingKey}
use Rattle.setphase_core.specs.declared.limits.TheConstants.{MAX_STATIC_ROWS}
use Rattle.setphase_core.specs.declared.object.Assignment.{Assignment}
use Rattle.setphase_core.specs.declared.object.Reservation.{Reservation}
use Rattle.setphase_core.specs.declared.world.World.{World}
use Rattle.setphase_core.specs.Settings.{same_setting}
use Rattle.setphase_core.specs.Writing.{makes_row, each_once, new_rows, has_rows_left, assignments_in}

once_few : (ks : List SettingKey) → length (each_once ks) ≤ length ks
once_few [] = omega arith
once_few (k ∷ ks) = pick (list_any (λ l. same_setting l k) ks) (once_few ks)
  where
    pick : (b : Bool) → length (each_once ks) ≤ length ks →
        length (cond b [] (k ∷ []) ++ each_once ks) ≤ length (k ∷ ks)
    pick true less = omega (arith, less)
    pick false less = omega (arith, less)

new_few : (w : World) (ps : List Assignment) → length (new_rows w ps) ≤ length ps
new_few w [] = omega arith
new_few w (a ∷ ps) = pick (makes_row w a.key a.value) (new_few w ps)
  where
    pick : (b : Bool) → length (new_rows w ps) ≤ length ps →
        length (map (λ (x : Assignment). x.key) (cond b (a ∷ filter (λ x. makes_row w x.key x.value) ps) (filter (λ x. makes_row w x.key x.value) ps))) ≤ length (a ∷ ps)
    pick true less = omega (arith, less)
    pick false less = omega (arith, less)

as_many : (rs : List Reservation) → length (assignments_in rs) ≡ length rs
as_many [] = refl
as_many (r ∷ rs) = ap suc (as_many rs)

-- Where fewer are reserved than there may be more rows, one more row is within the limit.
pub few_fit : (w : World) (a : Assignment) (rs : List Reservation) →
    length (made_rows w.bridge.statics.rows) + length rs < MAX_STATIC_ROWS →
    true ≡ not (makes_row w a.key a.value && not (has_rows_left w (a ∷ assignments_in rs)))
few_fit w a rs few = pick (has_rows_left w (a ∷ assignments_in rs)) left (makes_row w a.key a.value)
  where
    left : has_rows_left w (a ∷ assignments_in rs) ≡ true
    left =
        let most : length (each_once (new_rows w (a ∷ assignments_in rs))) ≤ 1 + length rs =
        omega (arith, once_few (new_rows w (a ∷ assignments_in rs)), new_few w (a ∷ assignments_in rs), as_many rs) in
        let within : length (made_rows w.bridge.statics.rows) + length (each_once (new_rows w (a ∷ assignments_in rs))) ≤ MAX_STATIC_ROWS =
        omega (arith, most, few) in
        grind (arith, nat_tests, within)

    pick : (b : Bool) → b ≡ true → (m : Bool) → true ≡ not (m && not b)
    pick true e true = refl
    pick true e false = refl
    pick false e m = absurd (cc)
