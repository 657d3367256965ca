-- The settings once all assignments are made.
use Rattle.std.proofs.Common.{◌≡◌, ◌∙◌, sym, ap, refl, Bool, true, false, cond, List, [], ◌∷◌, Some, None, unwrap_or}
use Rattle.setting_keys.specs.declared.SettingKey.{SettingKey}
use Rattle.setting_keys.specs.declared.SettingValue.{SettingValue}
use Rattle.setphase_core.specs.declared.world.World.{World}
use Rattle.setphase_core.specs.declared.object.Assignment.{Assignment}
use Rattle.setphase_core.specs.Settings.{setting, put, HasSetting, same_setting}
use Rattle.setphase_core.specs.Together.{assign}
use Rattle.setphase_core.specs.Staging.{Without, IsDistinct, AreLegal}
use Rattle.setphase_core.specs.Tested.{value_among}
use Rattle.setphase_core.proofs.Assigns.{legal_after}
use Rattle.setphase_core.proofs.Puts.{setting-put, keys-kept, same-exact}

without_none : (k : SettingKey) (ps : List Assignment) → Without k ps → value_among ps k ≡ None
without_none k [] h = refl
without_none k (p ∷ ps) h = by_same (same_setting p.key k) refl (without_none k ps h.1)
  where
    by_same : (b : Bool) → same_setting p.key k ≡ b → value_among ps k ≡ None →
        cond b (Some p.value) (value_among ps k) ≡ None
    by_same true s rest = absurd (h.0 ((same-exact p.key k).0 s))
    by_same false s rest = rest

-- A setting has the value that it was assigned, or the one that it had.
pub setting_assigned : (ps : List Assignment) (w : World) (k : SettingKey) → IsDistinct ps →
    AreLegal w ps → HasSetting w k →
    setting (assign ps w) k ≡ unwrap_or (value_among ps k) (setting w k)
setting_assigned [] w k distinct legal has = refl
setting_assigned (p ∷ ps) w k distinct legal has =
    setting_assigned ps (put w p.key p.value) k distinct.1 (legal_after w ps p.key p.value legal.0.value legal.1) (keys-kept w p.key k p.value legal.0.value has)
    ∙ ap (unwrap_or (value_among ps k)) (setting-put w p.key k p.value legal.0.key has legal.0.value)
    ∙ by_same (same_setting p.key k) refl
  where
    by_same : (b : Bool) → same_setting p.key k ≡ b →
        unwrap_or (value_among ps k) (cond b p.value (setting w k))
        ≡ unwrap_or (cond b (Some p.value) (value_among ps k)) (setting w k)
    by_same true s =
        ap (λ o. unwrap_or o p.value)
        (ap (value_among ps) (sym ((same-exact p.key k).0 s)) ∙ without_none p.key ps distinct.0)
    by_same false s = refl

pub given_value : (ps : List Assignment) (w : World) (k : SettingKey) (v : SettingValue) →
    IsDistinct ps → AreLegal w ps → HasSetting w k → value_among ps k ≡ Some v →
    v ≡ setting (assign ps w) k
given_value ps w k v distinct legal has e =
    sym (setting_assigned ps w k distinct legal has ∙ ap (λ o. unwrap_or o (setting w k)) e)

pub kept_value : (ps : List Assignment) (w : World) (k : SettingKey) → IsDistinct ps →
    AreLegal w ps → HasSetting w k → value_among ps k ≡ None →
    setting w k ≡ setting (assign ps w) k
kept_value ps w k distinct legal has e =
    sym (setting_assigned ps w k distinct legal has ∙ ap (λ o. unwrap_or o (setting w k)) e)
