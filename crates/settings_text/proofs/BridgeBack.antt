-- The settings of a bridge that are written are read again.
use Rattle.std.proofs.Common.{◌≡◌, ℕ, ◌≤◌, ◌-◌, ◌^◌, true, List, codes, Option, Some, None, Result, Ok, refl, sym, ap, ◌∙◌}
use Rattle.std.specs.Option.{option_or, ok_or}
use Rattle.audit_core.specs.Text.{bridge_key_text}
use Rattle.frame_core.specs.declared.mac.Mac.{Mac}
use Rattle.rstp_settings.specs.Table.{IsValid}
use Rattle.rstp_settings.specs.Values.{bridge_value, IsBridgeRange}
use Rattle.rstp_settings.specs.declared.key.Key.TheVariants as key
use Rattle.rstp_settings.specs.declared.key.BridgeKey.{BridgeKey}
use Rattle.rstp_settings.specs.declared.key.BridgeKey.TheVariants as bridge
use Rattle.rstp_settings.specs.declared.key.BridgeValues.{BridgeValues}
use Rattle.toml.specs.Data.{Members, no_members, get_member}
use Rattle.policy_text.specs.Reading.{◌>=>◌}
use Rattle.settings_text.specs.Numbers.{number_or, is_bridge_value, if_true}
use Rattle.settings_text.specs.Settings.{Kept, opening_bridge, timers_agree}
use Rattle.settings_text.specs.Writing.{unless, settings_entries, settings_members}
use Rattle.settings_text.specs.Reading.{bridge_setting, bridge_settings}
use Rattle.settings_text.specs.declared.fault.SettingsFault.{SettingsFault}
use Rattle.settings_text.specs.declared.fault.SettingsFault.TheVariants.{BadSetting}
use Rattle.settings_text.proofs.Lookups.{found_entries}
use Rattle.settings_text.proofs.Values.{kept_back, bridge_true, bridge_fits}

-- the table has under its word what differs from the opening
abbrev pub IsWritten : Members → BridgeKey → ℕ → Type 0
IsWritten ms k n = get_member (bridge_key_text k) ms ≡ option_or (unless (bridge_value opening_bridge k) n) None

setting_back : (ms : Members) (k : BridgeKey) (n : ℕ) → IsWritten ms k n → IsBridgeRange k n → bridge_setting ms k ≡ Ok n
setting_back ms k n written range =
    let value : (number_or (bridge_value opening_bridge k) (get_member (bridge_key_text k) ms) >=> if_true (is_bridge_value k)) ≡ Some n =
    ap (λ o. number_or (bridge_value opening_bridge k) o >=> if_true (is_bridge_value k)) written ∙ kept_back (is_bridge_value k) _ n (bridge_fits k n range) (bridge_true k n range) in
    ap (λ o. ok_or o (BadSetting k)) value

written_in : (address : Mac) (k : Kept) (word : BridgeKey) → IsWritten (settings_members address k) word (bridge_value k.bridge word)
written_in address k bridge.Priority = found_entries (bridge_key_text bridge.Priority) (settings_entries address k) no_members
written_in address k bridge.MaxAge = found_entries (bridge_key_text bridge.MaxAge) (settings_entries address k) no_members
written_in address k bridge.Hello = found_entries (bridge_key_text bridge.Hello) (settings_entries address k) no_members
written_in address k bridge.ForwardDelay = found_entries (bridge_key_text bridge.ForwardDelay) (settings_entries address k) no_members
written_in address k bridge.Version = found_entries (bridge_key_text bridge.Version) (settings_entries address k) no_members
written_in address k bridge.HoldCount = found_entries (bridge_key_text bridge.HoldCount) (settings_entries address k) no_members
written_in address k bridge.Aging = found_entries (bridge_key_text bridge.Aging) (settings_entries address k) no_members

pub bridge_back : (address : Mac) (k : Kept) → ((key : BridgeKey) → IsBridgeRange key (bridge_value k.bridge key)) → timers_agree k.bridge ≡ true → bridge_settings (settings_members address k) ≡ Ok k.bridge
bridge_back address k range timers =
    let ms = settings_members address k in
    let back : (key : BridgeKey) → bridge_setting ms key ≡ Ok (bridge_value k.bridge key) = λ key. setting_back ms key _ (written_in address k key) (range key) in
    rw (back bridge.Priority, back bridge.MaxAge, back bridge.Hello, back bridge.ForwardDelay, back bridge.Version, back bridge.HoldCount, back bridge.Aging, timers) refl
