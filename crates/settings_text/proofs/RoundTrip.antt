-- Settings that are written are read as exactly these.
use Rattle.std.proofs.Common.{◌≡◌, subst, cond, ℕ, zero, suc, ◌-◌, ◌≤◌, ◌<◌, true, List, [], ◌∷◌, map, length, codes, Option, Some, None, Ok, refl, sym, ap, ◌∙◌, arith}
use Rattle.std.specs.List.{AllByRecursion, slice_index_or}
use Rattle.std.specs.Option.{option_or, option_map, option_and_then, is_none}
use Rattle.std.proofs.lemmas.List.{length-map}
use Rattle.std.proofs.lemmas.Slice.Eq.{bytes_eq-Decides}
use Rattle.frame_core.specs.declared.mac.Mac.{Mac}
use Rattle.frame_core.specs.Octets.{same_mac}
use Rattle.fdb_core.specs.Rows.{IsAddress}
use Rattle.fdb_core.specs.declared.static_row.StaticRow.{StaticRow}
use Rattle.rstp_settings.specs.Table.{no_values}
use Rattle.rstp_settings.specs.Values.{bridge_value, port_value, IsBridgeRange, IsPortRange}
use Rattle.rstp_settings.specs.declared.key.Key.TheVariants as key
use Rattle.rstp_settings.specs.declared.key.PortKey.{PortKey}
use Rattle.rstp_settings.specs.declared.key.PortValues.{PortValues}
use Rattle.bridge_core.specs.Bridge.{BridgeState, address_of, port_count}
use Rattle.setphase_core.specs.declared.limits.TheConstants.{MAX_STATIC_ROWS}
use Rattle.toml.specs.Data.{Data, Members, no_members, get_member, as_array, as_str}
use Rattle.toml.specs.Parse.{parse_document}
use Rattle.toml.specs.View.{items_of}
use Rattle.policy_text.specs.Keys.{list_of}
use Rattle.policy_text.specs.Reading.{◌>=>◌}
use Rattle.settings_text.specs.Settings.{Kept, CanHave}
use Rattle.settings_text.specs.KnownKeys.{are_keys}
use Rattle.settings_text.specs.Writing.{rows_if_any, port_data, static_data, changed_ports, settings_entries, settings_members}
use Rattle.settings_text.specs.StaticRows.{address_in, address_at}
use Rattle.settings_text.specs.PortRows.{ports_of}
use Rattle.settings_text.specs.Reading.{is_settings_key, own_address, values_at, port_settings_in, are_few, static_values, statics_in, read_settings, read_text}
use Rattle.settings_text.proofs.Lookups.{found_entries, keys_entries}
use Rattle.settings_text.proofs.Values.{le_true}
use Rattle.settings_text.proofs.BridgeBack.{bridge_back}
use Rattle.settings_text.proofs.PortsBack.{IsPort, rows_back, ports_back}
use Rattle.settings_text.proofs.StaticsBack.{address_back, listed, all_statics_back}

address_there : (a : Mac) (k : Kept) → IsAddress a → address_at (settings_members a k) ≡ Some a
address_there a k h = ap (λ o. o >=> as_str >=> address_in) (found_entries (codes "address") (settings_entries a k) no_members) ∙ address_back a h

own_back : (b : BridgeState) (k : Kept) → IsAddress (address_of b) → own_address b (settings_members (address_of b) k) ≡ Ok (address_of b)
own_back b k h =
    let same : same_mac (address_of b) (address_of b) ≡ true = (bytes_eq-Decides (address_of b).0 (address_of b).0).1 refl in
    rw (address_there (address_of b) k h, same) refl

any_rows : (o : Option Data) (ds : List Data) → o ≡ option_or (rows_if_any ds) None → cond (is_none o) (Some []) (option_map list_of (option_and_then as_array o)) ≡ Some ds
any_rows o [] e = rw e refl
any_rows o (d ∷ ds) e = rw e (ap Some (listed (d ∷ ds)))

ports_there : (a : Mac) (k : Kept) → get_member (codes "port") (settings_members a k) ≡ option_or (rows_if_any (map port_data (changed_ports k.ports))) None
ports_there a k = found_entries (codes "port") (settings_entries a k) no_members

statics_there : (a : Mac) (k : Kept) → get_member (codes "static") (settings_members a k) ≡ option_or (rows_if_any (map static_data k.statics)) None
statics_there a k = found_entries (codes "static") (settings_entries a k) no_members

all_ports : (ports : List PortValues) → ((p : ℕ) → p < length ports → (k : PortKey) → IsPortRange k (port_value (slice_index_or ports p no_values) k)) → AllByRecursion IsPort ports
all_ports [] h = tt
all_ports (values ∷ ports) h = (h 0 (omega arith), all_ports ports (λ p below. h (suc p) (omega (arith, below))))

ports_back_in : (b : BridgeState) (k : Kept) → CanHave b k → port_settings_in (port_count b) (settings_members (address_of b) k) ≡ Ok k.ports
ports_back_in b k h =
    let back : (p : ℕ) → suc p - 1 ≡ p = λ p. omega arith in
    let all : AllByRecursion IsPort k.ports = all_ports k.ports (λ p below word. subst (λ n. IsPortRange word (port_value (slice_index_or k.ports n no_values) word)) (back p) (h.values (key.Port (suc p) word) (omega arith, omega (arith, below)))) in
    let there : values_at (codes "port") (settings_members (address_of b) k) ≡ Some (map port_data (changed_ports k.ports)) = any_rows _ _ (ports_there (address_of b) k) in
    let read = rows_back (port_count b) 0 0 1 k.ports (omega arith) (omega (arith, h.ports)) all in
    rw (there, read) (ap Ok (ap (λ n. ports_of n (changed_ports k.ports)) (sym h.ports) ∙ ports_back 0 k.ports))

statics_back_in : (b : BridgeState) (k : Kept) → CanHave b k → statics_in b (settings_members (address_of b) k) ≡ Ok k.statics
statics_back_in b k h =
    let there : values_at (codes "static") (settings_members (address_of b) k) ≡ Some (map static_data k.statics) = any_rows _ _ (statics_there (address_of b) k) in
    let few : are_few (map static_data k.statics) ≡ true = le_true _ MAX_STATIC_ROWS (omega (arith, length-map k.statics static_data, h.few)) in
    rw (there, few) (all_statics_back b k.statics h.rows h.rising)

keys_back : (a : Mac) (k : Kept) → are_keys is_settings_key (settings_members a k) ≡ true
keys_back a k =
    keys_entries is_settings_key (settings_entries a k) no_members (refl, (refl, (refl, (refl, (refl, (refl, (refl, (refl, (refl, (refl, tt)))))))))) refl

pub round_trip : (b : BridgeState) (k : Kept) → IsAddress (address_of b) → CanHave b k → read_settings b (settings_members (address_of b) k) ≡ Ok k
round_trip b k address h =
    rw (own_back b k address, bridge_back (address_of b) k (λ word. h.values (key.Bridge word) tt) h.timers, ports_back_in b k h, statics_back_in b k h, keys_back (address_of b) k) refl

-- the same of a text of the table
pub text_back : (b : BridgeState) (k : Kept) (address : Mac) (text : List ℕ) → parse_document text ≡ Some (settings_members address k) → IsAddress (address_of b) → address_of b ≡ address → CanHave b k
    → read_text b text ≡ Ok k
text_back b k address text parsed is own h = rw (parsed, ← own) (round_trip b k is h)
