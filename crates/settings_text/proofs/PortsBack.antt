-- The settings of ports that are written are read again.
use Rattle.std.proofs.Common.{◌≡◌, ◌≢◌, ℕ, zero, suc, ◌+◌, ◌-◌, ◌^◌, ◌≤◌, ◌<◌, Bool, true, false, not, ◌&&◌, cond, nat_lt, List, [], ◌∷◌, map, filter, length, codes, Option, Some, None, Result, Ok, refl, sym, ap, ◌∙◌, arith, inl, inr}
use Rattle.std.specs.Prelude.{◌==◌, find}
use Rattle.std.specs.List.{AllByRecursion, range_with_len}
use Rattle.std.specs.Option.{option_or, ok_or}
use Rattle.std.proofs.lemmas.Bool.{cases_Bool, and_parts}
use Rattle.std.proofs.lemmas.Bool.Decides.{nat_tests}
use Rattle.audit_core.specs.Text.{port_key_text}
use Rattle.rstp_settings.specs.Table.{opening_port}
use Rattle.rstp_settings.specs.Values.{port_value, IsPortRange}
use Rattle.rstp_settings.specs.declared.key.PortKey.{PortKey}
use Rattle.rstp_settings.specs.declared.key.PortKey.TheVariants as port
use Rattle.rstp_settings.specs.declared.key.PortValues.{PortValues}
use Rattle.setphase_core.specs.Settings.{same_port_values}
use Rattle.toml.specs.Data.{Data, Members, no_members, get_member, as_integer}
use Rattle.policy_text.specs.Reading.{◌>=>◌}
use Rattle.settings_text.specs.Results.{◌>!>◌}
use Rattle.settings_text.specs.Numbers.{number_between, number_at, number_or, is_port_value, if_true}
use Rattle.settings_text.specs.KnownKeys.{are_keys}
use Rattle.settings_text.specs.Writing.{unless, number, numbered, is_changed, changed_from, port_entries, port_members, port_data}
use Rattle.settings_text.specs.PortRows.{is_port_row_key, port_setting, port_settings, port_number, port_row, port_rows, values_of, ports_of}
use Rattle.settings_text.specs.declared.fault.PortRowKey.TheVariants.{Setting, Number}
use Rattle.settings_text.specs.declared.fault.PortRowKey.{PortRowKey}
use Rattle.settings_text.specs.declared.fault.SettingsFault.{SettingsFault}
use Rattle.settings_text.specs.declared.port_row.PortRow.{PortRow}
use Rattle.settings_text.proofs.Lookups.{found_entries, keys_entries}
use Rattle.settings_text.proofs.Values.{kept_back, between, port_true, port_fits}

-- each setting has a value that a Set may write
abbrev pub IsPort : PortValues → Type 0
IsPort values = (key : PortKey) → IsPortRange key (port_value values key)

abbrev IsWritten : Members → PortKey → ℕ → Type 0
IsWritten ms k n = get_member (port_key_text k) ms ≡ option_or (unless (port_value opening_port k) n) None

setting_back : (ms : Members) (k : PortKey) (n : ℕ) → IsWritten ms k n → IsPortRange k n → port_setting ms k ≡ Ok n
setting_back ms k n written range =
    let value : (number_or (port_value opening_port k) (get_member (port_key_text k) ms) >=> if_true (is_port_value k)) ≡ Some n =
    ap (λ o. number_or (port_value opening_port k) o >=> if_true (is_port_value k)) written ∙ kept_back (is_port_value k) _ n (port_fits k n range) (port_true k n range) in
    ap (λ o. ok_or o (Setting k)) value

written_in : (row : PortRow) (k : PortKey) → IsWritten (port_members row) k (port_value row.values k)
written_in row port.Priority = found_entries (port_key_text port.Priority) (port_entries row) no_members
written_in row port.Enable = found_entries (port_key_text port.Enable) (port_entries row) no_members
written_in row port.Cost = found_entries (port_key_text port.Cost) (port_entries row) no_members
written_in row port.Migrate = found_entries (port_key_text port.Migrate) (port_entries row) no_members
written_in row port.Edge = found_entries (port_key_text port.Edge) (port_entries row) no_members
written_in row port.PointToPoint = found_entries (port_key_text port.PointToPoint) (port_entries row) no_members

values_back : (row : PortRow) → IsPort row.values → port_settings (port_members row) ≡ Ok row.values
values_back row range =
    let back : (k : PortKey) → port_setting (port_members row) k ≡ Ok (port_value row.values k) = λ k. setting_back _ k _ (written_in row k) (range k) in
    rw (back port.Priority, back port.Enable, back port.Cost, back port.Migrate, back port.Edge, back port.PointToPoint) refl

number_there : (row : PortRow) → get_member (codes "number") (port_members row) ≡ Some (number row.number)
number_there row = found_entries (codes "number") (port_entries row) no_members

number_back : (count before : ℕ) (row : PortRow) → before < row.number → row.number ≤ count → port_number count before (port_members row) ≡ Ok row.number
number_back count before row above most =
    let least : 1 ≤ row.number = omega arith in
    let test : nat_lt before row.number ≡ true = grind (arith, nat_tests, above) in
    let at : number_at (codes "number") 1 count (port_members row) ≡ Some row.number =
    ap (λ o. o >=> as_integer >=> number_between 1 count) (number_there row) ∙ between 1 count row.number least most in
    rw (at, test) refl

keys_back : (row : PortRow) → are_keys is_port_row_key (port_members row) ≡ true
keys_back row = keys_entries is_port_row_key (port_entries row) no_members (refl, (refl, (refl, (refl, (refl, (refl, (refl, tt))))))) refl

row_back : (count before : ℕ) (row : PortRow) → before < row.number → row.number ≤ count → IsPort row.values → port_row count before (port_data row) ≡ Ok row
row_back count before row above most range = rw (number_back count before row above most, values_back row range, keys_back row) refl

pub rows_back : (count place before n : ℕ) (ports : List PortValues) → before < n → n + length ports ≤ count + 1 → AllByRecursion IsPort ports
    → port_rows count place before (map port_data (changed_from n ports)) ≡ Ok (changed_from n ports)
rows_back count place before n [] above most all = refl
rows_back count place before n (values ∷ ports) above most all =
    let row : PortRow = record { number = n; values = values } in
    elim (cases_Bool (is_changed row)) [
      | inl changed ↦
          rw (changed, row_back count before row above (omega (arith, most)) all.0, rows_back count (place + 1) n (n + 1) ports (omega arith) (omega (arith, most)) all.1) refl
      | inr same ↦ rw same (rows_back count place before (n + 1) ports (omega (arith, above)) (omega (arith, most)) all.1)
    ]

-- ---- the ports of the rows

none_below : (p n : ℕ) (ports : List PortValues) → p < n → find (λ row. row.number == p) (changed_from n ports) ≡ None
none_below p n [] below = refl
none_below p n (values ∷ ports) below =
    let row : PortRow = record { number = n; values = values } in
    let other : (n == p) ≡ false = grind (arith, nat_tests, below) in
    elim (cases_Bool (is_changed row)) [
      | inl changed ↦ rw (changed, other) (none_below p (n + 1) ports (omega (arith, below)))
      | inr same ↦ rw same (none_below p (n + 1) ports (omega (arith, below)))
    ]

at_opening : (values : PortValues) → same_port_values values opening_port ≡ true → opening_port ≡ values
at_opening values same = grind (arith, nat_tests, same)

not_false : (b : Bool) → not b ≡ false → b ≡ true
not_false true e = refl
not_false false e = cc

head_back : (n : ℕ) (values : PortValues) (ports : List PortValues) → values_of (changed_from n (values ∷ ports)) n ≡ values
head_back n values ports =
    let row : PortRow = record { number = n; values = values } in
    let own : (n == n) ≡ true = grind (arith, nat_tests) in
    elim (cases_Bool (is_changed row)) [
      | inl changed ↦ rw (changed, own) refl
      | inr same ↦ rw (same, none_below n (n + 1) ports (omega arith)) (at_opening values (not_false _ same))
    ]

tail_back : (n p : ℕ) (values : PortValues) (ports : List PortValues) → n < p → values_of (changed_from n (values ∷ ports)) p ≡ values_of (changed_from (n + 1) ports) p
tail_back n p values ports above =
    let row : PortRow = record { number = n; values = values } in
    let other : (n == p) ≡ false = grind (arith, nat_tests, above) in
    elim (cases_Bool (is_changed row)) [
      | inl changed ↦ rw (changed, other) refl
      | inr same ↦ rw same refl
    ]

alike : {A : Type 0} (f g : ℕ → A) (a count : ℕ) → ((j : ℕ) → a ≤ j → f j ≡ g j) → map f (range_with_len a count) ≡ map g (range_with_len a count)
alike f g a zero h = refl
alike f g a (suc count) h = rw (h a (omega arith), alike f g (a + 1) count (λ j above. h j (omega (arith, above)))) refl

pub ports_back : (a : ℕ) (ports : List PortValues) → map (λ j. values_of (changed_from (a + 1) ports) (j + 1)) (range_with_len a (length ports)) ≡ ports
ports_back a [] = refl
ports_back a (values ∷ ports) =
    rw (
      head_back (a + 1) values ports,
      alike (λ j. values_of (changed_from (a + 1) (values ∷ ports)) (j + 1)) (λ j. values_of (changed_from (a + 1 + 1) ports) (j + 1)) (a + 1) (length ports) (λ j above. tail_back (a + 1) (j + 1) values ports (omega (arith, above))),
      ports_back (a + 1) ports,
    ) refl
