-- How deep the tables nest that settings are written as: no deeper than the reader of TOML goes.
use Rattle.std.proofs.Common.{◌≡◌, ℕ, suc, ◌≤◌, Bool, true, false, List, [], ◌∷◌, map, Option, Some, None, Ordering, Less, Equal, Greater, nat_cmp, refl, arith, inl, inr}
use Rattle.std.proofs.lemmas.Bool.{cases_Bool}
use Rattle.std.proofs.lemmas.Bool.Decides.{nat_tests}
use Rattle.std.specs.Cmp.Lexicographic.{slice_cmp}
use Rattle.std.specs.Ordering.{match_ordering}
use Rattle.std.specs.Prelude.{◌==◌}
use Rattle.std.specs.List.{AllByRecursion}
use Rattle.frame_core.specs.declared.mac.Mac.{Mac}
use Rattle.fdb_core.specs.declared.static_row.StaticRow.{StaticRow}
use Rattle.toml.specs.Data.{Data, table, Members, no_members, member, depth, items_depth, members_depth}
use Rattle.toml.specs.View.{items_of}
use Rattle.settings_text.specs.Settings.{Kept}
use Rattle.settings_text.specs.Building.{with_member, with_optional, with_entries}
use Rattle.settings_text.specs.Writing.{number, unless, rows, rows_if_any, port_entries, port_members, port_data, static_entries, static_members, static_data, changed_ports, ports_of_set, settings_entries, settings_members}
use Rattle.settings_text.specs.declared.port_row.PortRow.{PortRow}

chosen : (o : Ordering) (n : ℕ) (a b c : Members) → members_depth a ≤ n → members_depth b ≤ n → members_depth c ≤ n → members_depth (match_ordering o a b c) ≤ n
chosen Less n a b c x y z = x
chosen Equal n a b c x y z = y
chosen Greater n a b c x y z = z

joined : (n : ℕ) (key : List ℕ) (d : Data) (ms : Members) → depth d ≤ n → members_depth ms ≤ n → members_depth (member key d ms) ≤ n
joined n key d ms x y = grind (arith, nat_tests)

head_within : (n : ℕ) (key : List ℕ) (d : Data) (ms : Members) → members_depth (member key d ms) ≤ n → depth d ≤ n
head_within n key d ms h = grind (arith, nat_tests)

rest_within : (n : ℕ) (key : List ℕ) (d : Data) (ms : Members) → members_depth (member key d ms) ≤ n → members_depth ms ≤ n
rest_within n key d ms h = grind (arith, nat_tests)

pub with_within : (n : ℕ) (key : List ℕ) (d : Data) (ms : Members) → depth d ≤ n → members_depth ms ≤ n → members_depth (with_member key d ms) ≤ n
with_within n key d no_members x y = joined n key d no_members x y
with_within n key d (member other e ms) x y =
    let rest = rest_within n other e ms y in
    chosen (slice_cmp nat_cmp key other) n _ _ _
    (joined n key d (member other e ms) x y)
    (joined n other d ms x rest)
    (joined n other e (with_member key d ms) (head_within n other e ms y) (with_within n key d ms x rest))

abbrev IsWithin : ℕ → Option Data → Type 0
IsWithin n None = Unit {0}
IsWithin n (Some d) = depth d ≤ n

optional_within : (n : ℕ) (key : List ℕ) (o : Option Data) (ms : Members) → IsWithin n o → members_depth ms ≤ n → members_depth (with_optional key o ms) ≤ n
optional_within n key None ms x y = y
optional_within n key (Some d) ms x y = with_within n key d ms x y

abbrev AreWithin : ℕ → List (List ℕ × Option Data) → Type 0
AreWithin n [] = Unit {0}
AreWithin n (entry ∷ entries) = IsWithin n entry.1 × AreWithin n entries

entries_within : (n : ℕ) (entries : List (List ℕ × Option Data)) (ms : Members) → AreWithin n entries → members_depth ms ≤ n → members_depth (with_entries entries ms) ≤ n
entries_within n [] ms x y = y
entries_within n (entry ∷ entries) ms x y = optional_within n entry.0 entry.1 _ x.0 (entries_within n entries ms x.1 y)

unless_within : (n opening value : ℕ) → IsWithin n (unless opening value)
unless_within n opening value =
    elim (cases_Bool (value == opening)) [
      | inl same ↦ rw same tt
      | inr other ↦ rw other (omega arith)
    ]

items_within : {A : Type 0} (n : ℕ) (f : A → Data) (xs : List A) → ((x : A) → depth (f x) ≤ n) → items_depth (items_of (map f xs)) ≤ n
items_within n f [] h = omega arith
items_within n f (x ∷ xs) h =
    let here = h x in
    let more = items_within n f xs h in
    grind (arith, nat_tests)

deeper : (n : ℕ) (ms : Members) → members_depth ms ≤ n → depth (table ms) ≤ suc n
deeper n ms h = grind arith

numbers_within : (n : ℕ) (ns : List ℕ) → items_depth (items_of (map number ns)) ≤ n
numbers_within n ns = items_within n number ns (λ x. omega arith)

rows_within : {A : Type 0} (n : ℕ) (f : A → Data) (xs : List A) → ((x : A) → depth (f x) ≤ n) → IsWithin (suc n) (rows_if_any (map f xs))
rows_within n f [] h = tt
rows_within n f (x ∷ xs) h =
    let within : items_depth (items_of (map f (x ∷ xs))) ≤ n = items_within n f (x ∷ xs) h in
    grind (arith, within)

port_within : (row : PortRow) → depth (port_data row) ≤ 1
port_within row =
    let u : (o n : ℕ) → IsWithin 0 (unless o n) = unless_within 0 in
    deeper 0 (port_members row) (entries_within 0 (port_entries row) no_members
    (omega arith, (u _ _, (u _ _, (u _ _, (u _ _, (u _ _, (u _ _, tt)))))))
    (omega arith))

listed_within : (ns : List ℕ) → depth (rows (map number ns)) ≤ 1
listed_within ns =
    let within = numbers_within 0 ns in
    grind (arith, within)

static_within : (row : StaticRow) → depth (static_data row) ≤ 2
static_within row =
    deeper 1 (static_members row) (entries_within 1 (static_entries row) no_members
    (omega arith, (omega arith, (listed_within (ports_of_set row.ports), tt)))
    (omega arith))

port_raised : (row : PortRow) → depth (port_data row) ≤ 79
port_raised row = omega (arith, port_within row)

static_raised : (row : StaticRow) → depth (static_data row) ≤ 79
static_raised row = omega (arith, static_within row)

pub settings_within : (address : Mac) (k : Kept) → members_depth (settings_members address k) ≤ 80
settings_within address k =
    let u : (o n : ℕ) → IsWithin 80 (unless o n) = unless_within 80 in
    entries_within 80 (settings_entries address k) no_members (
      omega arith,
      (
        u _ _,
        (
          u _ _,
          (
            u _ _,
            (
              u _ _,
              (
                u _ _,
                (
                  u _ _,
                  (
                    u _ _,
                    (rows_within 79 port_data (changed_ports k.ports) port_raised, (rows_within 79 static_data k.statics static_raised, tt)),
                  ),
                ),
              ),
            ),
          ),
        ),
      ),
    )
    (omega arith)
