-- The decision on a request up to its names (RFC 3415, section 3.2, steps 1 to 4, and 5 a: a view
-- that is not configured).
use Rattle.std.specs.Prelude.{ℕ, ◌<◌, ◌==◌, Bool, not, ◌&&◌, ◌||◌, if◌then◌else◌, List, [], length, slice_get, nat_le, nat_eq, bytes_eq, find, Option, Some, None}
use Rattle.std.specs.List.{list_any, starts_with}
use Rattle.std.specs.Ordering.{nat_cmp, bool_cmp, ordering_then, is_lt}
use Rattle.std.specs.declared.cmp.Ordering.{Ordering}
use Rattle.vacm_core.specs.declared.tables.GroupRow.{GroupRow}
use Rattle.vacm_core.specs.declared.tables.AccessRow.{AccessRow}
use Rattle.vacm_core.specs.declared.tables.FamilyRow.{FamilyRow}
use Rattle.vacm_core.specs.declared.verdict.Ask.{Ask}
use Rattle.vacm_core.specs.declared.verdict.ViewType.{ViewType}
use Rattle.vacm_core.specs.declared.verdict.ViewType.TheVariants.{Read, Write}
use Rattle.vacm_core.specs.declared.verdict.Verdict.{Verdict}
use Rattle.vacm_core.specs.declared.verdict.Verdict.TheVariants.{Allowed, NoSuchContext, NoGroupName, NoAccessEntry, NoSuchView}
use Rattle.vacm_core.specs.Levels.{level_number}
use Rattle.vacm_core.specs.Tables.{Tables}
use Rattle.vacm_core.specs.Best.{unbeaten}

-- the empty context is always known
abbrev pub is_known : List (List ℕ) → List ℕ → Bool
is_known contexts context =
    (length context == 0) || list_any (λ known. bytes_eq known context) contexts

abbrev pub is_of : ℕ → List ℕ → GroupRow → Bool
is_of model security row = (row.model == model) && bytes_eq row.name security

-- the prefix is the context name, or begins it where the row says so
abbrev pub fits_context : List ℕ → AccessRow → Bool
fits_context context row =
    if row.exact then bytes_eq row.prefix context else starts_with nat_eq context row.prefix

-- a row of the group that fits the context, whose model is the asked one or any (0), and whose
-- level is at most the asked one
abbrev pub candidate : Ask → List ℕ → AccessRow → Bool
candidate ask group row =
    bytes_eq row.group group && fits_context ask.context row && ((row.model == ask.model) || (row.model == 0))
    && nat_le (level_number row.level) (level_number ask.level)

-- in turn: the asked model before any, the whole context name as prefix, the longest prefix, the
-- highest level
abbrev pub access_cmp : Ask → AccessRow → AccessRow → Ordering
access_cmp ask a b =
    let model = bool_cmp (a.model == ask.model) (b.model == ask.model) in
    let whole = bool_cmp (bytes_eq a.prefix ask.context) (bytes_eq b.prefix ask.context) in
    let longest = nat_cmp (length a.prefix) (length b.prefix) in
    let highest = nat_cmp (level_number a.level) (level_number b.level) in
    ordering_then (ordering_then (ordering_then model whole) longest) highest

abbrev pub access_beats : Ask → AccessRow → AccessRow → Bool
access_beats ask a b = is_lt (access_cmp ask b a)

-- the place of the access row that decides
abbrev pub deciding_access : List AccessRow → Ask → List ℕ → Option ℕ
deciding_access rows ask group = unbeaten (candidate ask group) (access_beats ask) rows

abbrev pub view_of : ViewType → AccessRow → List ℕ
view_of Read row = row.read
view_of Write row = row.write

-- the view has a name, and a family
abbrev pub has_view : List FamilyRow → List ℕ → Bool
has_view families view = not (length view == 0) && list_any (λ row. bytes_eq row.view view) families

abbrev pub by_view : Tables → ℕ → List ℕ → Verdict
by_view t n view = if has_view t.families view then Allowed n view else NoSuchView n view

abbrev pub by_row : Tables → Ask → ℕ → Option AccessRow → Verdict
by_row t ask n (Some row) = by_view t n (view_of ask.view row)
by_row t ask n None = NoSuchView n []

abbrev pub by_access : Tables → Ask → List ℕ → Option ℕ → Verdict
by_access t ask group (Some n) = by_row t ask n (slice_get t.access n)
by_access t ask group None = NoAccessEntry group ask.context ask.model ask.level

abbrev pub by_group : Tables → Ask → Option GroupRow → Verdict
by_group t ask (Some row) = by_access t ask row.group (deciding_access t.access ask row.group)
by_group t ask None = NoGroupName ask.model ask.security

-- the context, the group, the access row and its view, in this order
abbrev pub verdict_of : Tables → Ask → Verdict
verdict_of t ask =
    if is_known t.contexts ask.context
    then by_group t ask (find (is_of ask.model ask.security) t.groups)
    else NoSuchContext ask.context

-- the access row that a verdict names is one of these
abbrev pub NamesRowOf : List AccessRow → Verdict → Type 0
NamesRowOf rows (Allowed n view) = n < length rows
NamesRowOf rows (NoSuchView n view) = n < length rows
NamesRowOf rows (NoSuchContext name) = Unit {0}
NamesRowOf rows (NoGroupName model name) = Unit {0}
NamesRowOf rows (NoAccessEntry group context model level) = Unit {0}
