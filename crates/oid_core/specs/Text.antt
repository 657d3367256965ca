-- The dotted text of a name: its sub-identifiers in decimal, joined by dots. As `numericoid` of RFC
-- 4512, 1.4, and wider: one number alone is a text too.
use Rattle.std.specs.Prelude.{◌≡◌, ℕ, ◌≤◌, ◌<◌, ◌^◌, ◌==◌, List, [], length, map, Option, Some, None}
use Rattle.std.specs.Fmt.{decimal}
use Rattle.std.specs.List.{AllByRecursion, join_with_byte, slice_split}
use Rattle.oid_core.specs.declared.fault.OidFault.{OidFault}
use Rattle.oid_core.specs.declared.fault.OidFault.TheVariants.{Memory, BadText, TooLong, BadContent, NoRoom}
use Rattle.oid_core.specs.declared.limits.TheConstants.{INLINE_NUMBERS, MAX_NUMBERS}

-- 46 is the dot
abbrev pub dotted_text : List ℕ → List ℕ
dotted_text name = join_with_byte 46 (map decimal name)

-- A text is the dotted text of one sub-identifier or more, each below 2 ^ 32.
pub record IsDotted (text name : List ℕ) : Type 0 where
  pub some : 1 ≤ length name
  pub each : AllByRecursion (λ n. n < 2 ^ 32) name
  pub parts : text ≡ dotted_text name

-- A text gives no name: it is no dotted text at all, or that of too many sub-identifiers, or there
-- is no memory for so many.
abbrev pub IsTextFault : List ℕ → OidFault → Type 0
IsTextFault text Memory = (name : List ℕ) × IsDotted text name × (INLINE_NUMBERS < length name) × (length name ≤ MAX_NUMBERS)
IsTextFault text BadText = (name : List ℕ) → ¬ IsDotted text name
IsTextFault text TooLong = (name : List ℕ) × IsDotted text name × (MAX_NUMBERS < length name)
IsTextFault text BadContent = ⊥
IsTextFault text NoRoom = ⊥

-- ---- what reading finds

-- the parts between the dots
abbrev pub pieces : List ℕ → List (List ℕ)
pieces text = slice_split (λ b. b == 46) text

-- the same of what is left, if anything is
abbrev pub pieces_left : Option (List ℕ) → List (List ℕ)
pieces_left None = []
pieces_left (Some text) = pieces text
