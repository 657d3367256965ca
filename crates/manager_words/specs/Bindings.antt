-- Which words write which names and values of a request.
use Rattle.std.specs.Prelude.{◌≡◌, ◌≢◌, ℕ, ◌≤◌, ◌==◌, ℤ, FitsSigned, Bool, true, false, codes, List, [], ◌∷◌, ◌++◌, length, decimal, pos, Option, Some, None, Result, Ok, Err, slice_index}
use Rattle.std.specs.Int.{w32}
use Rattle.std.specs.Fmt.{signed_decimal}
use Rattle.std.specs.List.{before_first, after_first}
use Rattle.script_core.specs.Words.{octets_of}
use Rattle.oid_core.specs.Name.{HasRoot}
use Rattle.oid_core.specs.Text.{IsDotted}
use Rattle.oid_core.specs.declared.limits.TheConstants.{MAX_NUMBERS}
use Rattle.message_core.specs.declared.value.Value.{Value}
use Rattle.message_core.specs.declared.value.Value.TheVariants.{Integer, OctetString, Null, ObjectIdentifier, IpAddress, Counter32, Gauge32, TimeTicks, Opaque, Counter64, NoSuchObject, NoSuchInstance, EndOfMibView}
use Rattle.message_core.specs.declared.binding.Binding.{Binding}
use Rattle.manager_words.specs.declared.bindings.TheConstants.{MAX_INTEGER}
use Rattle.manager_words.specs.declared.fault.WordsFault.{WordsFault}
use Rattle.manager_words.specs.declared.fault.WordsFault.TheVariants.{Memory, Missing, Tries, Number, Address, Community, FrontDot, Name, Assignment, Request}

-- A value of a kind was read; or there is none, unless there was no memory for it.
abbrev pub Reads : {X : Type 0} → (X → Type 0) → Result X WordsFault → Type 0
Reads Is (Ok x) = Is x
Reads {X} Is (Err fault) = fault ≢ Memory → (x : X) → ¬ Is x

-- A value of a kind was found, or there is none.
abbrev pub Finds : {X : Type 0} → (X → Type 0) → Option X → Type 0
Finds Is (Some x) = Is x
Finds {X} Is None = (x : X) → ¬ Is x

-- ---- numbers: digits with no leading zero but in 0 itself (RFC 3416, section 3)

-- an INTEGER of digits alone
pub record IsPlainIntegerText (text : List ℕ) (number : ℤ) : Type 0 where
  pub n : ℕ
  pub most : n ≤ MAX_INTEGER
  pub spelled : text ≡ decimal n
  pub value : number ≡ pos n

-- an INTEGER, behind a minus where it is negative
pub record IsIntegerText (text : List ℕ) (number : ℤ) : Type 0 where
  pub fits : FitsSigned w32 number
  pub spelled : text ≡ signed_decimal number

-- ---- names and settings

-- a name with dots, which has an encoding
pub record IsNameText (word name : List ℕ) : Type 0 where
  pub dotted : IsDotted word name
  pub most : length name ≤ MAX_NUMBERS
  pub root : HasRoot name

-- a word begins with a dot, as Net-SNMP's tools print a name; 46 is the dot
abbrev pub begins_with_dot : List ℕ → Bool
begins_with_dot word = slice_index word 0 == 46

-- Why a word gives no name: there is no memory for it; or it is the text of none, and begins with a dot, or
-- does not.
abbrev pub IsNameFault : List ℕ → WordsFault → Type 0
IsNameFault word Memory = Unit {0}
IsNameFault word (FrontDot named) =
    (named.now ≡ word) × (begins_with_dot word ≡ true) × ((name : List ℕ) → ¬ IsNameText word name)
IsNameFault word (Name named) =
    (named.now ≡ word) × (begins_with_dot word ≡ false) × ((name : List ℕ) → ¬ IsNameText word name)
IsNameFault word (Missing id) = ⊥
IsNameFault word Tries = ⊥
IsNameFault word (Number id) = ⊥
IsNameFault word (Address named) = ⊥
IsNameFault word Community = ⊥
IsNameFault word (Assignment named) = ⊥
IsNameFault word Request = ⊥

-- a name that is asked for, which has the value NULL
pub record IsAskedText (word : List ℕ) (b : Binding) : Type 0 where
  pub name : IsNameText word b.name
  pub value : b.value ≡ Null

-- octets in hexadecimal, two digits an octet
pub record IsOctetsText (text : List ℕ) (octets : List ℕ) : Type 0 where
  pub spelled : octets_of text ≡ Some octets

-- `i:` and an INTEGER, or `x:` and octets in hexadecimal
abbrev pub IsValueText : List ℕ → Value → Type 0
IsValueText text (Integer number) =
    (rest : List ℕ) × (text ≡ codes "i:" ++ rest) × IsIntegerText rest number
IsValueText text (OctetString octets) =
    (rest : List ℕ) × (text ≡ codes "x:" ++ rest) × IsOctetsText rest octets
IsValueText text Null = ⊥
IsValueText text (ObjectIdentifier name) = ⊥
IsValueText text (IpAddress octets) = ⊥
IsValueText text (Counter32 n) = ⊥
IsValueText text (Gauge32 n) = ⊥
IsValueText text (TimeTicks n) = ⊥
IsValueText text (Opaque octets) = ⊥
IsValueText text (Counter64 n) = ⊥
IsValueText text NoSuchObject = ⊥
IsValueText text NoSuchInstance = ⊥
IsValueText text EndOfMibView = ⊥

-- 61 is `=`
abbrev pub is_equals : ℕ → Bool
is_equals c = c == 61

-- a setting: a name, and its value behind the first `=`
pub record IsSettingText (word : List ℕ) (b : Binding) : Type 0 where
  pub name : IsNameText (before_first is_equals word) b.name
  pub value : IsValueText (after_first is_equals word) b.value

-- each word is the text of its binding
abbrev pub AreTexts : (List ℕ → Binding → Type 0) → List (List ℕ) → List Binding → Type 0
AreTexts IsText [] [] = Unit {0}
AreTexts IsText [] (b ∷ bs) = ⊥
AreTexts IsText (word ∷ words) [] = ⊥
AreTexts IsText (word ∷ words) (b ∷ bs) = IsText word b × AreTexts IsText words bs

-- the same of one word or more
abbrev pub AreSomeTexts : (List ℕ → Binding → Type 0) → List (List ℕ) → List Binding → Type 0
AreSomeTexts IsText words bs = (1 ≤ length words) × AreTexts IsText words bs
