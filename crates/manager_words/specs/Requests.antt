-- What the matches of a command line ask for.
use Rattle.std.specs.Prelude.{◌≡◌, ℕ, ◌<◌, ◌≤◌, ◌^◌, ℤ, FitsSigned, pos, codes, if◌then◌else◌, List, [], length, Option, Some, None}
use Rattle.std.specs.Int.{w32}
use Rattle.std.specs.Str.{bytes_eq}
use Rattle.std.specs.Str.Parse.{IsNumeral, digits_value, signed_digits_value, without_leading_plus, without_leading_sign}
use Rattle.std.specs.Net.Grammar.{IsSocketText}
use Rattle.std.specs.declared.net.socket_addr.SocketAddr.{SocketAddr}
use Rattle.clap.specs.Words.{Row, Text, all_of, first_of, found_of, one_of, rows_of, fault_of, matches_of, subcommand_of}
use Rattle.clap.specs.declared.parser.matches.ArgMatches.{ArgMatches}
use Rattle.message_core.specs.Canon.{canon_request}
use Rattle.message_core.specs.declared.limits.TheConstants.{MAX_COMMUNITY, MAX_REQUEST}
use Rattle.message_core.specs.declared.binding.Binding.{Binding}
use Rattle.message_core.specs.declared.request.Kind.{Kind}
use Rattle.message_core.specs.declared.request.Kind.TheVariants as kind
use Rattle.message_core.specs.declared.request.Request.{Request}
use Rattle.manager_core.specs.declared.run.ManagerOperation.{ManagerOperation}
use Rattle.manager_core.specs.declared.run.ManagerOperation.TheVariants.{Ask, Walk as Walks}
use Rattle.manager_core.specs.declared.command.Command.{Command}
use Rattle.manager_words.specs.Bindings.{IsAskedText, IsNameText, IsSettingText, AreSomeTexts}
use Rattle.manager_words.specs.Options.{manager_app}
use Rattle.manager_words.specs.declared.matches.TheConstants.{DEFAULT_TRIES}
use Rattle.manager_words.specs.declared.matches.Word.{Word}
use Rattle.manager_words.specs.declared.matches.Word.TheVariants.{Get, Next, Bulk, Walk, Set}

-- ---- numbers, of which the command says the bounds

-- a number of tries: digits, and a plus may stand first
pub record IsTriesText (text : Text) (tries : ℕ) : Type 0 where
  pub digits : IsNumeral 10 (without_leading_plus text)
  pub fits : digits_value 10 (without_leading_plus text) < 2 ^ 32
  pub value : tries ≡ digits_value 10 (without_leading_plus text)

-- a number of a GetBulk (RFC 3416, section 3): digits, and a sign may stand first
pub record IsBulkText (text : Text) (number : ℤ) : Type 0 where
  pub digits : IsNumeral 10 (without_leading_sign text)
  pub fits : FitsSigned w32 (signed_digits_value 10 text)
  pub value : number ≡ signed_digits_value 10 text

abbrev pub IsBulkNumber : Option Text → ℤ → Type 0
IsBulkNumber None number = ⊥
IsBulkNumber (Some text) number = IsBulkText text number

-- the tries of one `--tries`, if it is given
abbrev pub IsGivenTries : Option Text → Option ℕ → Type 0
IsGivenTries None tries = tries ≡ None
IsGivenTries (Some text) None = ⊥
IsGivenTries (Some text) (Some tries) = IsTriesText text tries

-- how often a request is sent, by `--tries` in front of a request's name or behind it, but not both
abbrev pub IsTriesBy : Option ℕ → Option ℕ → ℕ → Type 0
IsTriesBy None None tries = tries ≡ DEFAULT_TRIES
IsTriesBy (Some n) None tries = tries ≡ n
IsTriesBy None (Some n) tries = tries ≡ n
IsTriesBy (Some n) (Some m) tries = ⊥

pub record AreTries (front behind : Option Text) (tries : ℕ) : Type 0 where
  pub in_front : Option ℕ
  pub is_in_front : IsGivenTries front in_front
  pub from_behind : Option ℕ
  pub is_behind : IsGivenTries behind from_behind
  pub by : IsTriesBy in_front from_behind tries

-- ---- errands

-- the rows of a level's matches
abbrev pub rows_in : ArgMatches → List Row
rows_in m = rows_of (found_of m)

-- a request of a community, of the request-id 1
abbrev pub first_request : Kind → ℤ → ℤ → List ℕ → List Binding → Request
first_request kind first second community bindings = record {
  kind = kind;
  id = pos 1;
  first = first;
  second = second;
  community = community;
  bindings = bindings;
}

-- an ask by a request that fits into a datagram
abbrev pub AsksBy : Request → ManagerOperation → Type 0
AsksBy r errand = (length (canon_request r) ≤ MAX_REQUEST) × (errand ≡ Ask r)

-- the bindings of the words that are given under an id
pub record AreGiven (IsText : List ℕ → Binding → Type 0) (id : Text) (rows : List Row) (bindings : List Binding) : Type 0 where
  pub words : List Text
  pub given : all_of id rows ≡ Some words
  pub texts : AreSomeTexts IsText words bindings

abbrev pub AreNames : List Row → List Binding → Type 0
AreNames = AreGiven IsAskedText (codes "NAME")

abbrev pub AreSettings : List Row → List Binding → Type 0
AreSettings = AreGiven IsSettingText (codes "SETTING")

-- a request of the bindings that are given
pub record IsAskOf (kind : Kind) (community : List ℕ) (first second : ℤ) (Are : List Binding → Type 0) (errand : ManagerOperation) : Type 0 where
  pub bindings : List Binding
  pub given : Are bindings
  pub asks : AsksBy (first_request kind first second community bindings) errand

-- a GetBulk by two numbers and names
pub record IsBulkOf (community : List ℕ) (rows : List Row) (errand : ManagerOperation) : Type 0 where
  pub first : ℤ
  pub is_first : IsBulkNumber (one_of (codes "N") rows) first
  pub second : ℤ
  pub is_second : IsBulkNumber (one_of (codes "M") rows) second
  pub asks : IsAskOf kind.GetBulk community first second (AreNames rows) errand

-- a walk by its root
pub record IsWalkOf (community : List ℕ) (rows : List Row) (errand : ManagerOperation) : Type 0 where
  pub word : Text
  pub is_word : first_of (codes "NAME") rows ≡ Some word
  pub root : List ℕ
  pub name : IsNameText word root
  pub walks : errand ≡ Walks community root

-- the name of a request
abbrev pub word_of : Text → Option Word
word_of name =
    if bytes_eq name (codes "get") then Some Get
    else if bytes_eq name (codes "next") then Some Next
    else if bytes_eq name (codes "bulk") then Some Bulk
    else if bytes_eq name (codes "walk") then Some Walk
    else if bytes_eq name (codes "set") then Some Set
    else None

-- what it asks for, of a community and with the words behind
abbrev pub IsErrandBy : Option Word → List ℕ → List Row → ManagerOperation → Type 0
IsErrandBy None community rows errand = ⊥
IsErrandBy (Some Get) community rows errand =
    IsAskOf kind.Get community (pos 0) (pos 0) (AreNames rows) errand
IsErrandBy (Some Next) community rows errand =
    IsAskOf kind.GetNext community (pos 0) (pos 0) (AreNames rows) errand
IsErrandBy (Some Bulk) community rows errand = IsBulkOf community rows errand
IsErrandBy (Some Walk) community rows errand = IsWalkOf community rows errand
IsErrandBy (Some Set) community rows errand =
    IsAskOf kind.Set community (pos 0) (pos 0) (AreSettings rows) errand

-- ---- commands

-- the community that is given
pub record IsCommunityOf (rows : List Row) (community : List ℕ) : Type 0 where
  pub given : first_of (codes "COMMUNITY") rows ≡ Some community
  pub short : length community ≤ MAX_COMMUNITY

-- the errand of a request's name and of the words behind it
pub record IsErrandOf (name : Text) (rows : List Row) (errand : ManagerOperation) : Type 0 where
  pub community : List ℕ
  pub is_community : IsCommunityOf rows community
  pub by : IsErrandBy (word_of name) community rows errand

-- the agent whose address is given
pub record IsAgentOf (rows : List Row) (agent : SocketAddr) : Type 0 where
  pub address : Text
  pub is_address : first_of (codes "ADDRESS") rows ≡ Some address
  pub reads : IsSocketText address agent

-- what stands in front of a request's name, that name, and what stands behind it
pub record IsRequest (top : List Row) (name : Text) (rows : List Row) (c : Command) : Type 0 where
  pub tries : AreTries (one_of (codes "TRIES") top) (one_of (codes "TRIES") rows) c.tries
  pub agent : IsAgentOf rows c.agent
  pub errand : IsErrandOf name rows c.errand

-- Matches that say this command.
abbrev pub IsStated : List Row → Option (Text × List Row) → Command → Type 0
IsStated top None c = ⊥
IsStated top (Some request) c = IsRequest top request.0 request.1 c

-- These words, the program's name first, ask for this command: they have no fault, and it is what
-- their matches say.
pub record IsCommand (words : List Text) (c : Command) : Type 0 where
  pub faultless : fault_of manager_app words ≡ []
  pub stated : IsStated (matches_of manager_app words) (subcommand_of manager_app words) c
