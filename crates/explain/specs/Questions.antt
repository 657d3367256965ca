-- Which request the words of a question make.
use Rattle.std.specs.Prelude.{◌≡◌, ℕ, ◌≤◌, ◌==◌, if◌then◌else◌, List, [], ◌∷◌, ◌++◌, length, pos, Option, Some, None, unwrap_or}
use Rattle.std.specs.List.{AllByRecursion}
use Rattle.oid_core.specs.Text.{IsDotted}
use Rattle.oid_core.specs.declared.limits.TheConstants.{MAX_NUMBERS}
use Rattle.message_core.specs.declared.binding.Binding.{Binding}
use Rattle.message_core.specs.declared.value.Value.TheVariants.{Null}
use Rattle.message_core.specs.declared.request.Kind.{Kind}
use Rattle.message_core.specs.declared.request.Request.{Request}
use Rattle.explain.specs.declared.questions.QuestionFault.{QuestionFault}
use Rattle.explain.specs.declared.questions.QuestionFault.TheVariants.{Memory, Name}

-- what stands behind a dot that a word begins with, if it does; 46 is the dot
abbrev pub behind_dot : List ℕ → Option (List ℕ)
behind_dot [] = None
behind_dot (c ∷ rest) = if c == 46 then Some rest else None

-- a word without the one dot that Net-SNMP's tools print in front of a name
abbrev pub without_front_dot : List ℕ → List ℕ
without_front_dot word = unwrap_or (behind_dot word) word

-- a word, behind the dot that may stand in front of it, is the dotted text of a name of at most 128
-- sub-identifiers (RFC 2578, section 3.5)
pub record IsNameText (word name : List ℕ) : Type 0 where
  pub dotted : IsDotted (without_front_dot word) name
  pub most : length name ≤ MAX_NUMBERS

-- a variable that is asked for, with the value NULL (RFC 3416, section 4.2.1)
pub record IsAskedBy (word : List ℕ) (b : Binding) : Type 0 where
  pub name : IsNameText word b.name
  pub value : b.value ≡ Null

-- each word is the text of its variable's name
abbrev pub AreAskedBy : List (List ℕ) → List Binding → Type 0
AreAskedBy [] [] = Unit {0}
AreAskedBy [] (b ∷ bs) = ⊥
AreAskedBy (word ∷ words) [] = ⊥
AreAskedBy (word ∷ words) (b ∷ bs) = IsAskedBy word b × AreAskedBy words bs

-- A request of this PDU type and community, for the names of these words.
pub record IsQuestion (kind : Kind) (community : List ℕ) (words : List (List ℕ)) (request : Request)
    : Type 0 where
  pub kind_is : request.kind ≡ kind
  pub id : request.id ≡ pos 0
  pub first : request.first ≡ pos 0
  pub second : request.second ≡ pos 0
  pub community_is : request.community ≡ community
  pub names : AreAskedBy words request.bindings

-- a word is the text of no name
abbrev pub IsNoName : List ℕ → Type 0
IsNoName word = (name : List ℕ) → ¬ IsNameText word name

-- each of these words is the text of a name
abbrev pub AreNames : List (List ℕ) → Type 0
AreNames words = AllByRecursion (λ word. (name : List ℕ) × IsNameText word name) words

-- a word is the first of these that is the text of no name
pub record IsFirstNoName (words : List (List ℕ)) (word : List ℕ) : Type 0 where
  pub front : List (List ℕ)
  pub behind : List (List ℕ)
  pub split : words ≡ front ++ word ∷ behind
  pub names : AreNames front
  pub none : IsNoName word

-- why a word gives no name
abbrev pub IsNameFault : List ℕ → QuestionFault → Type 0
IsNameFault word Memory = Unit {0}
IsNameFault word (Name named) = (named.now ≡ word) × IsNoName word

-- Why words make no request: the first that is no name, if it is not for want of memory.
abbrev pub IsFaultOf : List (List ℕ) → QuestionFault → Type 0
IsFaultOf words Memory = Unit {0}
IsFaultOf words (Name named) = IsFirstNoName words named.now
