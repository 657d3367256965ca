-- What a parse says of the words, and how they are answered.
use Rattle.std.proofs.Common.{◌≡◌, ◌≢◌, ◌∙◌, ◌⊎◌, List, [], Option, Some, None, inl, inr, refl, sym, subst, true}
use Rattle.clap.specs.Words.{App, HasKind, HasMatchesOf, Row, Text, fault_of, is_simple_and_free, kind_of, subcommand_rows_of}
use Rattle.clap.specs.declared.error.Error.{Error}
use Rattle.clap.specs.declared.error.kind.ErrorKind.{ErrorKind}
use Rattle.clap.specs.declared.error.kind.ErrorKind.TheVariants as kind
use Rattle.clap.specs.declared.parser.matches.ArgMatches.{ArgMatches}
use Rattle.agent_words.specs.Options.{agent_app}
use Rattle.agent_words.specs.Asking.{IsAsked, asked_view, asking_in, asking_of}
use Rattle.agent_words.specs.Answers.{IsAnswerTo, IsAnswered, IsRefusal, IsText}
use Rattle.agent_words.specs.declared.asked.Asked.{Asked}
use Rattle.agent_words.specs.declared.program.Answered.{Answered}
use Rattle.agent_words.specs.declared.program.Answered.TheVariants.{Shown, NotShown, Refused, Memory}
use Rattle.agent_words.proofs.Simple.{free, simple}

faultless : (a : App) (words : List Text) → a ≡ agent_app → (is_simple_and_free a ≡ true → fault_of a words ≡ []) → fault_of agent_app words ≡ []
faultless a words is kinds =
    subst (λ (x : App). is_simple_and_free x ≡ true → fault_of x words ≡ []) is kinds free

-- what the matches of a parse ask for
asks : (a : App) (words : List Text) (m : ArgMatches) → a ≡ agent_app → HasMatchesOf a words m → asking_in (subcommand_rows_of m) ≡ asking_of words
asks a words m is matches =
    let h = subst (λ (x : App). HasMatchesOf x words m) is matches simple in
    subst (λ (o : Option (Text × List Row)). asking_in (subcommand_rows_of m) ≡ asking_in o) h.1 refl

pub command_stated : (a : App) (words : List Text) (m : ArgMatches) (asked : Asked) → a ≡ agent_app → (is_simple_and_free a ≡ true → fault_of a words ≡ []) → HasMatchesOf a words m → asking_in (subcommand_rows_of m) ≡ Some (asked_view asked) → IsAsked words asked
command_stated a words m asked is kinds matches stated = record {
  faultless = faultless a words is kinds;
  asks = sym (asks a words m is matches) ∙ stated;
}

-- the matches say nothing
pub none_stated : (a : App) (words : List Text) (m : ArgMatches) (e : Error) → a ≡ agent_app → (is_simple_and_free a ≡ true → fault_of a words ≡ []) → HasMatchesOf a words m → (kind_of e ≡ kind.OutOfMemory) ⊎ ((kind_of e ≡ kind.ValueValidation) × (asking_in (subcommand_rows_of m) ≡ None)) → IsRefusal words e
none_stated a words m e is kinds matches (inl wants) = inl wants
none_stated a words m e is kinds matches (inr invalid) = inr (inr (
  invalid.0,
  record {
    faultless = faultless a words is kinds;
    none = sym (asks a words m is matches) ∙ invalid.1;
  },
))

-- a parse that fails
has_kind : (words : List Text) (e : Error) → HasKind (fault_of agent_app words) e → IsRefusal words e
has_kind words e (inl wants) = inl wants
has_kind words e (inr among) = inr (inl among)

pub parse_failed : (a : App) (words : List Text) (e : Error) → a ≡ agent_app → (is_simple_and_free a ≡ true → HasKind (fault_of a words) e) → IsRefusal words e
parse_failed a words e is kinds =
    has_kind words e (subst (λ (x : App). is_simple_and_free x ≡ true → HasKind (fault_of x words) e) is kinds free)

-- ---- answers

not_text : (k other : ErrorKind) → other ≢ kind.DisplayHelp → other ≢ kind.DisplayVersion → k ≡ other → ¬ IsText k
not_text k other a b same (inl h) = a (sym same ∙ h)
not_text k other a b same (inr h) = b (sym same ∙ h)

wants_no_text : (k : ErrorKind) → k ≡ kind.OutOfMemory → ¬ IsText k
wants_no_text k same = not_text k kind.OutOfMemory (λ h. cc) (λ h. cc) same

invalid_no_text : (k : ErrorKind) → k ≡ kind.ValueValidation → ¬ IsText k
invalid_no_text k same = not_text k kind.ValueValidation (λ h. cc) (λ h. cc) same

pub answered : {O E : Type 0} (words : List Text) (e : Error) (out : O) (errors : E) (a : Answered) (out' : O) (errors' : E) → IsRefusal words e → IsAnswerTo (kind_of e) out errors a out' errors' → IsAnswered words out errors a out' errors'
answered words e out errors Shown out' errors' (inl wants) is = absurd (wants_no_text (kind_of e) wants is.0)
answered words e out errors Shown out' errors' (inr (inl among)) is =
    (record { kind = kind_of e; among = among; shown = is.0 }, is.1)
answered words e out errors Shown out' errors' (inr (inr v)) is = absurd (invalid_no_text (kind_of e) v.0 is.0)
answered words e out errors NotShown out' errors' (inl wants) is = absurd (wants_no_text (kind_of e) wants is.0)
answered words e out errors NotShown out' errors' (inr (inl among)) is =
    (record { kind = kind_of e; among = among; shown = is.0 }, is.1)
answered words e out errors NotShown out' errors' (inr (inr v)) is = absurd (invalid_no_text (kind_of e) v.0 is.0)
answered words e out errors Refused out' errors' (inl wants) is = absurd (is.1 wants)
answered words e out errors Refused out' errors' (inr (inl among)) is =
    (inl (record { kind = kind_of e; among = among; wrong = is.0 }), is.2)
answered words e out errors Refused out' errors' (inr (inr v)) is = (inr v.1, is.2)
answered words e out errors Memory out' errors' refusal is = (is.1, is.2)
