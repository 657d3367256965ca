-- Octets that are no policy alone.
use Rattle.std.proofs.Common.{◌≡◌, ℕ, List, Option, Some, None, Result, Ok, Err, refl, inl, inr, subst}
use Rattle.std.specs.Prelude.{IfOk, IsNone}
use Rattle.toml.specs.Data.{Members, no_members}
use Rattle.toml.specs.Errors.{IsBlank}
use Rattle.toml.specs.Parse.{parse_document}
use Rattle.community_core.specs.Communities.{PolicyTables}
use Rattle.community_core.specs.declared.fault.PolicyTable.{PolicyTable}
use Rattle.policy_text.specs.Policies.{arrays_of}
use Rattle.policy_text.specs.Stated.{policy_of_members}
use Rattle.policy_text.specs.Texts.{text_of, policy_in}
use Rattle.policy_text.proofs.BlankLemmas.{no_keys}
use Rattle.policy_text.proofs.StatedLemmas.{refused_reported}
use Rattle.configuration.specs.declared.fault.PolicyKey.{PolicyKey}
use Rattle.configuration.specs.declared.causes.WrongRow.{WrongRow}
use Rattle.configuration.specs.declared.causes.WrongRow.TheVariants.{Twice, Length, Field}
use Rattle.configuration.specs.declared.causes.PolicyCause.{PolicyCause}
use Rattle.configuration.specs.declared.causes.PolicyCause.TheVariants.{NoText, NoDocument, Keys, Row}
use Rattle.configuration.specs.PolicyKeys.{HasKeys, IsKeysFault}
use Rattle.configuration.specs.Causes.{IsRowCause, IsTableCause, IsLineCause, IsText, IsAlone}
use Rattle.configuration.proofs.NoFault.{no_wrong_array}

none_of : {A : Type 0} (o : Option A) → ((a : A) → o ≡ Some a → ⊥) → o ≡ None
none_of None h = refl
none_of (Some a) h = absurd (h a refl)

pub there_is : {A : Type 0} (a : A) → IsNone (Some a) → ⊥
there_is a none = absurd cc

-- a table with a wrong key says no policy
keys_reported : (ms : Members) (key : PolicyKey) → IsKeysFault ms key → policy_of_members ms ≡ None
unfolding policy_of_members
keys_reported ms key fault = rw (none_of (arrays_of ms) (λ a e. no_wrong_array ms a key e fault)) refl

row_reported : (ms : Members) (which : PolicyTable) (row : ℕ) (wrong : WrongRow) → IsRowCause ms which row wrong → policy_of_members ms ≡ None
row_reported ms which row Twice h = refused_reported ms _ h.1
row_reported ms which row (Length key) h = refused_reported ms _ h.0.1
row_reported ms which row (Field wrong) h = refused_reported ms _ h.0.1

-- where there is a cause, there is no policy
pub cause_reported : (ms : Members) (cause : PolicyCause) → IsTableCause ms cause → policy_of_members ms ≡ None
cause_reported ms NoText h = absurd h
cause_reported ms (NoDocument line) h = absurd h
cause_reported ms (Keys key) h = keys_reported ms key h
cause_reported ms (Row which row wrong) h = row_reported ms which row wrong h

no_arrays : HasKeys no_members → ⊥
no_arrays keys = let none = keys.1 in absurd cc

-- a document with the keys of a policy is not blank
pub keys_not_blank : (text : List ℕ) (ms : Members) → parse_document text ≡ Some ms → HasKeys ms → ¬ IsBlank text
keys_not_blank text ms read keys blank = no_arrays (subst HasKeys (no_keys text ms read blank) keys)

-- a text that is no document says no policy
pub no_document : (text : List ℕ) (cause : PolicyCause) → parse_document text ≡ None → IsLineCause text cause → IsText text (Err cause)
no_document text cause none line = (rw none refl, inl (none, line))

pub no_text : (octets : List ℕ) → text_of octets ≡ None → IsAlone octets (Err NoText)
unfolding policy_in
no_text octets none = (rw none refl, inl (none, refl))

alone : (octets text : List ℕ) (read : Result PolicyTables PolicyCause) → text_of octets ≡ Some text → IsText text read → IsAlone octets read
unfolding policy_in
alone octets text (Ok policy) e h = rw e h
alone octets text (Err cause) e h = (rw e h.0, inr (text, e, h.1))

-- octets that are a text say what it says
pub alone_if : {E : Type 0} (octets text : List ℕ) (r : Result (Result PolicyTables PolicyCause) E) → text_of octets ≡ Some text
    → IfOk r (λ read. IsText text read) → IfOk r (λ read. IsAlone octets read)
alone_if octets text (Ok read) e h = alone octets text read e h
alone_if octets text (Err fault) e h = tt
