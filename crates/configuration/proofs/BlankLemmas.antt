-- A text of white space and comments alone has no address, so reading it takes no memory.
use Rattle.std.proofs.Common.{◌≡◌, ℕ, Bool, true, false, List, Some, Result, Ok, Err, subst}
use Rattle.std.specs.Prelude.{IfErr}
use Rattle.toml.specs.Data.{Members, no_members}
use Rattle.toml.specs.Errors.{IsBlank}
use Rattle.toml.specs.Parse.{parse_document}
use Rattle.policy_text.proofs.BlankLemmas.{no_keys, not_blank as policy_not_blank}
use Rattle.configuration.specs.declared.fault.ConfigurationFault.{ConfigurationFault}
use Rattle.configuration.specs.declared.fault.ConfigurationFault.TheVariants.{Memory}
use Rattle.configuration.specs.Configurations.{HasAddress, TakesMemory}
use Rattle.configuration.specs.PolicyFiles.{is_whole, MayTakeMemory}

no_address : HasAddress no_members → ⊥
no_address h = let none = h.1 in absurd cc

-- a document with an address is not blank
pub not_blank : (text : List ℕ) (ms : Members) → parse_document text ≡ Some ms → HasAddress ms → ¬ IsBlank text
not_blank text ms read has blank = no_address (subst HasAddress (no_keys text ms read blank) has)

-- a document of which reading a configuration takes memory is not blank
pub content_taken : {X : Type 0} (text : List ℕ) (ms : Members) (result : Result X ConfigurationFault) → parse_document text ≡ Some ms
    → IfErr result (λ e. e ≡ Memory → TakesMemory ms) → IfErr result (λ e. e ≡ Memory → ¬ IsBlank text)
content_taken text ms (Ok x) read h = tt
content_taken text ms (Err e) read h = λ is. not_blank text ms read (h is).address

taken_not_blank : (whole : Bool) (text : List ℕ) (ms : Members) → parse_document text ≡ Some ms → MayTakeMemory whole ms → ¬ IsBlank text
taken_not_blank true text ms read takes = not_blank text ms read takes.address
taken_not_blank false text ms read takes = policy_not_blank text ms read takes

-- a document of which reading a policy's file takes memory is not blank
pub policy_taken : {X : Type 0} (text : List ℕ) (ms : Members) (result : Result X ConfigurationFault) → parse_document text ≡ Some ms
    → IfErr result (λ e. e ≡ Memory → MayTakeMemory (is_whole ms) ms) → IfErr result (λ e. e ≡ Memory → ¬ IsBlank text)
policy_taken text ms (Ok x) read h = tt
policy_taken text ms (Err e) read h = λ is. taken_not_blank (is_whole ms) text ms read (h is)
