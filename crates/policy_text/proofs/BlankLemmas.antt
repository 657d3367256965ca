-- A text of white space and comments alone says no policy, so reading it takes no memory.
use Rattle.std.proofs.Common.{◌≡◌, ℕ, suc, List, [], length, Option, Some, None, is_some, sym, ap, subst, ◌∙◌, inl, inr, arith}
use Rattle.std.specs.Str.{is_utf8}
use Rattle.std.proofs.lemmas.Bool.{cases_Bool}
use Rattle.toml.specs.Data.{Members, no_members}
use Rattle.toml.specs.Errors.{IsBlank}
use Rattle.toml.specs.Parse.{parse_document, skip_bom}
use Rattle.toml.specs.Tables.{no_nodes}
use Rattle.toml.proofs.Turns.{document_some, lines_end}
use Rattle.policy_text.specs.Policies.{TakesMemory}
use Rattle.policy_text.specs.Texts.{text_of, HasContent}

-- it is a document of no keys
blank_document : (text : List ℕ) → IsBlank text → parse_document text ≡ Some no_members
blank_document text blank =
    document_some text (no_nodes, []) (lines_end (suc (length text)) (no_nodes, []) (skip_bom text) (omega arith) blank)

pub no_keys : (text : List ℕ) (ms : Members) → parse_document text ≡ Some ms → IsBlank text → ms ≡ no_members
no_keys text ms read blank =
    let same : Some ms ≡ Some no_members = sym read ∙ blank_document text blank in
    cc

nothing_to_take : TakesMemory no_members → ⊥
nothing_to_take takes = let none = takes.are in absurd cc

-- a document of which a policy's reading takes memory is not blank
pub not_blank : (text : List ℕ) (ms : Members) → parse_document text ≡ Some ms → TakesMemory ms → ¬ IsBlank text
not_blank text ms read takes blank = nothing_to_take (subst TakesMemory (no_keys text ms read blank) takes)

-- the text that octets are is themselves
text_is : (octets text : List ℕ) → text_of octets ≡ Some text → text ≡ octets
text_is octets text e =
    elim (cases_Bool (is_utf8 octets)) [
      | inl utf8 ↦ (let h = rw utf8 at e in cc)
      | inr other ↦ absurd (let h = rw other at e in cc)
    ]

-- octets that are a text which is not blank
pub has_content : (octets text : List ℕ) → text_of octets ≡ Some text → ¬ IsBlank text → HasContent octets
has_content octets text e content =
    let NotBlank : List ℕ → Type 0 = λ t. ¬ IsBlank t in
    (ap is_some e, subst NotBlank (text_is octets text e) content)
