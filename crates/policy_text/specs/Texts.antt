-- The policy that octets are.
use Rattle.std.specs.Prelude.{ℕ, if◌then◌else◌, List, Option, Some, None, IsSome}
use Rattle.std.specs.Str.{is_utf8}
use Rattle.toml.specs.Data.{Members}
use Rattle.toml.specs.Errors.{IsBlank}
use Rattle.toml.specs.Parse.{parse_document}
use Rattle.community_core.specs.Communities.{PolicyTables}
use Rattle.policy_text.specs.Reading.{◌>=>◌}
use Rattle.policy_text.specs.Stated.{policy_of_members}

-- the text that octets are: themselves, where they are UTF-8 (RFC 3629, section 3)
abbrev pub text_of : List ℕ → Option (List ℕ)
text_of octets = if is_utf8 octets then Some octets else None

-- The octets are a text, of more than white space and comments. What is no text is not read, and a
-- blank text is a document of no keys, so reading any other octets takes no memory.
abbrev pub HasContent : List ℕ → Type 0
HasContent octets = IsSome (text_of octets) × ¬ IsBlank octets

-- the TOML document that octets are
abbrev pub document_in : List ℕ → Option Members
document_in octets = text_of octets >=> parse_document

-- UTF-8 and a TOML document, which says a policy
unfoldable pub policy_in : List ℕ → Option PolicyTables
policy_in octets = document_in octets >=> policy_of_members
