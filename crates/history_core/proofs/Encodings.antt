-- Requests and their shortest encodings.
use Rattle.std.proofs.Common.{◌≡◌, ◌≢◌, ◌∙◌, ℕ, ◌≤◌, List, [], length, Result, Ok, ap, sym, subst}
use Rattle.message_core.specs.Canon.{canon_request}
use Rattle.message_core.specs.Encodable.{AreEncodable, FitsRequest}
use Rattle.message_core.specs.declared.cause.DropCause.{DropCause}
use Rattle.message_core.specs.FirstFault.{request_at}
use Rattle.message_core.specs.declared.limits.TheConstants.{MAX_REQUEST}
use Rattle.message_core.specs.declared.request.Request.{Request}
use Rattle.message_core.proofs.RoundTrip.{request_encodes}
use Rattle.message_core.proofs.Requests.{request_only}
use Rattle.history_core.specs.Encoded.{IsEncodingOf, request_in}

written_is_read : (r : Request) → FitsRequest r → length (canon_request r) ≤ MAX_REQUEST → request_at (canon_request r) ≡ Ok r
written_is_read r fits most = request_only (canon_request r) r (request_encodes r fits most)

-- what is written of a short request is its encoding
pub written : (r : Request) (octets : List ℕ) → AreEncodable r.bindings → FitsRequest r → r.bindings ≢ []
    → length (canon_request r) ≤ MAX_REQUEST → octets ≡ canon_request r → IsEncodingOf octets r
written r octets all fits some most same = record {
  shortest = same;
  read = ap request_at same ∙ written_is_read r fits most;
  encodable = all;
  short = record { some = some; most = most };
}

abbrev read_well : Request → Result Request DropCause
read_well r = Ok r

same_read : (a b : Request) → read_well a ≡ read_well b → a ≡ b
same_read a b e = cc

-- no octets are the encoding of two requests
pub one_request : (octets : List ℕ) (kept r : Request) → IsEncodingOf octets kept → FitsRequest r
    → length (canon_request r) ≤ MAX_REQUEST → octets ≡ canon_request r → kept ≡ r
one_request octets kept r i fits most same =
    same_read kept r (sym i.read ∙ ap request_at same ∙ written_is_read r fits most)

-- and no request has two
pub one_encoding : (octets : List ℕ) (kept r : Request) → IsEncodingOf octets kept → kept ≡ r → octets ≡ canon_request r
one_encoding octets kept r i same = i.shortest ∙ ap canon_request same

-- the request that octets read as
pub read_as : (octets : List ℕ) (r : Request) → IsEncodingOf octets r → request_in octets ≡ r
read_as octets r i = rw i.read

pub kept_as : (octets : List ℕ) (r : Request) → IsEncodingOf octets r → IsEncodingOf octets (request_in octets)
kept_as octets r i = subst (λ (x : Request). IsEncodingOf octets x) (sym (read_as octets r i)) i
