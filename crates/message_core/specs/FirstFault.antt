-- A datagram read from left to right, up to the first faulty place: the value and the octets left,
-- or the cause. The grammar itself stands in `Message`.
use Rattle.std.specs.Prelude.{ℕ, zero, suc, ℤ, pos, negsuc, ◌+◌, ◌^◌, Bool, false, List, [], ◌∷◌, length, Option, Some, None, Result, Ok, Err, nat_lt, ◌==◌, if◌then◌else◌}
use Rattle.ber_core.specs.declared.fault.BerFault.{BerFault}
use Rattle.ber_core.specs.Encoding.{twos_complement}
use Rattle.ber_core.specs.Reading.{◌>>=◌, tlv_at}
use Rattle.oid_core.specs.declared.fault.OidFault.{OidFault}
use Rattle.oid_core.specs.Reading.{name_at}
use Rattle.message_core.specs.Cause.{cause_of}
use Rattle.message_core.specs.Tags as tags
use Rattle.message_core.specs.declared.limits.TheConstants.{MAX_REQUEST}
use Rattle.message_core.specs.declared.cause.DropCause.{DropCause}
use Rattle.message_core.specs.declared.cause.DropCause.TheVariants.{TooLong, Malformed, BadVersion, BadKind}
use Rattle.message_core.specs.declared.request.Kind.{Kind}
use Rattle.message_core.specs.declared.request.Kind.TheVariants.{Get, GetNext, Set, GetBulk}
use Rattle.message_core.specs.declared.value.Value.{Value}
use Rattle.message_core.specs.declared.value.Value.TheVariants.{Integer, OctetString, Null, ObjectIdentifier, IpAddress, Counter32, Gauge32, TimeTicks, Opaque, Counter64, NoSuchObject, NoSuchInstance, EndOfMibView}
use Rattle.message_core.specs.declared.binding.Binding.{Binding}
use Rattle.message_core.specs.declared.request.Request.{Request}
use Rattle.message_core.specs.declared.reply.Reply.{Reply}
use Rattle.message_core.specs.declared.status.ErrorStatus.{ErrorStatus}
use Rattle.message_core.specs.Status.{status_of}

abbrev pub or_malformed : {A : Type 0} → Result A BerFault → Result A DropCause
or_malformed (Ok x) = Ok x
or_malformed (Err e) = Err Malformed

abbrev pub or_cause : {A : Type 0} → Result A OidFault → Result A DropCause
or_cause (Ok x) = Ok x
or_cause (Err e) = Err (cause_of e)

-- the tag and the content at the front, and what comes after them
unfoldable pub any_at : List ℕ → Result (ℕ × List ℕ × List ℕ) DropCause
any_at octets = or_malformed (tlv_at octets)

-- the content under this tag, and what comes after it
unfoldable pub content_at : ℕ → List ℕ → Result (List ℕ × List ℕ) DropCause
content_at tag octets = do
  t ← any_at octets
  if t.0 == tag then Ok (t.1, t.2) else Err Malformed

abbrev pub integer_of : List ℕ → Result ℤ DropCause
integer_of content = if length content == 0 then Err Malformed else if nat_lt 4 (length content) then Err Malformed else Ok (twos_complement content)

-- a number below the limit that is not negative
abbrev pub natural_of : ℕ → ℤ → Result ℕ DropCause
natural_of limit (pos n) = if nat_lt n limit then Ok n else Err Malformed
natural_of limit (negsuc n) = Err Malformed

-- the content of a number that is not negative, of so many octets or one more
unfoldable pub unsigned_of : ℕ → List ℕ → Result ℕ DropCause
unsigned_of width content =
    if length content == 0 then Err Malformed
    else if nat_lt (width + 1) (length content) then Err Malformed
    else natural_of (256 ^ width) (twos_complement content)

unfoldable pub integer_at : List ℕ → Result (ℤ × List ℕ) DropCause
integer_at octets = do
  t ← content_at tags.integer octets
  z ← integer_of t.0
  Ok (z, t.1)

unfoldable pub nametlv_at : List ℕ → Result (List ℕ × List ℕ) DropCause
nametlv_at octets = do
  t ← content_at tags.object_identifier octets
  n ← or_cause (name_at t.0)
  Ok (n, t.1)

-- nothing is left
abbrev pub end_at : List ℕ → Result (Unit {0}) DropCause
end_at rest = if length rest == 0 then Ok tt else Err Malformed

abbrev pub empty_of : List ℕ → Value → Result Value DropCause
empty_of content v = if length content == 0 then Ok v else Err Malformed

abbrev pub address_of : List ℕ → Result (List ℕ) DropCause
address_of content = if length content == 4 then Ok content else Err Malformed

-- the exceptions of RFC 3416, section 3
unfoldable pub exception_of : ℕ → List ℕ → Result Value DropCause
exception_of tag content =
    if tag == tags.no_such_object then empty_of content NoSuchObject
    else if tag == tags.no_such_instance then empty_of content NoSuchInstance
    else if tag == tags.end_of_mib_view then empty_of content EndOfMibView
    else Err Malformed

-- the application-wide types of RFC 2578, 7.1, or what is none of them
unfoldable pub application_of : ℕ → List ℕ → Result Value DropCause
application_of tag content =
    if tag == tags.ip_address then (address_of content >>= λ a. Ok (IpAddress a))
    else if tag == tags.counter32 then (unsigned_of 4 content >>= λ n. Ok (Counter32 n))
    else if tag == tags.gauge32 then (unsigned_of 4 content >>= λ n. Ok (Gauge32 n))
    else if tag == tags.time_ticks then (unsigned_of 4 content >>= λ n. Ok (TimeTicks n))
    else if tag == tags.opaque then Ok (Opaque content)
    else if tag == tags.counter64 then (unsigned_of 8 content >>= λ n. Ok (Counter64 n))
    else exception_of tag content

unfoldable pub value_of : ℕ → List ℕ → Result Value DropCause
value_of tag content =
    if tag == tags.integer then (integer_of content >>= λ z. Ok (Integer z))
    else if tag == tags.octet_string then Ok (OctetString content)
    else if tag == tags.null then empty_of content Null
    else if tag == tags.object_identifier then (or_cause (name_at content) >>= λ n. Ok (ObjectIdentifier n))
    else application_of tag content

unfoldable pub value_at : List ℕ → Result (Value × List ℕ) DropCause
value_at octets = do
  t ← any_at octets
  v ← value_of t.0 t.1
  Ok (v, t.2)

unfoldable pub binding_at : List ℕ → Result (Binding × List ℕ) DropCause
binding_at octets = do
  t ← content_at tags.sequence octets
  n ← nametlv_at t.0
  v ← value_at n.1
  e ← end_at v.1
  Ok (record { name = n.0; value = v.0 }, t.1)

-- bindings up to the end, at most so many
unfoldable pub bindings_at : ℕ → List ℕ → Result (List Binding) DropCause
bindings_at most [] = Ok []
bindings_at zero (octet ∷ octets) = Err Malformed
bindings_at (suc most) (octet ∷ octets) = do
  b ← binding_at (octet ∷ octets)
  bs ← bindings_at most b.1
  Ok (b.0 ∷ bs)

-- the three numbers of a PDU, and what comes after them
unfoldable pub numbers_at : List ℕ → Result (ℤ × ℤ × ℤ × List ℕ) DropCause
numbers_at content = do
  id ← integer_at content
  first ← integer_at id.1
  second ← integer_at first.1
  Ok (id.0, first.0, second.0, second.1)

-- the bindings of a PDU, up to its end
unfoldable pub list_of : List ℕ → Result (List Binding) DropCause
list_of octets = do
  list ← content_at tags.sequence octets
  bindings ← bindings_at (length list.0) list.0
  e ← end_at list.1
  Ok bindings

abbrev pub is_one : ℤ → Bool
is_one (pos n) = n == 1
is_one (negsuc n) = false

abbrev pub version_of : ℤ → Result (Unit {0}) DropCause
version_of z = if is_one z then Ok tt else Err BadVersion

-- A message up to its community: the community, and what comes after it and after the message.
unfoldable pub start_at : List ℕ → Result (List ℕ × List ℕ × List ℕ) DropCause
start_at datagram = if nat_lt MAX_REQUEST (length datagram) then Err TooLong else do
  m ← content_at tags.sequence datagram
  v ← integer_at m.0
  one ← version_of v.0
  c ← content_at tags.octet_string v.1
  Ok (c.0, c.1, m.1)

-- A message up to its PDU: the community, the PDU's tag and content, and what comes after the PDU
-- and after the message.
unfoldable pub head_at : List ℕ → Result (List ℕ × ℕ × List ℕ × List ℕ × List ℕ) DropCause
head_at datagram = do
  s ← start_at datagram
  p ← any_at s.1
  Ok (s.0, p.0, p.1, p.2, s.2)

-- nothing is left behind the PDU, nor behind the message
unfoldable pub ends_at : List ℕ → List ℕ → Result (Unit {0}) DropCause
ends_at after_pdu after_message = do
  e ← end_at after_pdu
  end_at after_message

unfoldable pub kind_of : ℕ → Result Kind DropCause
kind_of tag =
    if tag == tags.get_request then Ok Get
    else if tag == tags.get_next_request then Ok GetNext
    else if tag == tags.set_request then Ok Set
    else if tag == tags.get_bulk_request then Ok GetBulk
    else Err BadKind

-- A message of a PDU whose tag and second number are read so: its community, what the tag means,
-- the first number, what the second one means, the third, and the bindings.
unfoldable pub pdu_at : {K S : Type 0} → (ℕ → Result K DropCause) → (ℤ → Result S DropCause) → List ℕ → Result (List ℕ × K × ℤ × S × ℤ × List Binding) DropCause
pdu_at kind_at first_at datagram = do
  h ← head_at datagram
  kind ← kind_at h.1
  n ← numbers_at h.2
  first ← first_at n.1
  bindings ← list_of n.3
  e ← ends_at h.3 h.4
  Ok (h.0, kind, n.0, first, n.2, bindings)

-- any number, as it is
abbrev pub number_of : ℤ → Result ℤ DropCause
number_of z = Ok z

-- The request that a datagram gives, or the cause of its first faulty place.
unfoldable pub request_at : List ℕ → Result Request DropCause
request_at datagram = do
  p ← pdu_at kind_of number_of datagram
  Ok (record { kind = p.1; id = p.2; first = p.3; second = p.4; community = p.0; bindings = p.5 })

-- the tag of a Response
unfoldable pub response_of : ℕ → Result (Unit {0}) DropCause
response_of tag = if tag == tags.response then Ok tt else Err BadKind

abbrev pub some_or_malformed : {A : Type 0} → Option A → Result A DropCause
some_or_malformed (Some x) = Ok x
some_or_malformed None = Err Malformed

-- the error-status of a number
unfoldable pub error_status_of : ℤ → Result ErrorStatus DropCause
error_status_of z = some_or_malformed (status_of z)

-- The reply that a datagram gives, or the cause of its first faulty place.
unfoldable pub reply_at : List ℕ → Result Reply DropCause
reply_at datagram = do
  p ← pdu_at response_of error_status_of datagram
  Ok (record { id = p.2; status = p.3; index = p.4; community = p.0; bindings = p.5 })
