-- No encoding is shorter than the shortest, and one that is no longer is the shortest.
use Rattle.std.proofs.Common.{◌≡◌, ℕ, ℤ, pos, ◌≤◌, List, [], ◌∷◌, ◌++◌, length, refl, ap, subst, ◌∙◌, arith, inl, inr}
use Rattle.std.proofs.lemmas.List.{length-append}
use Rattle.std.proofs.lemmas.Bool.{cases_lt, lt-ltb, le-ltb}
use Rattle.std.proofs.lemmas.Int.Digits.{number_lt, length-digits_of-le}
use Rattle.ber_core.specs.Encoding.{AreOctets, IsLength, IsTlv, canon_length, canon_tlv, canon_integer, canon_unsigned}
use Rattle.ber_core.proofs.Octets.{octets_at}
use Rattle.ber_core.proofs.Unsigned.{all_below}
use Rattle.ber_core.proofs.Least.{no_shorter_integer, no_shorter_unsigned}
use Rattle.ber_core.proofs.One.{one_shortest_tlv, one_integer, one_unsigned}
use Rattle.oid_core.specs.Name.{canon_name}
use Rattle.oid_core.proofs.Least.{no_shorter_name}
use Rattle.oid_core.proofs.One.{one_content}
use Rattle.message_core.specs.Tags as tags
use Rattle.message_core.specs.Status.{code_of}
use Rattle.message_core.specs.declared.value.Value.{Value}
use Rattle.message_core.specs.declared.value.Value.TheVariants.{Integer, OctetString, Null, ObjectIdentifier, IpAddress, Counter32, Gauge32, TimeTicks, Opaque, Counter64, NoSuchObject, NoSuchInstance, EndOfMibView}
use Rattle.message_core.specs.declared.binding.Binding.{Binding}
use Rattle.message_core.specs.declared.request.Request.{Request}
use Rattle.message_core.specs.declared.reply.Reply.{Reply}
use Rattle.message_core.specs.Message.{IsIntegerTlv, IsUnsignedTlv, IsNameTlv, IsValue, IsBinding, AreBindings, IsBody, IsMessage, IsRequest, IsReply, tag_of}
use Rattle.message_core.specs.Canon.{canon_int, canon_name_tlv, canon_value, canon_binding, canon_bindings, canon_tail, canon_body, canon_inside, canon_message, canon_request, canon_reply}
use Rattle.message_core.proofs.Readers.{octets_split, content_fits}

-- octets that are not shorter than the shortest, and are the shortest where they are no longer
pub record IsAtLeast (short octets : List ℕ) : Type 0 where
  pub least : length short ≤ length octets
  pub one : length octets ≤ length short → octets ≡ short

same : (octets : List ℕ) → IsAtLeast octets octets
same octets = record { least = omega arith; one = λ few. refl }

joined : (a x b y : List ℕ) → IsAtLeast a x → IsAtLeast b y → IsAtLeast (a ++ b) (x ++ y)
joined a x b y i j =
    let short = length-append a b in
    let long = length-append x y in
    let first = i.least in
    let second = j.least in
    record {
      least = omega (arith, short, long, first, second);
      one = λ few. ap (λ (l : List ℕ). l ++ y) (i.one (omega (arith, short, long, second, few))) ∙ ap (λ (l : List ℕ). a ++ l) (j.one (omega (arith, short, long, first, few)));
    }

along : (short octets parts : List ℕ) → octets ≡ parts → IsAtLeast short parts → IsAtLeast short octets
along short octets parts e i = record { least = (let least = i.least in omega (arith, least, ap length e)); one = λ few. e ∙ i.one (omega (arith, few, ap length e)) }

-- ---- a tag, a length and a content

-- a length of so many or more is not shorter than the shortest
length_least : (head : List ℕ) (n m : ℕ) → AreOctets head → IsLength head m → n ≤ m → length (canon_length n) ≤ length head
length_least head n m fits (inl short) le =
    rw (lt-ltb n 128 (omega (arith, short.1))) (omega (arith, ap length short.0))
length_least head n m fits (inr long) le =
    let digits = long.digits in
    let len = ap length long.parts in
    let digits_fit = (subst (λ (o : List ℕ). AreOctets o) long.parts fits).1 in
    let below = number_lt 256 digits (all_below digits (octets_at digits digits_fit)) in
    let some = long.some in
    elim (cases_lt n 128) [
      | inl lt ↦ rw (lt-ltb n 128 lt) (omega (arith, len, some))
      | inr ge ↦
          let few = length-digits_of-le 256 (length digits) n (omega arith) (omega (arith, below, long.value)) in
          rw (le-ltb n 128 ge) (omega (arith, len, few))
    ]

framed : (tag : ℕ) (short content octets : List ℕ) → AreOctets octets → IsTlv tag content octets → IsAtLeast short content → IsAtLeast (canon_tlv tag short) octets
unfolding canon_tlv
framed tag short content octets fits t i =
    let all = subst (λ (o : List ℕ). AreOctets o) t.parts fits in
    let least = i.least in
    let head = length_least t.head (length short) (length content) (octets_split t.head content all.1).0 t.counts least in
    let whole = ap length t.parts in
    let parts = length-append t.head content in
    let canon = length-append (canon_length (length short)) short in
    record {
      least = omega (arith, head, least, whole, parts, canon);
      one = λ few.
          let is : content ≡ short = i.one (omega (arith, few, head, whole, parts, canon)) in
          let again : IsTlv tag short octets = subst (λ (c : List ℕ). IsTlv tag c octets) is t in
          one_shortest_tlv tag short octets (octets_at octets fits) again few;
    }

plain : (tag : ℕ) (content octets : List ℕ) → AreOctets octets → IsTlv tag content octets → IsAtLeast (canon_tlv tag content) octets
plain tag content octets fits t = framed tag content content octets fits t (same content)

-- ---- values

integer_at_least : (octets : List ℕ) (z : ℤ) → AreOctets octets → IsIntegerTlv octets z → IsAtLeast (canon_int z) octets
integer_at_least octets z fits i =
    let inner = octets_at i.content (content_fits tags.integer i.content octets i.framed fits) in
    framed tags.integer (canon_integer z) i.content octets fits i.framed (record { least = no_shorter_integer i.content z inner i.writes; one = one_integer i.content z inner i.writes })

unsigned_at_least : (tag width : ℕ) (octets : List ℕ) (n : ℕ) → width ≤ 8 → AreOctets octets → IsUnsignedTlv tag width octets n → IsAtLeast (canon_tlv tag (canon_unsigned n)) octets
unsigned_at_least tag width octets n le fits i =
    let inner = octets_at i.content (content_fits tag i.content octets i.framed fits) in
    framed tag (canon_unsigned n) i.content octets fits i.framed (record { least = no_shorter_unsigned width i.content n le inner i.writes; one = one_unsigned width i.content n le inner i.writes })

pub name_at_least : (octets name : List ℕ) → AreOctets octets → IsNameTlv octets name → IsAtLeast (canon_name_tlv name) octets
name_at_least octets name fits i =
    framed tags.object_identifier (canon_name name) i.content octets fits i.framed (record { least = no_shorter_name i.content name i.writes; one = λ few. one_content i.content name i.writes })

pub value_at_least : (octets : List ℕ) (v : Value) → AreOctets octets → IsValue octets v → IsAtLeast (canon_value v) octets
value_at_least octets (Integer z) fits i = integer_at_least octets z fits i
value_at_least octets (OctetString bytes) fits i = plain tags.octet_string bytes octets fits i
value_at_least octets Null fits i = plain tags.null [] octets fits i
value_at_least octets (ObjectIdentifier n) fits i = name_at_least octets n fits i
value_at_least octets (IpAddress bytes) fits i = plain tags.ip_address bytes octets fits i.1
value_at_least octets (Counter32 n) fits i = unsigned_at_least tags.counter32 4 octets n (omega arith) fits i
value_at_least octets (Gauge32 n) fits i = unsigned_at_least tags.gauge32 4 octets n (omega arith) fits i
value_at_least octets (TimeTicks n) fits i = unsigned_at_least tags.time_ticks 4 octets n (omega arith) fits i
value_at_least octets (Opaque bytes) fits i = plain tags.opaque bytes octets fits i
value_at_least octets (Counter64 n) fits i = unsigned_at_least tags.counter64 8 octets n (omega arith) fits i
value_at_least octets NoSuchObject fits i = plain tags.no_such_object [] octets fits i
value_at_least octets NoSuchInstance fits i = plain tags.no_such_instance [] octets fits i
value_at_least octets EndOfMibView fits i = plain tags.end_of_mib_view [] octets fits i

-- ---- bindings

pub binding_at_least : (octets : List ℕ) (b : Binding) → AreOctets octets → IsBinding octets b → IsAtLeast (canon_binding b) octets
unfolding canon_binding
binding_at_least octets b fits i =
    let inner = octets_split i.name i.value (content_fits tags.sequence (i.name ++ i.value) octets i.framed fits) in
    framed tags.sequence (canon_name_tlv b.name ++ canon_value b.value) (i.name ++ i.value) octets fits i.framed
    (joined (canon_name_tlv b.name) i.name (canon_value b.value) i.value (name_at_least i.name b.name inner.0 i.named) (value_at_least i.value b.value inner.1 i.valued))

pub bindings_at_least : (octets : List ℕ) (bs : List Binding) → AreOctets octets → AreBindings octets bs → IsAtLeast (canon_bindings bs) octets
bindings_at_least octets [] fits i = along [] octets [] i (same [])
bindings_at_least octets (b ∷ bs) fits i =
    let parts = octets_split i.0 i.1 (subst (λ (o : List ℕ). AreOctets o) i.3 fits) in
    along (canon_bindings (b ∷ bs)) octets (i.0 ++ i.1) i.3 (joined (canon_binding b) i.0 (canon_bindings bs) i.1 (binding_at_least i.0 b parts.0 i.2) (bindings_at_least i.1 bs parts.1 i.4))

-- ---- messages

body_at_least : (content : List ℕ) (id first second : ℤ) (bs : List Binding) → AreOctets content → IsBody content id first second bs → IsAtLeast (canon_body id first second bs) content
unfolding canon_body canon_tail
body_at_least content id first second bs fits i =
    let all = subst (λ (o : List ℕ). AreOctets o) i.parts fits in
    let p1 = octets_split i.id_octets (i.first_octets ++ (i.second_octets ++ i.list)) all in
    let p2 = octets_split i.first_octets (i.second_octets ++ i.list) p1.1 in
    let p3 = octets_split i.second_octets i.list p2.1 in
    let inner = bindings_at_least i.bindings bs (content_fits tags.sequence i.bindings i.list i.list_is p3.1) i.each in
    let list = canon_tlv tags.sequence (canon_bindings bs) in
    along (canon_int id ++ (canon_int first ++ (canon_int second ++ list))) content (i.id_octets ++ (i.first_octets ++ (i.second_octets ++ i.list))) i.parts
    (joined (canon_int id) i.id_octets (canon_int first ++ (canon_int second ++ list)) (i.first_octets ++ (i.second_octets ++ i.list)) (integer_at_least i.id_octets id p1.0 i.id_is)
    (joined (canon_int first) i.first_octets (canon_int second ++ list) (i.second_octets ++ i.list) (integer_at_least i.first_octets first p2.0 i.first_is)
    (joined (canon_int second) i.second_octets list i.list (integer_at_least i.second_octets second p3.0 i.second_is)
    (framed tags.sequence (canon_bindings bs) i.bindings i.list p3.1 i.list_is inner))))

message_at_least : (octets community : List ℕ) (tag : ℕ) (body short : List ℕ) → AreOctets octets → IsMessage octets community tag body → (AreOctets body → IsAtLeast short body) → IsAtLeast (canon_message community tag short) octets
unfolding canon_message canon_inside
message_at_least octets community tag body short fits m inner =
    let all = content_fits tags.sequence (m.version ++ (m.name ++ m.pdu)) octets m.framed fits in
    let p1 = octets_split m.version (m.name ++ m.pdu) all in
    let p2 = octets_split m.name m.pdu p1.1 in
    let name = canon_tlv tags.octet_string community in
    let pdu = canon_tlv tag short in
    framed tags.sequence (canon_int (pos 1) ++ (name ++ pdu)) (m.version ++ (m.name ++ m.pdu)) octets fits m.framed
    (joined (canon_int (pos 1)) m.version (name ++ pdu) (m.name ++ m.pdu) (integer_at_least m.version (pos 1) p1.0 m.version_is)
    (joined name m.name pdu m.pdu (plain tags.octet_string community m.name p2.0 m.community_is)
    (framed tag short body m.pdu p2.1 m.pdu_is (inner (content_fits tag body m.pdu m.pdu_is p2.1)))))

pub request_at_least : (octets : List ℕ) (r : Request) → AreOctets octets → IsRequest octets r → IsAtLeast (canon_request r) octets
request_at_least octets r fits i = message_at_least octets r.community (tag_of r.kind) i.body (canon_body r.id r.first r.second r.bindings) fits i.message (λ inner. body_at_least i.body r.id r.first r.second r.bindings inner i.body_is)

pub reply_at_least : (octets : List ℕ) (r : Reply) → AreOctets octets → IsReply octets r → IsAtLeast (canon_reply r) octets
reply_at_least octets r fits i = message_at_least octets r.community tags.response i.body (canon_body r.id (code_of r.status) r.index r.bindings) fits i.message (λ inner. body_at_least i.body r.id (code_of r.status) r.index r.bindings inner i.body_is)
