-- How few octets a binding has, and a reply beside its bindings.
use Rattle.std.proofs.Common.{ℕ, ℤ, ◌+◌, ◌*◌, ◌/◌, ◌%◌, ◌≤◌, ◌<◌, List, [], ◌∷◌, ◌++◌, map, ap, length, arith, inl, inr}
use Rattle.std.specs.List.{flat_map}
use Rattle.std.specs.Int.Digits.{digits_of}
use Rattle.std.proofs.lemmas.List.Concat.{flat_map-cons}
use Rattle.std.proofs.lemmas.Bool.{lt-ltb, le-ltb, cases_lt}
use Rattle.std.proofs.lemmas.List.{length-append}
use Rattle.ber_core.specs.Encoding.{canon_length, canon_tlv}
use Rattle.oid_core.specs.Name.{HasRoot, canon_coded, canon_name}
use Rattle.message_core.specs.Tags as tags
use Rattle.message_core.specs.Status.{code_of}
use Rattle.message_core.specs.Canon.{canon_int, canon_name_tlv, canon_value, canon_binding, canon_bindings, canon_tail, canon_body, canon_reply}
use Rattle.message_core.specs.declared.binding.Binding.{Binding}
use Rattle.message_core.specs.declared.reply.Reply.{Reply}
use Rattle.message_core.specs.declared.value.Value.{Value}
use Rattle.message_core.specs.declared.value.Value.TheVariants.{Integer, OctetString, Null, ObjectIdentifier, IpAddress, Counter32, Gauge32, TimeTicks, Opaque, Counter64, NoSuchObject, NoSuchInstance, EndOfMibView}
use Rattle.message_core.proofs.RoundTrip.{inside_len}

-- a tag and a length are two octets or more
length_some : (n : ℕ) → 1 ≤ length (canon_length n)
length_some n = elim (cases_lt n 128) [
  | inl short ↦ rw (lt-ltb _ _ short) (omega arith)
  | inr long ↦ rw (le-ltb _ _ long) (omega arith)
]

tlv_space : (tag : ℕ) (content : List ℕ) → length content + 2 ≤ length (canon_tlv tag content)
unfolding canon_tlv
tlv_space tag content = omega (arith, length_some (length content), length-append (canon_length (length content)) content)

tlv_some : (tag : ℕ) (content : List ℕ) → 2 ≤ length (canon_tlv tag content)
tlv_some tag content = omega (arith, tlv_space tag content)

value_some : (v : Value) → 2 ≤ length (canon_value v)
value_some (Integer z) = tlv_some _ _
value_some (OctetString bytes) = tlv_some _ _
value_some Null = tlv_some _ _
value_some (ObjectIdentifier name) = tlv_some _ _
value_some (IpAddress bytes) = tlv_some _ _
value_some (Counter32 n) = tlv_some _ _
value_some (Gauge32 n) = tlv_some _ _
value_some (TimeTicks n) = tlv_some _ _
value_some (Opaque bytes) = tlv_some _ _
value_some (Counter64 n) = tlv_some _ _
value_some NoSuchObject = tlv_some _ _
value_some NoSuchInstance = tlv_some _ _
value_some EndOfMibView = tlv_some _ _

pub binding_some : (b : Binding) → 6 ≤ length (canon_binding b)
unfolding canon_binding
binding_some b =
    omega (arith, value_some b.value, tlv_some tags.object_identifier (canon_name b.name), tlv_space tags.sequence (canon_name_tlv b.name ++ canon_value b.value), length-append (canon_name_tlv b.name) (canon_value b.value))

coded_some : (n : ℕ) → 1 ≤ length (canon_coded n)
unfolding canon_coded
coded_some n = omega (arith, length-append (map (λ d. 128 + d) (digits_of 128 (n / 128))) (n % 128 ∷ []))

numbers_some : (ns : List ℕ) → length ns ≤ length (flat_map canon_coded ns)
numbers_some [] = omega arith
numbers_some (n ∷ ns) = omega (arith, numbers_some ns, coded_some n, ap length (flat_map-cons canon_coded n ns), length-append (canon_coded n) (flat_map canon_coded ns))

-- each number of a name has an octet or more, but that the first two are coded as one
name_some : (name : List ℕ) → HasRoot name → length name ≤ length (canon_name name) + 1
unfolding canon_name
name_some [] root = absurd root
name_some (a ∷ []) root = absurd root
name_some (a ∷ b ∷ rest) root = omega (arith, numbers_some ((a * 40 + b) ∷ rest))

pub binding_more : (b : Binding) → HasRoot b.name → length b.name ≤ length (canon_binding b)
unfolding canon_binding
binding_more b root =
    omega (arith, value_some b.value, name_some b.name root, tlv_space tags.object_identifier (canon_name b.name), tlv_space tags.sequence (canon_name_tlv b.name ++ canon_value b.value), length-append (canon_name_tlv b.name) (canon_value b.value))

body_some : (id first second : ℤ) (bs : List Binding) → length (canon_bindings bs) ≤ length (canon_body id first second bs)
unfolding canon_body canon_tail
body_some id first second bs =
    let list = canon_tlv tags.sequence (canon_bindings bs) in
    omega (arith, tlv_space tags.sequence (canon_bindings bs), length-append (canon_int id) (canon_int first ++ (canon_int second ++ list)), length-append (canon_int first) (canon_int second ++ list), length-append (canon_int second) list)

pub reply_some : (r : Reply) → length (canon_bindings r.bindings) ≤ length (canon_reply r)
reply_some r =
    let body = canon_body r.id (code_of r.status) r.index r.bindings in
    let inside : length body < length (canon_reply r) = (inside_len r.community tags.response body).1 in
    omega (arith, inside, body_some r.id (code_of r.status) r.index r.bindings)
