-- A reply without bindings is short.
use Rattle.std.proofs.Common.{◌≡◌, ℕ, ℤ, pos, ◌+◌, ◌≤◌, ◌<◌, ◌^◌, List, [], ◌++◌, length, ap, arith, inl, inr, w32, of_z}
use Rattle.std.specs.Int.{to_be_bytes}
use Rattle.std.proofs.lemmas.List.{length-append}
use Rattle.ber_core.specs.Encoding.{IsLength, canon_length, canon_tlv, canon_integer}
use Rattle.ber_core.proofs.Canon.{canon_length_encodes, shortest_len}
use Rattle.message_core.specs.Tags as tags
use Rattle.message_core.specs.Status.{code_of}
use Rattle.message_core.specs.declared.limits.TheConstants.{MAX_COMMUNITY, MAX_REPLY}
use Rattle.message_core.specs.declared.reply.Reply.{Reply}
use Rattle.message_core.specs.Canon.{canon_int, canon_tail, canon_body, canon_inside, canon_message, canon_reply}

length_short : (head : List ℕ) (n : ℕ) → IsLength head n → length head ≤ 5
length_short head n (inl short) = omega (arith, ap length short.0)
length_short head n (inr long) = (let few = long.few in omega (arith, ap length long.parts, few))

-- a tag and a length are at most six octets
tlv_short : (tag : ℕ) (content : List ℕ) → length content < 2 ^ 32 → length (canon_tlv tag content) ≤ length content + 6
unfolding canon_tlv
tlv_short tag content fits = omega (arith, length_short (canon_length (length content)) (length content) (canon_length_encodes (length content) fits), length-append (canon_length (length content)) content)

pub integer_few : (z : ℤ) → length (canon_integer z) ≤ 4
unfolding canon_integer
integer_few z =
    let octets = to_be_bytes w32 (of_z w32 z) in
    let len = shortest_len octets (omega arith) in
    omega (arith, len.1)

pub int_short : (z : ℤ) → length (canon_int z) ≤ 10
int_short z = omega (arith, integer_few z, tlv_short tags.integer (canon_integer z) (omega (arith, integer_few z)))

body_short : (id first second : ℤ) → length (canon_body id first second []) ≤ 36
unfolding canon_body canon_tail
body_short id first second =
    let list = canon_tlv tags.sequence [] in
    let l = tlv_short tags.sequence [] (omega arith) in
    omega (arith, l, int_short id, int_short first, int_short second, length-append (canon_int id) (canon_int first ++ (canon_int second ++ list)), length-append (canon_int first) (canon_int second ++ list), length-append (canon_int second) list)

message_short : (community : List ℕ) (tag : ℕ) (body : List ℕ) → length community ≤ MAX_COMMUNITY → length body ≤ 36 → length (canon_message community tag body) ≤ MAX_REPLY
unfolding canon_message canon_inside
message_short community tag body few short =
    let name = canon_tlv tags.octet_string community in
    let pdu = canon_tlv tag body in
    let inside = canon_int (pos 1) ++ (name ++ pdu) in
    let l1 : length name ≤ 261 = omega (arith, few, tlv_short tags.octet_string community (omega (arith, few))) in
    let l2 : length pdu ≤ 42 = omega (arith, short, tlv_short tag body (omega (arith, short))) in
    let l3 : length inside ≤ 313 = omega (arith, l1, l2, int_short (pos 1), length-append (canon_int (pos 1)) (name ++ pdu), length-append name pdu) in
    omega (arith, l3, tlv_short tags.sequence inside (omega (arith, l3)))

pub reply_short : (r : Reply) → length r.community ≤ MAX_COMMUNITY → r.bindings ≡ [] → length (canon_reply r) ≤ MAX_REPLY
reply_short r few none =
    let body : length (canon_body r.id (code_of r.status) r.index r.bindings) ≤ 36 = rw none (body_short r.id (code_of r.status) r.index) in
    message_short r.community tags.response (canon_body r.id (code_of r.status) r.index r.bindings) few body
