-- How many octets a reply has by those of its bindings.
use Rattle.std.proofs.Common.{◌≡◌, ◌↔◌, ℕ, ℤ, pos, suc, ◌+◌, ◌≤◌, ◌<◌, List, ◌++◌, length, refl, ap, arith, inl, inr}
use Rattle.std.proofs.lemmas.Bool.{lt-ltb, cases_lt}
use Rattle.std.proofs.lemmas.List.{length-append}
use Rattle.ber_core.specs.Encoding.{canon_length, canon_tlv}
use Rattle.ber_core.proofs.Lengths.{canon_1, canon_2}
use Rattle.message_core.specs.Tags as tags
use Rattle.message_core.specs.Canon.{canon_int, canon_bindings, canon_tail, canon_body, canon_inside, canon_message, canon_reply, answer_to}
use Rattle.message_core.specs.Status.{code_of}
use Rattle.message_core.specs.declared.limits.TheConstants.{MAX_REPLY}
use Rattle.message_core.specs.declared.binding.Binding.{Binding}
use Rattle.message_core.specs.declared.request.Request.{Request}
use Rattle.message_core.specs.declared.status.ErrorStatus.TheVariants.{NoError}

-- the octets of a tag, a length and so many octets of content
abbrev pub tlv_size : ℕ → ℕ
tlv_size n = suc (length (canon_length n) + n)

pub tlv_size_is : (tag : ℕ) (content : List ℕ) → length (canon_tlv tag content) ≡ tlv_size (length content)
unfolding canon_tlv
tlv_size_is tag content = ap suc (length-append (canon_length (length content)) content)

pub tlv_size_short : (n : ℕ) → n < 128 → tlv_size n ≡ n + 2
tlv_size_short n few = let one : length (canon_length n) ≡ 1 = rw (lt-ltb _ _ few) refl in omega (arith, one)

pub tlv_size_middle : (n : ℕ) → 128 ≤ n → n < 256 → tlv_size n ≡ n + 3
tlv_size_middle n some few = let two : length (canon_length n) ≡ 2 = ap length (canon_1 n some few) in omega (arith, two)

pub tlv_size_long : (n : ℕ) → 256 ≤ n → n < 65536 → tlv_size n ≡ n + 4
tlv_size_long n some few = let three : length (canon_length n) ≡ 3 = ap length (canon_2 n some few) in omega (arith, three)

-- short contents under a tag
pub short_tlv : (tag : ℕ) (content : List ℕ) → length content < 128 → length (canon_tlv tag content) ≡ length content + 2
short_tlv tag content few = omega (arith, tlv_size_is tag content, tlv_size_short (length content) few)

pub middle_tlv : (tag : ℕ) (content : List ℕ) → 128 ≤ length content → length content < 256 → length (canon_tlv tag content) ≡ length content + 3
middle_tlv tag content some few = omega (arith, tlv_size_is tag content, tlv_size_middle (length content) some few)

tlv_size_most : (n : ℕ) → n < 65536 → tlv_size n ≤ n + 4
tlv_size_most n fits = elim (cases_lt n 256) [
  | inr long ↦ omega (arith, tlv_size_long n long fits)
  | inl few ↦ elim (cases_lt n 128) [ inl short ↦ omega (arith, tlv_size_short n short) | inr middle ↦ omega (arith, tlv_size_middle n middle few) ]
]

-- the octets of a message by those of its parts: all before the bindings, those before the PDU, and the bindings
abbrev pub message_size : ℕ → ℕ → ℕ → ℕ
message_size outer inner bindings = tlv_size (outer + tlv_size (inner + tlv_size bindings))

pub message_size_is : (community : List ℕ) (tag : ℕ) (id first second : ℤ) (bs : List Binding) →
    length (canon_message community tag (canon_body id first second bs))
    ≡ message_size (length (canon_int (pos 1)) + length (canon_tlv tags.octet_string community)) (length (canon_int id) + length (canon_int first) + length (canon_int second)) (length (canon_bindings bs))
unfolding canon_message canon_inside canon_body canon_tail
message_size_is community tag id first second bs =
    let list = canon_tlv tags.sequence (canon_bindings bs) in
    let body = canon_int id ++ (canon_int first ++ (canon_int second ++ list)) in
    let name = canon_tlv tags.octet_string community in
    let inside = canon_int (pos 1) ++ (name ++ canon_tlv tag body) in
    let l0 : length list ≡ tlv_size (length (canon_bindings bs)) = tlv_size_is tags.sequence (canon_bindings bs) in
    let l1 : length body ≡ length (canon_int id) + length (canon_int first) + length (canon_int second) + tlv_size (length (canon_bindings bs)) =
    omega (arith, l0, length-append (canon_int id) (canon_int first ++ (canon_int second ++ list)), length-append (canon_int first) (canon_int second ++ list), length-append (canon_int second) list) in
    let l2 : length (canon_tlv tag body) ≡ tlv_size (length body) = tlv_size_is tag body in
    let l3 : length inside ≡ length (canon_int (pos 1)) + length name + tlv_size (length body) = omega (arith, l2, length-append (canon_int (pos 1)) (name ++ canon_tlv tag body), length-append name (canon_tlv tag body)) in
    rw (tlv_size_is tags.sequence inside, l3, l1) refl

-- bindings of so many octets fit beside the rest
pub size_fits : (outer inner n : ℕ) → outer + inner ≤ 300 → n + (outer + inner) ≤ 1460 → message_size outer inner n ≤ MAX_REPLY
size_fits outer inner n few fits =
    let a : tlv_size n ≤ n + 4 = tlv_size_most n (omega (arith, fits)) in
    let b : tlv_size (inner + tlv_size n) ≤ inner + tlv_size n + 4 = tlv_size_most (inner + tlv_size n) (omega (arith, fits, a)) in
    let c : message_size outer inner n ≤ outer + tlv_size (inner + tlv_size n) + 4 = tlv_size_most (outer + tlv_size (inner + tlv_size n)) (omega (arith, fits, a, b)) in
    omega (arith, a, b, c, fits)

-- a tag and a length take two octets or more, and four where the content has 256 octets or more
tlv_size_ge : (n : ℕ) → n ≤ tlv_size n
tlv_size_ge n = omega arith

tlv_size_least : (n : ℕ) → 256 ≤ n → tlv_size n ≤ MAX_REPLY → n + 4 ≤ tlv_size n
tlv_size_least n some fits = omega (arith, tlv_size_long n some (omega (arith, tlv_size_ge n, fits)))

-- what fits has no more octets
pub fits_size : (outer inner n : ℕ) → outer + inner ≤ 300 → message_size outer inner n ≤ MAX_REPLY → n + (outer + inner) ≤ 1460
fits_size outer inner n few fits = elim (cases_lt 1460 (n + (outer + inner))) [
  | inr within ↦ within
  | inl past ↦
      let x : ℕ = tlv_size n in
      let y : ℕ = tlv_size (inner + x) in
      let ny : outer + y ≤ tlv_size (outer + y) = tlv_size_ge (outer + y) in
      let nx : inner + x ≤ y = tlv_size_ge (inner + x) in
      let a : n + 4 ≤ x = tlv_size_least n (omega (arith, past, few)) (omega (arith, nx, ny, fits)) in
      let b : inner + x + 4 ≤ y = tlv_size_least (inner + x) (omega (arith, past, few, a)) (omega (arith, ny, fits)) in
      let c : outer + y + 4 ≤ tlv_size (outer + y) = tlv_size_least (outer + y) (omega (arith, past, few, a, b)) fits in
      absurd (omega (arith, a, b, c, past, fits))
]

-- the bindings have so many octets as the longest reply leaves them
pub space_decides : (request : Request) (bs : List Binding) (version community id status index space : ℕ) →
    version ≡ length (canon_int (pos 1)) → community ≡ length (canon_tlv tags.octet_string request.community) → id ≡ length (canon_int request.id) → status ≡ length (canon_int (code_of NoError)) → index ≡ length (canon_int (pos 0)) →
    version + community + id + status + index ≤ 300 → space + (version + community + id + status + index) ≡ 1460 →
    (length (canon_bindings bs) ≤ space) ↔ (length (canon_reply (answer_to request NoError (pos 0) bs)) ≤ MAX_REPLY)
space_decides request bs version community id status index space v c i s x few sum =
    let outer : ℕ = length (canon_int (pos 1)) + length (canon_tlv tags.octet_string request.community) in
    let inner : ℕ = length (canon_int request.id) + length (canon_int (code_of NoError)) + length (canon_int (pos 0)) in
    let n : ℕ = length (canon_bindings bs) in
    let size : length (canon_reply (answer_to request NoError (pos 0) bs)) ≡ message_size outer inner n = message_size_is request.community tags.response request.id (code_of NoError) (pos 0) bs in
    let parts : outer + inner ≡ version + community + id + status + index = omega (arith, v, c, i, s, x) in (
      (λ h. let fits : message_size outer inner n ≤ MAX_REPLY = size_fits outer inner n (omega (arith, parts, few)) (omega (arith, parts, sum, h)) in omega (arith, size, fits)),
      (λ h. let within : n + (outer + inner) ≤ 1460 = fits_size outer inner n (omega (arith, parts, few)) (omega (arith, size, h)) in omega (arith, parts, sum, within)),
    )
