-- A request for one name fits into a datagram.
use Rattle.std.proofs.Common.{ℕ, suc, get_or, ◌+◌, ◌*◌, ◌^◌, ◌≤◌, ◌<◌, List, [], ◌∷◌, ◌++◌, length, arith, inl, inr, pos, append-nil}
use Rattle.std.specs.List.{AllByRecursion, flat_map}
use Rattle.std.proofs.lemmas.Bool.{cases_lt}
use Rattle.std.proofs.lemmas.List.{length-append}
use Rattle.oid_core.specs.Name.{HasRoot, canon_coded, canon_name}
use Rattle.message_core.specs.Tags as tags
use Rattle.message_core.specs.Message.{tag_of}
use Rattle.message_core.specs.Canon.{canon_int, canon_name_tlv, canon_value, canon_binding, canon_bindings, canon_request}
use Rattle.message_core.specs.declared.limits.TheConstants.{MAX_COMMUNITY, MAX_REQUEST}
use Rattle.message_core.specs.declared.binding.Binding.{Binding}
use Rattle.message_core.specs.declared.request.Kind.TheVariants.{GetNext}
use Rattle.message_core.specs.declared.value.Value.TheVariants.{Null}
use Rattle.message_core.proofs.Counted.{coded_1, coded_2, coded_3, coded_4, coded_5}
use Rattle.message_core.proofs.Measures.{tlv_size, tlv_size_is, tlv_size_short, tlv_size_middle, tlv_size_long, message_size_is}
use Rattle.message_core.proofs.Short.{int_short}
use Rattle.ber_core.specs.Encoding.{canon_tlv}
use Rattle.manager_core.specs.Walks.{next_request}

tlv_size_most : (n : ℕ) → n < 65536 → tlv_size n ≤ n + 4
tlv_size_most n fits = elim (cases_lt n 256) [
  | inr long ↦ omega (arith, tlv_size_long n long fits)
  | inl few ↦ elim (cases_lt n 128) [ inl short ↦ omega (arith, tlv_size_short n short) | inr middle ↦ omega (arith, tlv_size_middle n middle few) ]
]

-- a coded number has at most five octets
coded_most : (n : ℕ) → n < 2 ^ 35 → length (canon_coded n) ≤ 5
coded_most n fits = elim (cases_lt n (2 ^ 7)) [
  | inl a ↦ omega (arith, coded_1 n a)
  | inr a ↦ elim (cases_lt n (2 ^ 14)) [
    | inl b ↦ omega (arith, coded_2 n a b)
    | inr b ↦ elim (cases_lt n (2 ^ 21)) [
      | inl c ↦ omega (arith, coded_3 n b c)
      | inr c ↦ elim (cases_lt n (2 ^ 28)) [ inl d ↦ omega (arith, coded_4 n c d) | inr d ↦ omega (arith, coded_5 n d fits) ]
    ]
  ]
]

numbers_most : (ns : List ℕ) → AllByRecursion (λ n. n < 2 ^ 32) ns → length (flat_map canon_coded ns) ≤ 5 * length ns
numbers_most [] each = omega arith
numbers_most (n ∷ ns) each =
    omega (arith, coded_most n (omega (arith, each.0)), numbers_most ns each.1, length-append (canon_coded n) (flat_map canon_coded ns))

-- a name of at most 128 sub-identifiers has at most 640 octets
name_most : (name : List ℕ) → HasRoot name → AllByRecursion (λ n. n < 2 ^ 32) name → length name ≤ 128 → length (canon_name name) ≤ 640
unfolding canon_name
name_most [] root each most = absurd root
name_most (a ∷ []) root each most = absurd root
name_most (a ∷ b ∷ name) root each most =
    omega (arith, coded_most (a * 40 + b) (omega (arith, root.0, each.1.0)), numbers_most name each.1.1, length-append (canon_coded (a * 40 + b)) (flat_map canon_coded name), most)

each_from : (ns : List ℕ) → ((i : ℕ) → get_or ns i 0 < 2 ^ 32) → AllByRecursion (λ n. n < 2 ^ 32) ns
each_from [] small = tt
each_from (n ∷ ns) small = (small 0, each_from ns (λ i. small (suc i)))

pub next_fits : (community name : List ℕ) (id : ℕ) → length community ≤ MAX_COMMUNITY → HasRoot name → ((i : ℕ) → get_or name i 0 < 2 ^ 32) → length name ≤ 128 → length (canon_request (next_request community id name)) ≤ MAX_REQUEST
unfolding canon_binding
next_fits community name id few root small most =
    let b : Binding = record { name = name; value = Null } in
    let n0 = name_most name root (each_from name small) most in
    let n1 : length (canon_name_tlv name) ≤ 644 = omega (arith, n0, tlv_size_is tags.object_identifier (canon_name name), tlv_size_most (length (canon_name name)) (omega (arith, n0))) in
    let n2 : length (canon_name_tlv name ++ canon_value Null) ≤ 650 = omega (arith, n1, length-append (canon_name_tlv name) (canon_value Null), tlv_size_is tags.null [], tlv_size_most 0 (omega arith)) in
    let n3 : length (canon_bindings (b ∷ [])) ≤ 654 = rw (append-nil (canon_binding b)) (omega (arith, n2, tlv_size_is tags.sequence (canon_name_tlv name ++ canon_value Null), tlv_size_most (length (canon_name_tlv name ++ canon_value Null)) (omega (arith, n2)))) in
    let c : length (canon_tlv tags.octet_string community) ≤ 259 = omega (arith, few, tlv_size_is tags.octet_string community, tlv_size_most (length community) (omega (arith, few))) in
    let list = length (canon_bindings (b ∷ [])) in
    let inner = length (canon_int (pos id)) + length (canon_int (pos 0)) + length (canon_int (pos 0)) in
    let outer = length (canon_int (pos 1)) + length (canon_tlv tags.octet_string community) in
    let l0 : tlv_size list ≤ 658 = omega (arith, n3, tlv_size_most list (omega (arith, n3))) in
    let i0 : inner ≤ 30 = omega (arith, int_short (pos id), int_short (pos 0)) in
    let o0 : outer ≤ 269 = omega (arith, c, int_short (pos 1)) in
    let l1 : tlv_size (inner + tlv_size list) ≤ 692 = omega (arith, l0, i0, tlv_size_most (inner + tlv_size list) (omega (arith, l0, i0))) in
    let l2 : tlv_size (outer + tlv_size (inner + tlv_size list)) ≤ 965 = omega (arith, l1, o0, tlv_size_most (outer + tlv_size (inner + tlv_size list)) (omega (arith, l1, o0))) in
    omega (arith, l2, message_size_is community (tag_of GetNext) (pos id) (pos 0) (pos 0) (b ∷ []))
