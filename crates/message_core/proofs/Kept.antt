-- Bindings that are kept in their shortest encoding.
use Rattle.std.proofs.Common.{◌≡◌, ℕ, ◌<◌, ◌≤◌, ◌^◌, ◌-◌, List, [], ◌∷◌, ◌++◌, Option, None, Some, MatchOption, false, nat_le, length, take, drop, length-drop, sym, ap, subst, ◌∙◌, append_assoc, arith, rules, ◌+◌}
use Rattle.std.proofs.lemmas.List.{length-append, take-append-le, length-take, length-take-le}
use Rattle.std.proofs.Math.Seq.{take-append-add}
use borrow.Rule.Slice.PartMut.{put_mid, post_of}
use Rattle.std.specs.List.{AllByRecursion}
use Rattle.message_core.specs.declared.binding.Binding.{Binding}
use Rattle.message_core.specs.declared.limits.TheConstants.{MAX_REPLY}
use Rattle.message_core.specs.Canon.{canon_binding, canon_bindings}
use Rattle.message_core.specs.Encodable.{HasEncoding, AreEncodable}
use Rattle.message_core.specs.Encoded.{or_none, bindings_in, AreShortest}
use Rattle.message_core.proofs.Readers.{bindings_only}
use Rattle.message_core.proofs.RoundTrip.{bindings_encode}

-- the shortest encoding of bindings is read as them
in_shortest : (bs : List Binding) → AllByRecursion HasEncoding bs → length (canon_bindings bs) < 2 ^ 32 → bindings_in (canon_bindings bs) ≡ bs
unfolding bindings_in
in_shortest bs s len =
    let same : length (canon_bindings bs) ≤ length (canon_bindings bs) = omega arith in
    ap or_none (bindings_only (length (canon_bindings bs)) (canon_bindings bs) bs (bindings_encode bs s len) same)

pub shortest_of : (octets : List ℕ) (bs : List Binding) → AllByRecursion HasEncoding bs → length octets < 2 ^ 32 → octets ≡ canon_bindings bs → AreShortest octets
shortest_of octets bs s len e =
    let read : bindings_in octets ≡ bs = ap bindings_in e ∙ in_shortest bs s (rw (sym e) len) in
    record { each = rw read s; shortest = e ∙ ap canon_bindings (sym read) }

pub read_of : (octets : List ℕ) (bs : List Binding) → AllByRecursion HasEncoding bs → length octets < 2 ^ 32 → octets ≡ canon_bindings bs → bindings_in octets ≡ bs
read_of octets bs s len e = ap bindings_in e ∙ in_shortest bs s (rw (sym e) len)

pub all_encodable : (bs : List Binding) → AllByRecursion HasEncoding bs → AreEncodable bs
all_encodable [] s = tt
all_encodable (b ∷ bs) s = (s.0.encodable, all_encodable bs s.1)

all_push : (bs : List Binding) (b : Binding) → AllByRecursion HasEncoding bs → HasEncoding b → AllByRecursion HasEncoding (bs ++ b ∷ [])
all_push [] b s h = (h, tt)
all_push (x ∷ bs) b s h = (s.0, all_push bs b s.1 h)

canon_push : (bs : List Binding) (b : Binding) → canon_bindings (bs ++ b ∷ []) ≡ canon_bindings bs ++ canon_binding b
canon_push [] b = search rules
canon_push (x ∷ bs) b = ap (λ o. canon_binding x ++ o) (canon_push bs b) ∙ sym (append_assoc (canon_binding x) (canon_bindings bs) (canon_binding b))

-- the front of a list in whose middle something was written, as far as the front of that goes
front_put : (a k n : ℕ) (xs ys : List ℕ) → n ≤ length ys → a ≤ length xs → take (a + n) (put_mid a k xs ys) ≡ take a xs ++ take n ys
front_put a k n xs ys few within =
    let len : length (take a xs) ≡ a = length-take-le a xs within in
    subst (λ (m : ℕ). take (m + n) (put_mid a k xs ys) ≡ take a xs ++ take n (ys ++ post_of a k xs)) len (take-append-add (take a xs) (ys ++ post_of a k xs) n)
    ∙ ap (λ (o : List ℕ). take a xs ++ o) (take-append-le n ys (post_of a k xs) few)

pub longer : (bs : List Binding) (b : Binding) (most : ℕ) → most < length (canon_bindings bs) + length (canon_binding b)
    → false ≡ nat_le (length (canon_bindings (bs ++ b ∷ []))) most
longer bs b most h =
    let long : most < length (canon_bindings (bs ++ b ∷ [])) = omega (arith, h, ap (λ (o : List ℕ). length o) (canon_push bs b), length-append (canon_bindings bs) (canon_binding b)) in
    grind (arith, long)

-- how many octets the bindings that are kept have
pub length_kept : (a : ℕ) (xs : List ℕ) → a ≤ length xs → AreShortest (take a xs) → length (canon_bindings (bindings_in (take a xs))) ≡ a
length_kept a xs within s = sym (ap (λ (o : List ℕ). length o) s.shortest) ∙ length-take-le a xs within

-- the octets of one binding more, behind those of the bindings that are kept
more_octets : (a n : ℕ) (xs ys : List ℕ) (b : Binding) → AreShortest (take a xs) → take (a + n) ys ≡ take a xs ++ canon_binding b
    → take (a + n) ys ≡ canon_bindings (bindings_in (take a xs) ++ b ∷ [])
more_octets a n xs ys b s e =
    e ∙ ap (λ (o : List ℕ). o ++ canon_binding b) s.shortest ∙ sym (canon_push (bindings_in (take a xs)) b)

short : (a n : ℕ) (xs : List ℕ) → a + n ≤ MAX_REPLY → length (take (a + n) xs) < 2 ^ 32
short a n xs most = omega (arith, most, length-take (a + n) xs)

pub more_kept : (a n : ℕ) (xs ys : List ℕ) (b : Binding) → a + n ≤ MAX_REPLY → AreShortest (take a xs) → HasEncoding b → take (a + n) ys ≡ take a xs ++ canon_binding b
    → AreShortest (take (a + n) ys)
more_kept a n xs ys b most s h e =
    shortest_of (take (a + n) ys) (bindings_in (take a xs) ++ b ∷ []) (all_push (bindings_in (take a xs)) b s.each h)
    (short a n ys most) (more_octets a n xs ys b s e)

pub more_read : (a n : ℕ) (xs ys : List ℕ) (b : Binding) → a + n ≤ MAX_REPLY → AreShortest (take a xs) → HasEncoding b → take (a + n) ys ≡ take a xs ++ canon_binding b
    → bindings_in (take (a + n) ys) ≡ bindings_in (take a xs) ++ b ∷ []
more_read a n xs ys b most s h e =
    read_of (take (a + n) ys) (bindings_in (take a xs) ++ b ∷ []) (all_push (bindings_in (take a xs)) b s.each h)
    (short a n ys most) (more_octets a n xs ys b s e)

-- what was written to the front of a slice of an array, as what stands behind the octets ahead of the slice
pub behind : (result : Option ℕ) (a most : ℕ) (xs ys more : List ℕ) → a ≤ most → most ≤ length xs → length ys ≡ length (take (most - a) (drop a xs))
    → MatchOption result (length (take (most - a) (drop a xs)) < length more) (λ n. (n ≡ length more) × (n ≤ length (take (most - a) (drop a xs))) × (take n ys ≡ more))
    → MatchOption result (most < a + length more) (λ n. (n ≡ length more) × (a + n ≤ most) × (take (a + n) (put_mid a (most - a) xs ys) ≡ take a xs ++ more))
behind None a most xs ys more within few same s = omega (arith, within, few, s, length-take (most - a) (drop a xs), length-drop a xs)
behind (Some n) a most xs ys more within few same s =
    let front : n ≤ length ys = omega (arith, same, s.1) in
    let ahead : a ≤ length xs = omega (arith, within, few) in (
      s.0,
      omega (arith, s.1, within, few, length-take (most - a) (drop a xs), length-drop a xs),
      front_put a (most - a) n xs ys front ahead ∙ ap (λ (o : List ℕ). take a xs ++ o) s.2,
    )
