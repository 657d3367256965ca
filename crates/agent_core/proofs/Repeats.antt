-- Repetitions are successors.
use Rattle.std.proofs.Common.{◌≡◌, ℕ, zero, suc, ◌+◌, ◌*◌, ◌<◌, ◌∙◌, sym, ap, refl, Bool, true, false, cond, List, [], ◌∷◌, ◌++◌, length, Some, arith, length-append}
use Rattle.std.specs.List.{slice_get}
use Rattle.std.proofs.Math.Nat.{suc-mul}
use Rattle.message_core.specs.Instances.{names_of}
use Rattle.message_core.specs.declared.binding.Binding.{Binding}
use Rattle.agent_core.specs.Reading.{next_answer, next_answers}
use Rattle.agent_core.specs.Bulk.{all_end, repetitions, successor, repetition, IsRepeated}

at_front : (xs ys : List Binding) (i : ℕ) (x : Binding) → slice_get xs i ≡ Some x → slice_get (xs ++ ys) i ≡ Some x
at_front [] ys i x e = absurd (cc)
at_front (y ∷ xs) ys zero x e = e
at_front (y ∷ xs) ys (suc i) x e = at_front xs ys i x e

at_rest : (xs ys : List Binding) (i j : ℕ) → j ≡ length xs + i → slice_get (xs ++ ys) j ≡ slice_get ys i
at_rest [] ys i j e = ap (slice_get ys) (let k : j ≡ i = omega (arith, e) in k)
at_rest (x ∷ xs) ys i zero e = absurd (omega (arith, e))
at_rest (x ∷ xs) ys i (suc j) e = at_rest xs ys i j (omega (arith, e))

size_next : (rows : List Binding) (names : List (List ℕ)) → length (names_of (next_answers rows names)) ≡ length names
size_next rows [] = refl
size_next rows (n ∷ ns) = ap suc (size_next rows ns)

size_once : (rows : List Binding) (names : List (List ℕ)) → length (next_answers rows names) ≡ length names
size_once rows [] = refl
size_once rows (n ∷ ns) = ap suc (size_once rows ns)

name_next : (rows : List Binding) (names : List (List ℕ)) (c : ℕ) (name : List ℕ) → slice_get names c ≡ Some name → slice_get (names_of (next_answers rows names)) c ≡ Some (next_answer rows name).name
name_next rows [] c name e = absurd (cc)
name_next rows (n ∷ ns) zero name e = let same : n ≡ name = cc in ap (λ m. Some (next_answer rows m).name) same
name_next rows (n ∷ ns) (suc c) name e = name_next rows ns c name e

answer_at : (rows : List Binding) (names : List (List ℕ)) (c : ℕ) (name : List ℕ) → slice_get names c ≡ Some name → slice_get (next_answers rows names) c ≡ Some (next_answer rows name)
answer_at rows [] c name e = absurd (cc)
answer_at rows (n ∷ ns) zero name e = let same : n ≡ name = cc in ap (λ m. Some (next_answer rows m)) same
answer_at rows (n ∷ ns) (suc c) name e = answer_at rows ns c name e

-- a repetition of the next names is the next repetition
later : (rows : List Binding) (r : ℕ) (names : List (List ℕ)) → repetition rows (suc r) names ≡ repetition rows r (names_of (next_answers rows names))
later rows r [] = refl
later rows r (n ∷ ns) = ap (λ bs. successor rows r (next_answer rows n).name ∷ bs) (later rows r ns)

place : (r size c : ℕ) → suc r * size + c ≡ size + (r * size + c)
place r size c = let e : suc r * size ≡ r * size + size = suc-mul r size in omega (arith, e)

nothing : (rows : List Binding) (names : List (List ℕ)) → IsRepeated rows names 0 0 []
nothing rows names = record {
  within = omega arith;
  size = omega arith;
  each = λ r c name h at. absurd (omega (arith, h));
  going = λ r h. absurd (omega (arith, h));
  ended = λ h. absurd (omega (arith, h));
}

once : (rows : List Binding) (names : List (List ℕ)) (most : ℕ) → all_end (next_answers rows names) ≡ true → IsRepeated rows names (suc most) 1 (next_answers rows names)
once rows names most end = record {
  within = omega arith;
  size = omega (arith, size_once rows names);
  each = λ r c name h at. at_once r c name h at;
  going = λ r h. absurd (omega (arith, h));
  ended = λ h. (0, refl, end);
}
  where
    at_once : (r c : ℕ) (name : List ℕ) → r < 1 → slice_get names c ≡ Some name → slice_get (next_answers rows names) (r * length names + c) ≡ Some (successor rows r name)
    at_once zero c name h at = let i : 0 * length names + c ≡ c = omega arith in ap (slice_get (next_answers rows names)) i ∙ answer_at rows names c name at
    at_once (suc r) c name h at = absurd (omega (arith, h))

further : (rows : List Binding) (names : List (List ℕ)) (most count : ℕ) (list : List Binding) → all_end (next_answers rows names) ≡ false →
    IsRepeated rows (names_of (next_answers rows names)) most count list → IsRepeated rows names (suc most) (suc count) (next_answers rows names ++ list)
further rows names most count list more rest = record {
  within = omega (arith, rest.within);
  size =
      let len : length (next_answers rows names ++ list) ≡ length (next_answers rows names) + length list = length-append (next_answers rows names) list in
      let behind : length list ≡ count * length names = rest.size ∙ ap (λ n. count * n) (size_next rows names) in
      let all : suc count * length names ≡ count * length names + length names = suc-mul count (length names) in
      omega (arith, len, behind, all, size_once rows names);
  each = at_each;
  going = going_at;
  ended = λ h.
      let e = rest.ended (omega (arith, h)) in
      (suc e.0, ap suc e.1, ap all_end (later rows e.0 names) ∙ e.2);
}
  where
    at_each : (r c : ℕ) (name : List ℕ) → r < suc count → slice_get names c ≡ Some name → slice_get (next_answers rows names ++ list) (r * length names + c) ≡ Some (successor rows r name)
    at_each zero c name h at =
        let i : 0 * length names + c ≡ c = omega arith in
        ap (slice_get (next_answers rows names ++ list)) i ∙ at_front (next_answers rows names) list c (next_answer rows name) (answer_at rows names c name at)
    at_each (suc r) c name h at =
        let size : length (names_of (next_answers rows names)) ≡ length names = size_next rows names in
        at_rest (next_answers rows names) list (r * length names + c) (suc r * length names + c) (place r (length names) c ∙ ap (λ n. n + (r * length names + c)) (sym (size_once rows names)))
        ∙ ap (λ n. slice_get list (r * n + c)) (sym size)
        ∙ rest.each r c (next_answer rows name).name (omega (arith, h)) (name_next rows names c name at)

    going_at : (r : ℕ) → suc r < suc count → all_end (repetition rows r names) ≡ false
    going_at zero h = more
    going_at (suc r) h = ap all_end (later rows r names) ∙ rest.going r (omega (arith, h))

pub repeats : (rows : List Binding) (names : List (List ℕ)) (most : ℕ) → (count : ℕ) × IsRepeated rows names most count (repetitions rows most names)
unfolding repetitions
repeats rows names zero = (0, nothing rows names)
repeats rows names (suc most) = split (all_end (next_answers rows names)) refl (repeats rows (names_of (next_answers rows names)) most)
  where
    split : (b : Bool) → all_end (next_answers rows names) ≡ b → ((count : ℕ) × IsRepeated rows (names_of (next_answers rows names)) most count (repetitions rows most (names_of (next_answers rows names)))) →
        (count : ℕ) × IsRepeated rows names (suc most) count (cond b (next_answers rows names) (next_answers rows names ++ repetitions rows most (names_of (next_answers rows names))))
    split true e rest = (1, once rows names most e)
    split false e rest = (suc rest.0, further rows names most rest.0 (repetitions rows most (names_of (next_answers rows names))) e rest.1)
