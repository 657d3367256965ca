-- Repetitions, and as much of them as there is space for.
use Rattle.std.proofs.Common.{◌≡◌, ℕ, zero, suc, ◌+◌, ◌-◌, ◌<◌, ◌≤◌, ◌∙◌, sym, ap, subst, refl, Bool, true, false, List, [], ◌∷◌, ◌++◌, length, take, drop, get_or, arith, drop-cons, append_assoc, append-nil, length-append, length-drop}
use Rattle.std.specs.Prelude.{Result, Ok, Err, OnOk}
use Rattle.std.specs.List.{AllByRecursion}
use Rattle.std.proofs.lemmas.List.{take_more, map-append, length-map, length-take, take-append-drop}
use Rattle.std.proofs.lemmas.List.{append-nil}
use Rattle.std.proofs.lemmas.List.Concat.{flat_map-cons}
use Rattle.std.proofs.lemmas.Grind.{flat_map-append}
use Rattle.std.proofs.Math.Seq.{drop-append_seam}
use Rattle.oid_core.specs.Name.{HasRoot}
use Rattle.message_core.specs.Canon.{canon_binding}
use Rattle.message_core.specs.Encodable.{AreEncodable}
use Rattle.message_core.specs.declared.binding.Binding.{Binding}
use Rattle.message_core.specs.Instances.{names_of}
use Rattle.agent_core.specs.Reading.{next_answer, next_answers}
use Rattle.agent_core.specs.Bulk.{all_end, repetitions, further, bulk_list}
use Rattle.agent_core.specs.Fitting.{total, fit_into, IsFilled}

pub total-append : (xs ys : List Binding) → total (xs ++ ys) ≡ total xs + total ys
total-append xs ys = ap length (flat_map-append canon_binding xs ys) ∙ length-append _ _

pub total_one : (b : Binding) → total (b ∷ []) ≡ length (canon_binding b)
total_one b = ap length (flat_map-cons canon_binding b [] ∙ append-nil (canon_binding b))

-- each of a list
pub all_at : {X : Type 0} (P : X → Type 0) (xs : List X) (i : ℕ) (d : X) → AllByRecursion P xs → i < length xs → P (get_or xs i d)
all_at P [] i d h within = absurd (omega (arith, within))
all_at P (x ∷ xs) zero d h within = h.0
all_at P (x ∷ xs) (suc i) d h within = all_at P xs i d h.1 (omega (arith, within))

pub all_drop : {X : Type 0} (P : X → Type 0) (xs : List X) (n : ℕ) → AllByRecursion P xs → AllByRecursion P (drop n xs)
all_drop P xs zero h = h
all_drop P [] (suc n) h = tt
all_drop P (x ∷ xs) (suc n) h = all_drop P xs n h.1

pub all_take : {X : Type 0} (P : X → Type 0) (xs : List X) (n : ℕ) → AllByRecursion P xs → AllByRecursion P (take n xs)
all_take P xs zero h = tt
all_take P [] (suc n) h = tt
all_take P (x ∷ xs) (suc n) h = (h.0, all_take P xs n h.1)

pub all_append : {X : Type 0} (P : X → Type 0) (xs ys : List X) → AllByRecursion P xs → AllByRecursion P ys → AllByRecursion P (xs ++ ys)
all_append P [] ys h k = k
all_append P (x ∷ xs) ys h k = (h.0, all_append P xs ys h.1 k)

-- the names of bindings that can be encoded
pub rooted : (bs : List Binding) → AreEncodable bs → AllByRecursion HasRoot (names_of bs)
rooted [] h = tt
rooted (b ∷ bs) h = (h.0.name, rooted bs h.1)

pub names-take : (n : ℕ) (bs : List Binding) → take n (names_of bs) ≡ names_of (take n bs)
names-take zero bs = refl
names-take (suc n) [] = refl
names-take (suc n) (b ∷ bs) = ap (λ ns. b.name ∷ ns) (names-take n bs)

pub names-drop : (n : ℕ) (bs : List Binding) → drop n (names_of bs) ≡ names_of (drop n bs)
names-drop zero bs = refl
names-drop (suc n) [] = refl
names-drop (suc n) (b ∷ bs) = names-drop n bs

-- the whole list is sent
pub filled_whole : (space : ℕ) (all sent : List Binding) → sent ≡ all → IsFilled space all sent
filled_whole space all sent e = record { rest = []; front = append-nil sent ∙ e; full = λ next more k. absurd (cc) }

pub filled_at : (space other : ℕ) (all whole sent : List Binding) → space ≡ other → all ≡ whole → IsFilled space all sent → IsFilled other whole sent
filled_at space other all whole sent e k h = subst (λ r. IsFilled r whole sent) e (subst (λ a. IsFilled space a sent) k h)

pub filled_ok : {A E : Type 0} (result : Result A E) (space other : ℕ) (all whole sent : List Binding) → space ≡ other → all ≡ whole → OnOk result (IsFilled space all sent) → OnOk result (IsFilled other whole sent)
filled_ok (Ok x) space other all whole sent e k h = filled_at space other all whole sent e k h
filled_ok (Err x) space other all whole sent e k h = h

-- the next binding does not fit
pub once_cut : (rows : List Binding) (names : List (List ℕ)) (i : ℕ) (name : List ℕ) (space : ℕ) (old now new more : List Binding) → i < length names → name ≡ get_or names i name →
    now ≡ old ++ next_answers rows (take i names) → new ≡ now → fit_into space (now ++ next_answer rows name ∷ []) ≡ false →
    IsFilled space (old ++ (next_answers rows names ++ more)) new
once_cut rows names i name space old now new more h at so same full =
    let b : Binding = next_answer rows name in
    let behind : List Binding = next_answers rows (drop (suc i) names) ++ more in
    let split : next_answers rows names ≡ next_answers rows (take i names) ++ (b ∷ next_answers rows (drop (suc i) names)) =
    ap (next_answers rows) (sym (take-append-drop i names)) ∙ map-append (next_answer rows) (take i names) (drop i names)
    ∙ ap (λ ns. next_answers rows (take i names) ++ next_answers rows ns) (drop-cons names i name h)
    ∙ ap (λ n. next_answers rows (take i names) ++ (next_answer rows n ∷ next_answers rows (drop (suc i) names))) (sym at) in
    record {
      rest = b ∷ behind;
      front = ap (λ z. z ++ (b ∷ behind)) (same ∙ so) ∙ append_assoc old (next_answers rows (take i names)) (b ∷ behind)
          ∙ ap (λ z. old ++ z) (sym (append_assoc (next_answers rows (take i names)) (b ∷ next_answers rows (drop (suc i) names)) more))
          ∙ ap (λ z. old ++ (z ++ more)) (sym split);
      full = λ next rest e.
          let is : next ≡ b = cc in
          ap (λ z. fit_into space (z ++ next ∷ [])) same ∙ ap (λ z. fit_into space (now ++ z ∷ [])) is ∙ full;
    }

-- the next binding is sent
pub once_more : (rows : List Binding) (names : List (List ℕ)) (i : ℕ) (name : List ℕ) (old now new : List Binding) → i < length names → name ≡ get_or names i name →
    now ≡ old ++ next_answers rows (take i names) → new ≡ now ++ next_answer rows name ∷ [] → new ≡ old ++ next_answers rows (take (i + 1) names)
once_more rows names i name old now new h at so push =
    let step : next_answers rows (take (i + 1) names) ≡ next_answers rows (take i names) ++ next_answer rows name ∷ [] =
    ap (next_answers rows) (take_more names i name h)
    ∙ map-append (next_answer rows) (take i names) (get_or names i name ∷ [])
    ∙ ap (λ n. next_answers rows (take i names) ++ next_answer rows n ∷ []) (sym at) in
    push ∙ ap (λ z. z ++ next_answer rows name ∷ []) so ∙ append_assoc old (next_answers rows (take i names)) (next_answer rows name ∷ []) ∙ ap (λ z. old ++ z) (sym step)

-- one repetition more than none: it, and those behind it
repeats_by : (rows : List Binding) (k : ℕ) (names : List (List ℕ)) (b : Bool) → all_end (next_answers rows names) ≡ b →
    repetitions rows (suc k) names ≡ next_answers rows names ++ further rows k (next_answers rows names)
unfolding repetitions
repeats_by rows k names true h = rw h (sym (append-nil (next_answers rows names)))
repeats_by rows k names false h = rw h refl

pub repeats : (rows : List Binding) (m k : ℕ) (names : List (List ℕ)) → m ≡ suc k →
    repetitions rows m names ≡ next_answers rows names ++ further rows k (next_answers rows names)
repeats rows m k names left = ap (λ n. repetitions rows n names) left ∙ repeats_by rows k names _ refl

-- the last bindings are the repetition
pub last_is : (rows : List Binding) (names : List (List ℕ)) (n : ℕ) (sent new : List Binding) → n ≡ length names → new ≡ sent ++ next_answers rows names → drop (length new - n) new ≡ next_answers rows names
last_is rows names n sent new h is =
    let len : length new ≡ length sent + length (next_answers rows names) = ap length is ∙ length-append sent (next_answers rows names) in
    let count : length (next_answers rows names) ≡ length names = length-map names (next_answer rows) in
    let start : length new - n ≡ length sent = omega (arith, len, count, h) in
    ap (λ k. drop k new) start ∙ ap (drop (length sent)) is ∙ drop-append_seam sent (next_answers rows names)

pub last_count : (rows : List Binding) (names : List (List ℕ)) (n : ℕ) (sent new : List Binding) → n ≡ length names → new ≡ sent ++ next_answers rows names → n ≤ length new
last_count rows names n sent new h is =
    let len : length new ≡ length sent + length (next_answers rows names) = ap length is ∙ length-append sent (next_answers rows names) in
    let count : length (next_answers rows names) ≡ length names = length-map names (next_answer rows) in
    omega (arith, len, count, h)

-- a repetition for which there is no space
pub repeat_cut : (rows : List Binding) (m k space other : ℕ) (names : List (List ℕ)) (all sent new : List Binding) → m ≡ suc k → space ≡ other →
    all ≡ sent ++ repetitions rows m names →
    ((more : List Binding) → IsFilled space (sent ++ (next_answers rows names ++ more)) new) → IsFilled other all new
repeat_cut rows m k space other names all sent new left same so reported =
    filled_at space other _ all new same (sym (so ∙ ap (λ z. sent ++ z) (repeats rows m k names left))) (reported (further rows k (next_answers rows names)))

-- a repetition, and those behind it
pub repeat_more : (rows : List Binding) (m k n : ℕ) (names : List (List ℕ)) (all sent new : List Binding) → m ≡ suc k →
    all ≡ sent ++ repetitions rows m names → new ≡ sent ++ next_answers rows names → n ≡ length names →
    all ≡ new ++ further rows k (drop (length new - n) new)
repeat_more rows m k n names all sent new left so is count =
    so ∙ ap (λ z. sent ++ z) (repeats rows m k names left)
    ∙ sym (append_assoc sent (next_answers rows names) (further rows k (next_answers rows names)))
    ∙ ap (λ z. z ++ further rows k (next_answers rows names)) (sym is)
    ∙ ap (λ row. new ++ further rows k row) (sym (last_is rows names n sent new count is))

-- no repetition is left
pub repeat_none : (rows : List Binding) (m space : ℕ) (names : List (List ℕ)) (sent : List Binding) → m ≡ 0 → IsFilled space (sent ++ repetitions rows m names) sent
unfolding repetitions
repeat_none rows m space names sent none = filled_whole space _ sent (sym (ap (λ n. sent ++ repetitions rows n names) none ∙ append-nil sent))

-- behind a repetition that is all endOfMibView
pub further_ended : (rows : List Binding) (k space : ℕ) (row all sent : List Binding) → all ≡ sent ++ further rows k row → all_end row ≡ true → IsFilled space all sent
further_ended rows k space row all sent so end =
    let none : further rows k row ≡ [] = rw end refl in
    filled_whole space all sent (sym (so ∙ ap (λ z. sent ++ z) none ∙ append-nil sent))

-- behind another one
pub further_going : (rows : List Binding) (k : ℕ) (row all sent : List Binding) → all ≡ sent ++ further rows k row → all_end row ≡ false → all ≡ sent ++ repetitions rows k (names_of row)
further_going rows k row all sent so going =
    let are : further rows k row ≡ repetitions rows k (names_of row) = rw going refl in
    so ∙ ap (λ z. sent ++ z) are

-- where no repetition is left
pub further_done : (rows : List Binding) (k space : ℕ) (row all sent : List Binding) (b : Bool) → all_end row ≡ b → k ≡ 0 → all ≡ sent ++ further rows k row → IsFilled space all sent
further_done rows k space row all sent true end none so = further_ended rows k space row all sent so end
further_done rows k space row all sent false going none so =
    filled_at space space _ all sent refl (sym (further_going rows k row all sent so going)) (repeat_none rows k space (names_of row) sent none)

-- ---- names of bindings that were asked, and of those sent before

pub names-length : (bs : List Binding) → length (names_of bs) ≡ length bs
names-length bs = length-map bs (λ b. b.name)

pub names-at : (bs : List Binding) (i : ℕ) (b : Binding) → i < length bs → b ≡ get_or bs i b → b.name ≡ get_or (names_of bs) i b.name
names-at [] i b h at = absurd (omega (arith, h))
names-at (x ∷ bs) zero b h at = ap (λ z. z.name) at
names-at (x ∷ bs) (suc i) b h at = names-at bs i b (omega (arith, h)) at

names-front : (xs ys : List Binding) (i : ℕ) (d e : List ℕ) → i < length xs → get_or (names_of (xs ++ ys)) i d ≡ get_or (names_of xs) i e
names-front [] ys i d e h = absurd (omega (arith, h))
names-front (x ∷ xs) ys zero d e h = refl
names-front (x ∷ xs) ys (suc i) d e h = names-front xs ys i d e (omega (arith, h))

names-behind : (n : ℕ) (bs : List Binding) (i j : ℕ) (d : List ℕ) → j ≡ n + i → get_or (names_of bs) j d ≡ get_or (names_of (drop n bs)) i d
names-behind zero bs i j d e = ap (λ k. get_or (names_of bs) k d) (let same : j ≡ i = omega (arith, e) in same)
names-behind (suc n) [] i j d e = refl
names-behind (suc n) (b ∷ bs) i zero d e = absurd (omega (arith, e))
names-behind (suc n) (b ∷ bs) i (suc j) d e = names-behind n bs i j d (omega (arith, e))

-- the names of the last so many bindings
pub last_names : (bs : List Binding) (n : ℕ) → n ≤ length bs → n ≡ length (names_of (drop (length bs - n) bs))
last_names bs n within = omega (arith, within, names-length (drop (length bs - n) bs), length-drop (length bs - n) bs)

pub columns_within : (bs : List Binding) (n i : ℕ) → n ≤ length bs → i < n → i < length (names_of (drop (length bs - n) bs))
columns_within bs n i within few = omega (arith, few, last_names bs n within)

-- so many bindings were sent beside those of a repetition so far
pub sent_length : (rows old now : List Binding) (n i : ℕ) → n ≤ length old → i ≤ n → now ≡ old ++ next_answers rows (take i (names_of (drop (length old - n) old))) → length now ≡ length old + i
sent_length rows old now n i within few so =
    let names : List (List ℕ) = names_of (drop (length old - n) old) in
    let last : length names ≡ length old - (length old - n) = names-length (drop (length old - n) old) ∙ length-drop (length old - n) old in
    omega (arith, within, few, last, ap length so, length-append old (next_answers rows (take i names)), length-map (take i names) (next_answer rows), length-take i names)

-- the binding so many places back is the one of the same column in the repetition that was sent last
pub name_back : (rows old now : List Binding) (n i : ℕ) (name : List ℕ) → n ≤ length old → i < n → now ≡ old ++ next_answers rows (take i (names_of (drop (length old - n) old))) →
    name ≡ get_or (names_of now) (length now - n) [] → name ≡ get_or (names_of (drop (length old - n) old)) i name
name_back rows old now n i name within few so is =
    let names : List (List ℕ) = names_of (drop (length old - n) old) in
    let len : length now ≡ length old + i = sent_length rows old now n i within (omega (arith, few)) so in
    let inside : length now - n < length old = omega (arith, len, within, few) in
    let place : length now - n ≡ (length old - n) + i = omega (arith, len, within, few) in
    is ∙ ap (λ bs. get_or (names_of bs) (length now - n) []) so
    ∙ names-front old (next_answers rows (take i names)) (length now - n) [] name inside
    ∙ names-behind (length old - n) old i (length now - n) name place

-- the list in its two parts
pub list_parts : (rows : List Binding) (once most : ℕ) (asked first columns : List Binding) → first ≡ take once asked → columns ≡ drop once asked →
    next_answers rows (names_of first) ++ repetitions rows most (names_of columns) ≡ bulk_list rows once most (names_of asked)
list_parts rows once most asked first columns is are =
    ap (λ bs. next_answers rows (names_of bs) ++ repetitions rows most (names_of columns)) is
    ∙ ap (λ bs. next_answers rows (names_of (take once asked)) ++ repetitions rows most (names_of bs)) are
    ∙ ap (λ ns. next_answers rows ns ++ repetitions rows most (names_of (drop once asked))) (sym (names-take once asked))
    ∙ ap (λ ns. next_answers rows (take once (names_of asked)) ++ repetitions rows most ns) (sym (names-drop once asked))

pub list_whole : (rows : List Binding) (once most : ℕ) (asked first columns : List Binding) (old now : List Binding) → now ≡ old ++ next_answers rows (names_of first) →
    first ≡ take once asked → columns ≡ drop once asked → now ++ repetitions rows most (names_of columns) ≡ old ++ bulk_list rows once most (names_of asked)
list_whole rows once most asked first columns old now so is are =
    ap (λ z. z ++ repetitions rows most (names_of columns)) so
    ∙ append_assoc old (next_answers rows (names_of first)) (repetitions rows most (names_of columns))
    ∙ ap (λ z. old ++ z) (list_parts rows once most asked first columns is are)
