-- A list of which a next member needs a long name, from one repetition to the whole list.
use Rattle.std.proofs.Common.{◌≡◌, ◌⊎◌, ℕ, zero, suc, ◌+◌, ◌-◌, ◌<◌, ◌≤◌, ◌∙◌, sym, ap, subst, refl, Bool, true, List, [], ◌∷◌, ◌++◌, length, take, drop, get_or, arith, inl, inr, Some, drop-cons, append_assoc, length-append}
use Rattle.std.specs.List.{slice_get}
use Rattle.std.specs.Prelude.{Result, Ok, Err, OnErr, is_err}
use Rattle.std.specs.declared.alloc.AllocError.{AllocError}
use Rattle.std.proofs.lemmas.Bool.{cases_lt}
use Rattle.std.proofs.lemmas.Option.{slice_get_within}
use Rattle.std.proofs.lemmas.List.{length-drop, map-append, length-map, length-take, take-append-drop}
use Rattle.std.proofs.Math.Seq.{drop-append_seam}
use Rattle.message_core.specs.declared.binding.Binding.{Binding}
use Rattle.message_core.specs.Instances.{names_of}
use Rattle.agent_core.specs.Reading.{visible, next_answer, next_answers}
use Rattle.agent_core.specs.Lookups.{PassesLong}
use Rattle.message_core.specs.declared.limits.TheConstants.{MAX_REPLY}
use Rattle.message_core.specs.declared.request.Request.{Request}
use Rattle.agent_core.specs.Fitting.{reply_size}
use Rattle.agent_core.specs.Lacking.{IsLacking, LacksBulkName, bulk_names, binding_number, non_repeaters}
use Rattle.agent_core.specs.Bulk.{repetitions, further, bulk_list, count_of}
use Rattle.agent_core.proofs.Fits.{repeats, last_is, names-length, names-drop, list_parts}

abbrev Name : Type 0
Name = List ℕ

-- ---- places of names

pub slice_at : (names : List Name) (i : ℕ) (name : Name) → i < length names → name ≡ get_or names i name → slice_get names i ≡ Some name
slice_at [] i name h at = absurd (omega (arith, h))
slice_at (n ∷ names) zero name h at = ap Some (sym at)
slice_at (n ∷ names) (suc i) name h at = slice_at names i name (omega (arith, h)) at

pub slice_front : (xs ys : List Name) (i : ℕ) (x : Name) → slice_get xs i ≡ Some x → slice_get (xs ++ ys) i ≡ Some x
slice_front [] ys i x e = absurd (cc)
slice_front (y ∷ xs) ys zero x e = e
slice_front (y ∷ xs) ys (suc i) x e = slice_front xs ys i x e

pub slice_rest : (xs ys : List Name) (i j : ℕ) → j ≡ length xs + i → slice_get (xs ++ ys) j ≡ slice_get ys i
slice_rest [] ys i j e = ap (slice_get ys) (let k : j ≡ i = omega (arith, e) in k)
slice_rest (x ∷ xs) ys i zero e = absurd (omega (arith, e))
slice_rest (x ∷ xs) ys i (suc j) e = slice_rest xs ys i j (omega (arith, e))

pub slice_drop : (n : ℕ) (xs : List Name) (i j : ℕ) → j ≡ n + i → slice_get (drop n xs) i ≡ slice_get xs j
slice_drop zero xs i j e = ap (slice_get xs) (let k : i ≡ j = omega (arith, e) in k)
slice_drop (suc n) [] i j e = refl
slice_drop (suc n) (x ∷ xs) i zero e = absurd (omega (arith, e))
slice_drop (suc n) (x ∷ xs) i (suc j) e = slice_drop n xs i j (omega (arith, e))

pub slice_within : (xs : List Name) (i : ℕ) (x : Name) → slice_get xs i ≡ Some x → i < length xs
slice_within [] i x e = absurd (cc)
slice_within (y ∷ xs) zero x e = omega arith
slice_within (y ∷ xs) (suc i) x e = let more : i < length xs = slice_within xs i x e in omega (arith, more)

names-append : (xs ys : List Binding) → names_of (xs ++ ys) ≡ names_of xs ++ names_of ys
names-append xs ys = map-append (λ b. b.name) xs ys

-- ---- what stands behind a list

pub grown_none : (old : List Binding) → old ≡ old ++ drop (length old) old
grown_none [] = refl
grown_none (b ∷ old) = ap (λ (bs : List Binding). b ∷ bs) (grown_none old)

pub grown_more : (old now row new : List Binding) → now ≡ old ++ drop (length old) now → new ≡ now ++ row → new ≡ old ++ drop (length old) new
grown_more old now row new grown is =
    let behind : List Binding = drop (length old) now ++ row in
    let whole : new ≡ old ++ behind = is ∙ ap (λ z. z ++ row) grown ∙ append_assoc old (drop (length old) now) row in
    whole ∙ ap (λ z. old ++ z) (sym (ap (drop (length old)) whole ∙ drop-append_seam old behind))

-- ---- one repetition

module _ (shows : Name → Bool) (all_rows : List Binding) where
  abbrev rows : List Binding
  rows = visible shows all_rows

  pub once_lacks : (names : List Name) (i : ℕ) (name : Name) (old now new : List Binding) → i < length names → name ≡ get_or names i name →
      now ≡ old ++ next_answers rows (take i names) → new ≡ now → PassesLong shows all_rows name →
      IsLacking shows all_rows (λ found. names) old (old ++ next_answers rows names) new
  once_lacks names i name old now new h at so same lacks =
      let b : Binding = next_answer rows name in
      let front : List Binding = next_answers rows (take i names) in
      let behind : List Binding = next_answers rows (drop (suc i) names) in
      let split : next_answers rows names ≡ front ++ (b ∷ behind) =
      ap (next_answers rows) (sym (take-append-drop i names)) ∙ map-append (next_answer rows) (take i names) (drop i names)
      ∙ ap (λ ns. front ++ next_answers rows ns) (drop-cons names i name h)
      ∙ ap (λ n. front ++ (next_answer rows n ∷ behind)) (sym at) in
      let count : length front ≡ i = length-map (take i names) (next_answer rows) ∙ (let t : length (take i names) ≡ i = omega (arith, h, length-take i names) in t) in
      record {
        found = front;
        sent_is = same ∙ so;
        name = name;
        asked = ap (slice_get names) count ∙ slice_at names i name h at;
        rest = behind;
        list = ap (λ z. z ++ (b ∷ behind)) (same ∙ so) ∙ append_assoc old front (b ∷ behind) ∙ ap (λ z. old ++ z) (sym split);
        lacks = lacks;
      }

  -- with more behind it
  abbrev more_lacks : (names : List Binding → List Name) (old xs more new : List Binding) → IsLacking shows all_rows names old (old ++ xs) new →
      IsLacking shows all_rows names old (old ++ (xs ++ more)) new
  more_lacks names old xs more new h = record {
    found = h.found;
    sent_is = h.sent_is;
    name = h.name;
    asked = h.asked;
    rest = h.rest ++ more;
    list =
        sym (append_assoc new (next_answer rows h.name ∷ h.rest) more)
        ∙ ap (λ z. z ++ more) h.list
        ∙ append_assoc old xs more;
    lacks = h.lacks;
  }

  -- ---- from the names of one repetition on

  pub first_lacks : (names : List Name) (m k : ℕ) (old new : List Binding) → m ≡ suc k →
      IsLacking shows all_rows (λ found. names) old (old ++ next_answers rows names) new →
      IsLacking shows all_rows (bulk_names names 0) old (old ++ repetitions rows m names) new
  first_lacks names m k old new left h =
      let more = more_lacks (λ found. names) old (next_answers rows names) (further rows k (next_answers rows names)) new h in
      record {
        found = more.found;
        sent_is = more.sent_is;
        name = more.name;
        asked = slice_front names (names_of more.found) (length more.found) more.name more.asked;
        rest = more.rest;
        list = more.list ∙ ap (λ z. old ++ z) (sym (repeats rows m k names left));
        lacks = more.lacks;
      }

  pub later_lacks : (names : List Name) (m k n : ℕ) (old now new : List Binding) → m ≡ suc k → n ≡ length names → now ≡ old ++ next_answers rows names →
      IsLacking shows all_rows (bulk_names (names_of (drop (length now - n) now)) 0) now (now ++ further rows k (drop (length now - n) now)) new →
      IsLacking shows all_rows (bulk_names names 0) old (old ++ repetitions rows m names) new
  later_lacks names m k n old now new left count is h =
      let row : List Binding = next_answers rows names in
      let last : drop (length now - n) now ≡ row = last_is rows names n old now count is in
      let size : length row ≡ length names = length-map names (next_answer rows) in
      let here : slice_get (names_of row ++ names_of h.found) (length h.found) ≡ Some h.name = ap (λ r. slice_get (names_of r ++ names_of h.found) (length h.found)) (sym last) ∙ h.asked in
      record {
        found = row ++ h.found;
        sent_is = h.sent_is ∙ ap (λ z. z ++ h.found) is ∙ append_assoc old row h.found;
        name = h.name;
        asked =
            slice_rest names (names_of (row ++ h.found)) (length h.found) (length (row ++ h.found)) (length-append row h.found ∙ ap (λ l. l + length h.found) size)
            ∙ ap (λ ns. slice_get ns (length h.found)) (names-append row h.found)
            ∙ here;
        rest = h.rest;
        list =
            h.list
            ∙ ap (λ z. z ++ further rows k (drop (length now - n) now)) is
            ∙ append_assoc old row (further rows k (drop (length now - n) now))
            ∙ ap (λ r. old ++ (row ++ further rows k r)) last
            ∙ ap (λ z. old ++ z) (sym (repeats rows m k names left));
        lacks = h.lacks;
      }

  pub later_lack : {A : Type 0} (result : Result A AllocError) (names : List Name) (m k n : ℕ) (old now new : List Binding) → m ≡ suc k → n ≡ length names → now ≡ old ++ next_answers rows names →
      OnErr result (IsLacking shows all_rows (bulk_names (names_of (drop (length now - n) now)) 0) now (now ++ further rows k (drop (length now - n) now)) new) →
      OnErr result (IsLacking shows all_rows (bulk_names names 0) old (old ++ repetitions rows m names) new)
  later_lack (Ok x) names m k n old now new left count is h = tt
  later_lack (Err e) names m k n old now new left count is h = later_lacks names m k n old now new left count is h

  -- a repetition that is no first one
  pub further_lacks : (n m k : ℕ) (old now new all : List Binding) → n ≤ length old → now ≡ old ++ drop (length old) now → m ≡ suc k →
      all ≡ now ++ repetitions rows m (names_of (drop (length now - n) now)) →
      IsLacking shows all_rows (λ found. names_of (drop (length now - n) now)) now (now ++ next_answers rows (names_of (drop (length now - n) now))) new →
      IsLacking shows all_rows (bulk_names (names_of (drop (length old - n) old)) 0) old all new
  further_lacks n m k old now new all within grown left so h =
      let before : List Binding = drop (length old) now in
      let last : List Binding = drop (length now - n) now in
      let more = more_lacks (λ found. names_of last) now (next_answers rows (names_of last)) (further rows k (next_answers rows (names_of last))) new h in
      let len : length now ≡ length old + length before = ap length grown ∙ length-append old before in
      let j : ℕ = length h.found in
      let there : slice_get (names_of now) (length now - n + j) ≡ Some h.name =
      sym (slice_drop (length now - n) (names_of now) j (length now - n + j) refl) ∙ ap (λ ns. slice_get ns j) (names-drop (length now - n) now) ∙ h.asked in
      let parts : names_of now ≡ take (length old - n) (names_of old) ++ (names_of (drop (length old - n) old) ++ names_of before) =
      ap names_of grown ∙ names-append old before
      ∙ ap (λ ns. ns ++ names_of before) (sym (take-append-drop (length old - n) (names_of old)))
      ∙ append_assoc (take (length old - n) (names_of old)) (drop (length old - n) (names_of old)) (names_of before)
      ∙ ap (λ ns. take (length old - n) (names_of old) ++ (ns ++ names_of before)) (names-drop (length old - n) old) in
      let ahead : length (take (length old - n) (names_of old)) ≡ length old - n =
      (let t : length (take (length old - n) (names_of old)) ≡ length old - n = omega (arith, within, names-length old, length-take (length old - n) (names_of old)) in t) in
      let here : slice_get (names_of (drop (length old - n) old) ++ names_of before) (length before + j) ≡ Some h.name =
      sym (slice_rest (take (length old - n) (names_of old)) (names_of (drop (length old - n) old) ++ names_of before) (length before + j) (length now - n + j) (omega (arith, ahead, len, within)))
      ∙ ap (λ ns. slice_get ns (length now - n + j)) (sym parts) ∙ there in
      record {
        found = before ++ h.found;
        sent_is = h.sent_is ∙ ap (λ z. z ++ h.found) grown ∙ append_assoc old before h.found;
        name = h.name;
        asked =
            ap (slice_get (names_of (drop (length old - n) old) ++ names_of (before ++ h.found))) (length-append before h.found)
            ∙ ap (λ ns. slice_get (names_of (drop (length old - n) old) ++ ns) (length before + j)) (names-append before h.found)
            ∙ ap (λ ns. slice_get ns (length before + j)) (sym (append_assoc (names_of (drop (length old - n) old)) (names_of before) (names_of h.found)))
            ∙ slice_front (names_of (drop (length old - n) old) ++ names_of before) (names_of h.found) (length before + j) h.name here;
        rest = more.rest;
        list = more.list ∙ ap (λ z. now ++ z) (sym (repeats rows m k (names_of last) left)) ∙ sym so;
        lacks = h.lacks;
      }

  -- ---- the whole list

  pub once_part_lacks : (once most : ℕ) (asked first columns old new : List Binding) → first ≡ take once asked → columns ≡ drop once asked →
      IsLacking shows all_rows (λ found. names_of first) old (old ++ next_answers rows (names_of first)) new →
      IsLacking shows all_rows (bulk_names (names_of asked) once) old (old ++ bulk_list rows once most (names_of asked)) new
  once_part_lacks once most asked first columns old new is are h =
      let more = more_lacks (λ found. names_of first) old (next_answers rows (names_of first)) (repetitions rows most (names_of columns)) new h in
      let names : names_of first ++ names_of columns ≡ names_of asked =
      ap (λ bs. names_of bs ++ names_of columns) is ∙ ap (λ bs. names_of (take once asked) ++ names_of bs) are
      ∙ sym (names-append (take once asked) (drop once asked)) ∙ ap names_of (take-append-drop once asked) in
      let here : slice_get (names_of asked) (length more.found) ≡ Some more.name =
      ap (λ ns. slice_get ns (length more.found)) (sym names) ∙ slice_front (names_of first) (names_of columns) (length more.found) more.name more.asked in
      record {
        found = more.found;
        sent_is = more.sent_is;
        name = more.name;
        asked = slice_front (names_of asked) (drop once (names_of more.found)) (length more.found) more.name here;
        rest = more.rest;
        list = more.list ∙ ap (λ z. old ++ z) (list_parts rows once most asked first columns is are);
        lacks = more.lacks;
      }

  pub columns_lack : (once most : ℕ) (asked first columns old now new : List Binding) → once ≤ length asked → first ≡ take once asked → columns ≡ drop once asked →
      now ≡ old ++ next_answers rows (names_of first) →
      IsLacking shows all_rows (bulk_names (names_of columns) 0) now (now ++ repetitions rows most (names_of columns)) new →
      IsLacking shows all_rows (bulk_names (names_of asked) once) old (old ++ bulk_list rows once most (names_of asked)) new
  columns_lack once most asked first columns old now new within is are so h =
      let row : List Binding = next_answers rows (names_of first) in
      let size : length row ≡ once =
      length-map (names_of first) (next_answer rows) ∙ names-length first ∙ ap length is ∙ (let t : length (take once asked) ≡ once = omega (arith, within, length-take once asked) in t) in
      let names : names_of asked ≡ names_of first ++ names_of columns =
      sym (ap (λ bs. names_of bs ++ names_of columns) is ∙ ap (λ bs. names_of (take once asked) ++ names_of bs) are
      ∙ sym (names-append (take once asked) (drop once asked)) ∙ ap names_of (take-append-drop once asked)) in
      let firsts : length (names_of first) ≡ length row = sym (length-map (names_of first) (next_answer rows)) in
      let later : drop once (names_of (row ++ h.found)) ≡ names_of h.found =
      names-drop once (row ++ h.found) ∙ ap (λ n. names_of (drop n (row ++ h.found))) (sym size) ∙ ap names_of (drop-append_seam row h.found) in
      record {
        found = row ++ h.found;
        sent_is = h.sent_is ∙ ap (λ z. z ++ h.found) so ∙ append_assoc old row h.found;
        name = h.name;
        asked =
            ap (λ ns. slice_get (names_of asked ++ ns) (length (row ++ h.found))) later
            ∙ ap (λ ns. slice_get (ns ++ names_of h.found) (length (row ++ h.found))) names
            ∙ ap (λ ns. slice_get ns (length (row ++ h.found))) (append_assoc (names_of first) (names_of columns) (names_of h.found))
            ∙ slice_rest (names_of first) (names_of columns ++ names_of h.found) (length h.found) (length (row ++ h.found)) (length-append row h.found ∙ ap (λ l. l + length h.found) (sym firsts))
            ∙ h.asked;
        rest = h.rest;
        list =
            h.list
            ∙ ap (λ z. z ++ repetitions rows most (names_of columns)) so
            ∙ append_assoc old row (repetitions rows most (names_of columns))
            ∙ ap (λ z. old ++ z) (list_parts rows once most asked first columns is are);
        lacks = h.lacks;
      }

  pub columns_lacks : {A : Type 0} (result : Result A AllocError) (once most : ℕ) (asked first columns old now new : List Binding) → once ≤ length asked → first ≡ take once asked → columns ≡ drop once asked →
      now ≡ old ++ next_answers rows (names_of first) →
      OnErr result (IsLacking shows all_rows (bulk_names (names_of columns) 0) now (now ++ repetitions rows most (names_of columns)) new) →
      OnErr result (IsLacking shows all_rows (bulk_names (names_of asked) once) old (old ++ bulk_list rows once most (names_of asked)) new)
  columns_lacks (Ok x) once most asked first columns old now new within is are so h = tt
  columns_lacks (Err e) once most asked first columns old now new within is are so h = columns_lack once most asked first columns old now new within is are so h

  -- in a whole request
  bulk_lacking : (request : Request) (asked old sent : List Binding) (once most i before : ℕ) → old ≡ [] → asked ≡ request.bindings → once ≡ non_repeaters request → most ≡ count_of request.second →
      IsLacking shows all_rows (bulk_names (names_of asked) once) old (old ++ bulk_list rows once most (names_of asked)) sent →
      reply_size request sent ≤ MAX_REPLY → before ≡ length sent → i ≡ binding_number once (length asked - once) before → LacksBulkName shows all_rows request i
  bulk_lacking request asked old sent once most i before none asked_is once_is most_is h fits before_is number =
      let whole : sent ≡ h.found = h.sent_is ∙ ap (λ (o : List Binding). o ++ h.found) none in
      let few : ℕ = non_repeaters request in
      let x : Binding = next_answer rows h.name in
      record {
        found = h.found;
        name = h.name;
        rest = h.rest;
        list =
            ap (λ (z : List Binding). z ++ x ∷ h.rest) (sym whole) ∙ h.list
            ∙ ap (λ (o : List Binding). o ++ bulk_list rows once most (names_of asked)) none
            ∙ ap (λ (n : ℕ). bulk_list rows n most (names_of asked)) once_is
            ∙ ap (λ (m : ℕ). bulk_list rows few m (names_of asked)) most_is
            ∙ ap (λ (bs : List Binding). bulk_list rows few (count_of request.second) (names_of bs)) asked_is;
        fits = subst (λ (bs : List Binding). reply_size request bs ≤ MAX_REPLY) whole fits;
        asked =
            subst (λ (bs : List Binding). slice_get (names_of bs ++ drop few (names_of h.found)) (length h.found) ≡ Some h.name) asked_is
            (subst (λ (n : ℕ). slice_get (names_of asked ++ drop n (names_of h.found)) (length h.found) ≡ Some h.name) once_is h.asked);
        lacks = h.lacks;
        number =
            number ∙ ap (λ (n : ℕ). binding_number n (length asked - n) before) once_is
            ∙ ap (λ (bs : List Binding). binding_number few (length bs - few) before) asked_is
            ∙ ap (λ (b : ℕ). binding_number few (length request.bindings - few) b) (before_is ∙ ap length whole);
      }

  pub bulk_lacks : {A : Type 0} (result : Result A AllocError) (request : Request) (asked old sent : List Binding) (once most i before : ℕ) → old ≡ [] → asked ≡ request.bindings → once ≡ non_repeaters request → most ≡ count_of request.second →
      is_err result ≡ true → OnErr result (IsLacking shows all_rows (bulk_names (names_of asked) once) old (old ++ bulk_list rows once most (names_of asked)) sent) →
      reply_size request sent ≤ MAX_REPLY → before ≡ length sent → i ≡ binding_number once (length asked - once) before → LacksBulkName shows all_rows request i
  bulk_lacks (Ok x) request asked old sent once most i before none asked_is once_is most_is failed h fits before_is number = absurd (cc failed)
  bulk_lacks (Err e) request asked old sent once most i before none asked_is once_is most_is failed h fits before_is number =
      bulk_lacking request asked old sent once most i before none asked_is once_is most_is h fits before_is number

  -- a member that is not one of those that are asked once is asked of a column
  pub some_asked : {A : Type 0} (result : Result A AllocError) (asked old sent all : List Binding) (once before : ℕ) → old ≡ [] →
      is_err result ≡ true → OnErr result (IsLacking shows all_rows (bulk_names (names_of asked) once) old all sent) → before ≡ length sent → (1 ≤ length asked - once) ⊎ (before < once)
  some_asked (Ok x) asked old sent all once before none failed h before_is = absurd (cc failed)
  some_asked (Err e) asked old sent all once before none failed h before_is =
      let whole : sent ≡ h.found = h.sent_is ∙ ap (λ (o : List Binding). o ++ h.found) none in
      let there : length h.found < length (names_of asked ++ drop once (names_of h.found)) = slice_get_within (names_of asked ++ drop once (names_of h.found)) (length h.found) h.name h.asked in
      let count : before ≡ length h.found = before_is ∙ ap length whole in
      elim (cases_lt before once) [
        | inl few ↦ inr few
        | inr many ↦ inl (omega (arith, many, count, there, length-append (names_of asked) (drop once (names_of h.found)), length-drop once (names_of h.found), names-length asked, names-length h.found))
      ]
