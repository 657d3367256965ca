-- Marks beside keys, and what they stand for where there are more of either.
use Rattle.std.proofs.Common.{◌≡◌, ◌≢◌, ◌∙◌, ℕ, zero, suc, ◌<◌, ◌≤◌, List, [], ◌∷◌, ◌++◌, length, take, get_or, sym, subst, ap, arith, refl, ⊎_elim, inl, inr, length-append, append-nil, Option, Some, None}
use Rattle.std.specs.List.{AllByRecursion, Contains, slice_get}
use Rattle.std.proofs.lemmas.List.{map-append, get_or-take, length-take-le}
use Rattle.std.proofs.lemmas.List.Elements.{All-weaker, All-push, All-take, Contains-append_left, Contains-append_right}
use Rattle.std.proofs.lemmas.List.Quantifiers.{all_pairs_push}
use Rattle.std.proofs.lemmas.Option.{slice_get_within}
use Rattle.audit_core.specs.declared.denied.Denied.{Denied}
use Rattle.audit_core.specs.declared.keys.FamilyKey.{FamilyKey}
use Rattle.audit_core.specs.declared.marks.Mark.{Mark}
use Rattle.audit_core.specs.Marks.{key_at, denied_of, marked, IsPlaced, families, Differ, AreKeysOf, AreMarks, IsPlaceOf, IsPlaceTooHigh, HasNoMark, FillPlaces, IsUnmarked, IsWith}

abbrev PlacedIn : List FamilyKey → Mark → Type 0
PlacedIn keys mark = IsPlaced keys mark.family

-- what stands in the front of a list
in_front : (keys more : List FamilyKey) (place : ℕ) → place < length keys → slice_get (keys ++ more) place ≡ slice_get keys place
in_front [] more place lt = absurd (omega arith)
in_front (key ∷ keys) more zero lt = refl
in_front (key ∷ keys) more (suc place) lt = in_front keys more place (omega arith)

key_stays : (keys more : List FamilyKey) (place : Option ℕ) → IsPlaced keys place → key_at (keys ++ more) place ≡ key_at keys place
key_stays keys more None is = refl
key_stays keys more (Some place) is = in_front keys more place is

place_stays : (keys more : List FamilyKey) (place : Option ℕ) → IsPlaced keys place → IsPlaced (keys ++ more) place
place_stays keys more None is = tt
place_stays keys more (Some place) is = omega (arith, length-append keys more)

all_stay : (keys more : List FamilyKey) (marks : List Mark) → AllByRecursion (PlacedIn keys) marks → AllByRecursion (PlacedIn (keys ++ more)) marks
all_stay keys more [] all = tt
all_stay keys more (mark ∷ marks) all = (place_stays keys more mark.family all.0, all_stay keys more marks all.1)

marked_stays : (keys more : List FamilyKey) (marks : List Mark) → AllByRecursion (PlacedIn keys) marks → marked (keys ++ more) marks ≡ marked keys marks
marked_stays keys more [] all = refl
marked_stays keys more (mark ∷ marks) all =
    let head : denied_of (keys ++ more) mark ≡ denied_of keys mark = ap (λ (family : Option FamilyKey). record { index = mark.index; family = family }) (key_stays keys more mark.family all.0) in
    ap (λ (d : Denied). d ∷ marked (keys ++ more) marks) head ∙ ap (λ (ds : List Denied). denied_of keys mark ∷ ds) (marked_stays keys more marks all.1)

all_more : (keys : List FamilyKey) (marks : List Mark) (mark : Mark) → AllByRecursion (PlacedIn keys) marks → PlacedIn keys mark → AllByRecursion (PlacedIn keys) (marks ++ mark ∷ [])
all_more keys [] mark all one = (one, tt)
all_more keys (first ∷ marks) mark all one = (all.0, all_more keys marks mark all.1 one)

place_of : (before keys : List FamilyKey) (family : Option FamilyKey) (place : Option ℕ) → IsPlaceOf before family place → key_at keys place ≡ family → IsPlaced keys place
place_of before keys None None of is = tt
place_of before keys (Some key) (Some place) of is = slice_get_within keys place key is
place_of before keys None (Some place) of is = absurd of
place_of before keys (Some key) None of is = absurd of

-- the keys that came behind the others
keys_behind : (old new : List FamilyKey) (family : Option FamilyKey) → IsWith old family new → (more : List FamilyKey) × (new ≡ old ++ more)
keys_behind old new family with =
    ⊎_elim (λ same. ([], same ∙ sym (append-nil old))) (λ one. (one.0 ∷ [], one.3)) with

-- Marks stay what they are where keys come behind theirs.
marked_with : (old new : List FamilyKey) (marks : List Mark) (family : Option FamilyKey) → AreMarks old marks → IsWith old family new → marked new marks ≡ marked old marks
marked_with old new marks family are with =
    let behind = keys_behind old new family with in
    ap (λ (keys : List FamilyKey). marked keys marks) behind.1 ∙ marked_stays old behind.0 marks are.placed

pub marked_more : (old new : List FamilyKey) (marks all : List Mark) (mark : Mark) (denied : Denied) → AreMarks old marks → IsWith old denied.family new
    → mark.index ≡ denied.index → key_at new mark.family ≡ denied.family → all ≡ marks ++ mark ∷ [] → marked new all ≡ marked old marks ++ denied ∷ []
marked_more old new marks all mark denied are with index there is =
    let one : denied_of new mark ≡ denied =
    ap (λ (n : ℕ). record { index = n; family = key_at new mark.family }) index
    ∙ ap (λ (family : Option FamilyKey). record { index = denied.index; family = family }) there in
    ap (λ (ms : List Mark). marked new ms) is
    ∙ (map-append (denied_of new) marks (mark ∷ [])
    ∙ (ap (λ (ds : List Denied). ds ++ denied_of new mark ∷ []) (marked_with old new marks denied.family are with)
    ∙ ap (λ (d : Denied). marked old marks ++ d ∷ []) one))

-- Keys differ where one that is not among them stands behind them.
still_once : (old new : List FamilyKey) (family : Option FamilyKey) → Differ old → IsWith old family new → Differ new
still_once old new family once with =
    ⊎_elim
    (λ same. subst Differ (sym same) once)
    (λ one. subst Differ (sym one.3) (all_pairs_push (λ (a b : FamilyKey). a ≢ b) old one.0 once one.2))
    with

families_more : (all : List Denied) (denied : Denied) → families (all ++ denied ∷ []) ≡ families all ++ denied.family ∷ []
families_more all denied = map-append (λ (d : Denied). d.family) all (denied ∷ [])

abbrev HasFamily : List Denied → FamilyKey → Type 0
HasFamily all key = Contains (families all) (Some key)

-- What a key is of, it is of with one more.
keys_of_more : (all : List Denied) (denied : Denied) (keys : List FamilyKey) → AreKeysOf all keys → AreKeysOf (all ++ denied ∷ []) keys
keys_of_more all denied keys of =
    All-weaker (HasFamily all) (HasFamily (all ++ denied ∷ []))
    (λ key has. subst (λ (fs : List (Option FamilyKey)). Contains fs (Some key)) (sym (families_more all denied)) (Contains-append_left (families all) (denied.family ∷ []) (Some key) has))
    keys of

family_of_more : (all : List Denied) (denied : Denied) (key : FamilyKey) → denied.family ≡ Some key → HasFamily (all ++ denied ∷ []) key
family_of_more all denied key is =
    let last : Contains (denied.family ∷ []) (Some key) = (0, omega arith, is) in
    subst (λ (fs : List (Option FamilyKey)). Contains fs (Some key)) (sym (families_more all denied)) (Contains-append_right (families all) (denied.family ∷ []) (Some key) last)

still_used : (old new : List FamilyKey) (all : List Denied) (denied : Denied) → AreKeysOf all old → IsWith old denied.family new → AreKeysOf (all ++ denied ∷ []) new
still_used old new all denied of with =
    let before = keys_of_more all denied old of in
    ⊎_elim
    (λ same. subst (AreKeysOf (all ++ denied ∷ [])) (sym same) before)
    (λ one. subst (AreKeysOf (all ++ denied ∷ [])) (sym one.3) (All-push (HasFamily (all ++ denied ∷ [])) old one.0 before (family_of_more all denied one.0 one.1)))
    with

-- One more mark, whose key may stand behind the others.
pub one_more : (old new : List FamilyKey) (marks all : List Mark) (mark : Mark) (denied : Denied) → AreMarks old marks → IsWith old denied.family new
    → IsPlaceOf old denied.family mark.family → mark.index ≡ denied.index → key_at new mark.family ≡ denied.family → all ≡ marks ++ mark ∷ [] → AreMarks new all
one_more old new marks all mark denied are with of index there is =
    let behind = keys_behind old new denied.family with in
    let placed : PlacedIn new mark = place_of old new denied.family mark.family of there in
    let stay : AllByRecursion (PlacedIn new) marks = subst (λ (keys : List FamilyKey). AllByRecursion (PlacedIn keys) marks) (sym behind.1) (all_stay old behind.0 marks are.placed) in
    let used : AreKeysOf (marked old marks ++ denied ∷ []) new = still_used old new (marked old marks) denied are.used with in
    record {
      placed = subst (λ (ms : List Mark). AllByRecursion (PlacedIn new) ms) (sym is) (all_more new marks mark stay placed);
      once = still_once old new denied.family are.once with;
      used = subst (λ (ds : List Denied). AreKeysOf ds new) (sym (marked_more old new marks all mark denied are with index there is)) used;
    }

-- The first of keys that differ differ.
first_differ : (n : ℕ) (keys : List FamilyKey) → Differ keys → n ≤ length keys → Differ (take n keys)
first_differ n keys once within = λ i j d lt below.
    let long : length (take n keys) ≡ n = length-take-le n keys within in
    let low : get_or (take n keys) i d ≡ get_or keys i d = get_or-take n keys i d (omega arith) in
    let high : get_or (take n keys) j d ≡ get_or keys j d = get_or-take n keys j d (omega arith) in
    rw (low, high) (once i j d lt (omega arith))

full_places : (keys : List FamilyKey) (marks : List Mark) (family : Option FamilyKey) → AreMarks keys marks → IsPlaceTooHigh keys family → FillPlaces (marked keys marks) family
full_places keys marks None are high = high
full_places keys marks (Some key) are high =
    let place = high.0 in
    let inside : place < length (keys ++ key ∷ []) = slice_get_within (keys ++ key ∷ []) place key high.1.there in
    let within : place ≤ length keys = omega (arith, inside, length-append keys (key ∷ [])) in
    let long : length (take place keys) ≡ place = length-take-le place keys within in
    (take place keys, first_differ place keys are.once within, high.1.first, All-take (HasFamily (marked keys marks)) place keys are.used, omega (arith, long, high.2))

-- A denied binding has no mark, seen from the marks that there are.
pub unmarked : (keys : List FamilyKey) (marks : List Mark) (denied : Denied) → AreMarks keys marks → HasNoMark keys denied → IsUnmarked (marked keys marks) denied
unmarked keys marks denied are none =
    ⊎_elim (λ number. inl number) (λ high. inr (full_places keys marks denied.family are high)) none
