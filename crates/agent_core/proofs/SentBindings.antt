-- Where the names of the bindings that are to be sent stand.
use Rattle.std.proofs.Common.{◌≡◌, ◌∙◌, ℕ, zero, suc, Bool, ◌+◌, ◌-◌, ◌/◌, ◌<◌, ◌≤◌, List, [], ◌∷◌, ◌++◌, length, map, take, drop, get_or, refl, sym, ap, ap₂, subst, arith}
use Rattle.std.proofs.lemmas.List.{drop-map, length-map, length-drop, length-append, drop-append-le, take-append-le, map-append}
use Rattle.std.proofs.Math.Seq.{take-length, drop-append_seam}
use Rattle.std.proofs.lemmas.List.Folds.{list_all-map}
use Rattle.std.specs.List.{list_all, AllByRecursion}
use Rattle.oid_core.specs.Name.{HasRoot}
use Rattle.oid_core.specs.declared.limits.TheConstants.{MAX_NUMBERS}
use Rattle.message_core.specs.Encodable.{AreEncodable, IsEncodableBinding}
use Rattle.message_core.specs.Instances.{names_of}
use Rattle.message_core.specs.declared.binding.Binding.{Binding}
use Rattle.message_core.proofs.Smallest.{binding_more}
use Rattle.agent_core.specs.declared.sent_binding.SentBinding.{SentBinding}
use Rattle.agent_core.specs.declared.source.Stand.{Stand}
use Rattle.agent_core.specs.Bulk.{is_end, all_end}
use Rattle.agent_core.specs.Fitting.{total, least_binding}
use Rattle.agent_core.specs.Sending.{Sending, IsSending, name_there, StandsWithin}
use Rattle.agent_core.proofs.Fits.{total-append, total_one, all_at, all_append}
use Rattle.agent_core.proofs.FewFit.{reserved, few_sent}

-- a name stands where it stood when more numbers stand behind
there_still : (numbers more : List ℕ) (s : SentBinding) → StandsWithin (length numbers) s → name_there (numbers ++ more) s ≡ name_there numbers s
there_still numbers more s h =
    let start : s.start ≤ length numbers = omega (arith, h.0, h.1) in
    let few : s.end - s.start ≤ length (drop s.start numbers) = omega (arith, h.0, h.1, length-drop s.start numbers) in
    ap (take (s.end - s.start)) (drop-append-le s.start numbers more start) ∙ take-append-le (s.end - s.start) (drop s.start numbers) more few

all_still : (numbers more : List ℕ) (names : List SentBinding) → AllByRecursion (StandsWithin (length numbers)) names →
    map (name_there (numbers ++ more)) names ≡ map (name_there numbers) names
all_still numbers more [] h = refl
all_still numbers more (s ∷ names) h = ap₂ (λ (n : List ℕ) (ns : List (List ℕ)). n ∷ ns) (there_still numbers more s h.0) (all_still numbers more names h.1)

-- the numbers that were put behind others
pub last_numbers : (numbers more slice : List ℕ) (start : ℕ) → slice ≡ numbers ++ more → start ≡ length numbers → take (length slice - start) (drop start slice) ≡ more
last_numbers numbers more slice start same at =
    let count : length slice - start ≡ length more = omega (arith, at, ap length same, length-append numbers more) in
    ap₂ (λ (n : ℕ) (ns : List ℕ). take n (drop start ns)) count same
    ∙ ap (λ (m : ℕ). take (length more) (drop m (numbers ++ more))) at
    ∙ ap (take (length more)) (drop-append_seam numbers more) ∙ take-length more

-- the name that stands last
stands_last : (numbers more : List ℕ) (s : SentBinding) → s.start ≡ length numbers → s.end ≡ length (numbers ++ more) → name_there (numbers ++ more) s ≡ more
stands_last numbers more s start end =
    ap (λ (n : ℕ). take (n - s.start) (drop s.start (numbers ++ more))) end ∙ last_numbers numbers more (numbers ++ more) s.start refl start

within_more : (m n : ℕ) (names : List SentBinding) → m ≤ n → AllByRecursion (StandsWithin m) names → AllByRecursion (StandsWithin n) names
within_more m n [] more h = tt
within_more m n (x ∷ names) more h = ((h.0.0, omega (arith, h.0.1, more)), within_more m n names more h.1)

total_more : (bs : List Binding) (b : Binding) → IsEncodableBinding b → total bs + length b.name ≤ total (bs ++ b ∷ [])
total_more bs b h = omega (arith, total-append bs (b ∷ []), total_one b, binding_more b h.name)

-- one binding more that is to be sent
pub record IsMore (old : Sending) (numbers new : List ℕ) (names : List SentBinding) (b : Binding) (s : SentBinding) : Type 0 where
  pub still : map (name_there new) names ≡ map (name_there numbers) names
  pub longer : length numbers ≤ length new
  pub added : length new ≤ length numbers + length b.name
  pub name : name_there new s ≡ b.name
  pub ends : s.is_end ≡ is_end b.value
  pub last : StandsWithin (length new) s
  pub fits : total (old.bindings ++ b ∷ []) ≤ old.space
  pub encodable : IsEncodableBinding b
  pub short : length b.name ≤ MAX_NUMBERS

sending_more : (old : Sending) (numbers new : List ℕ) (names : List SentBinding) (b : Binding) (s : SentBinding) (stands : List Stand) →
    IsSending old numbers names → IsMore old numbers new names b s →
    IsSending (record { space = old.space; bindings = old.bindings ++ b ∷ []; stands = stands }) new (names ++ s ∷ [])
sending_more old numbers new names b s stands h m = record {
  names_are =
      map-append (name_there new) names (s ∷ [])
      ∙ ap₂ (λ (ns : List (List ℕ)) (n : List ℕ). ns ++ n ∷ []) (m.still ∙ h.names_are) m.name
      ∙ sym (map-append (λ (a : Binding). a.name) old.bindings (b ∷ []));
  ends_are =
      map-append (λ (x : SentBinding). x.is_end) names (s ∷ [])
      ∙ ap₂ (λ (es : List Bool) (e : Bool). es ++ e ∷ []) h.ends_are m.ends
      ∙ sym (map-append (λ (a : Binding). is_end a.value) old.bindings (b ∷ []));
  each = all_append (StandsWithin (length new)) names (s ∷ []) (within_more (length numbers) (length new) names m.longer h.each) (m.last, tt);
  few = omega (arith, h.few, m.added, total_more old.bindings b m.encodable);
  within = m.fits;
  most = h.most;
  encodable = all_append IsEncodableBinding old.bindings (b ∷ []) h.encodable (m.encodable, tt);
  short = all_append (λ (a : Binding). length a.name ≤ MAX_NUMBERS) old.bindings (b ∷ []) h.short (m.short, tt);
}

at_name : (numbers : List ℕ) (names : List SentBinding) (i : ℕ) (s : SentBinding) → i < length names → s ≡ get_or names i s → name_there numbers s ≡ get_or (map (name_there numbers) names) i []
at_name numbers [] i s h at = absurd (omega (arith, h))
at_name numbers (x ∷ names) zero s h at = ap (name_there numbers) at
at_name numbers (x ∷ names) (suc i) s h at = at_name numbers names i s (omega (arith, h)) at

-- how many names there are
pub names_count : (numbers : List ℕ) (names : List SentBinding) (bs : List Binding) → map (name_there numbers) names ≡ names_of bs → length names ≡ length bs
names_count numbers names bs e = sym (length-map names (name_there numbers)) ∙ ap length e ∙ length-map bs (λ (b : Binding). b.name)

-- what is known of one name of many
pub name_is : (numbers : List ℕ) (names : List SentBinding) (bs : List Binding) (i : ℕ) (s : SentBinding) → map (name_there numbers) names ≡ names_of bs → i < length names → s ≡ get_or names i s →
    name_there numbers s ≡ get_or (names_of bs) i []
name_is numbers names bs i s e h at = at_name numbers names i s h at ∙ ap (λ (ns : List (List ℕ)). get_or ns i []) e

pub within_at : (count : ℕ) (names : List SentBinding) (i : ℕ) (s : SentBinding) → AllByRecursion (StandsWithin count) names → i < length names → s ≡ get_or names i s → StandsWithin count s
within_at count names i s all h at = subst (StandsWithin count) (sym at) (all_at (StandsWithin count) names i s all h)

pub root_at : (bs : List Binding) (i : ℕ) → AreEncodable bs → i < length bs → HasRoot (get_or (names_of bs) i [])
root_at [] i e h = absurd (omega (arith, h))
root_at (b ∷ bs) zero e h = e.0.name
root_at (b ∷ bs) (suc i) e h = root_at bs i e.1 (omega (arith, h))

pub short_at : (bs : List Binding) (i : ℕ) → AllByRecursion (λ (b : Binding). length b.name ≤ MAX_NUMBERS) bs → i < length bs → length (get_or (names_of bs) i []) ≤ MAX_NUMBERS
short_at [] i e h = absurd (omega (arith, h))
short_at (b ∷ bs) zero e h = e.0
short_at (b ∷ bs) (suc i) e h = short_at bs i e.1 (omega (arith, h))

-- a new name behind those of the others
pub new_name : (old : Sending) (numbers new : List ℕ) (names : List SentBinding) (b : Binding) (s : SentBinding) →
    IsSending old numbers names → new ≡ numbers ++ b.name → s.start ≡ length numbers → s.end ≡ length new → s.is_end ≡ is_end b.value →
    IsEncodableBinding b → length b.name ≤ MAX_NUMBERS → total (old.bindings ++ b ∷ []) ≤ old.space →
    IsMore old numbers new names b s
new_name old numbers new names b s h same start end is encodable short fits =
    let size : length new ≡ length numbers + length b.name = ap length same ∙ length-append numbers b.name in
    record {
      still = ap (λ (ns : List ℕ). map (name_there ns) names) same ∙ all_still numbers b.name names h.each;
      longer = omega (arith, size);
      added = omega (arith, size);
      name = ap (λ (ns : List ℕ). name_there ns s) same ∙ stands_last numbers b.name s start (end ∙ ap length same);
      ends = is;
      last = (omega (arith, start, end, size), omega (arith, end));
      fits = fits;
      encodable = encodable;
      short = short;
    }

-- the name of another binding once more
pub same_name : (old : Sending) (numbers : List ℕ) (names : List SentBinding) (b : Binding) (s : SentBinding) →
    IsSending old numbers names → name_there numbers s ≡ b.name → StandsWithin (length numbers) s → s.is_end ≡ is_end b.value →
    IsEncodableBinding b → length b.name ≤ MAX_NUMBERS → total (old.bindings ++ b ∷ []) ≤ old.space →
    IsMore old numbers numbers names b s
same_name old numbers names b s h name within is encodable short fits = record {
  still = refl;
  longer = omega arith;
  added = omega arith;
  name = name;
  ends = is;
  last = within;
  fits = fits;
  encodable = encodable;
  short = short;
}

pub sending_is : (old : Sending) (numbers new : List ℕ) (names marks : List SentBinding) (bindings : List Binding) (b : Binding) (s : SentBinding) (stands : List Stand) →
    IsSending old numbers names → IsMore old numbers new names b s → marks ≡ names ++ s ∷ [] → bindings ≡ old.bindings ++ b ∷ [] →
    IsSending (record { space = old.space; bindings = bindings; stands = stands }) new marks
sending_is old numbers new names marks bindings b s stands h m marked sent =
    subst (λ (ms : List SentBinding). IsSending (record { space = old.space; bindings = bindings; stands = stands }) new ms) (sym marked)
    (subst (λ (bs : List Binding). IsSending (record { space = old.space; bindings = bs; stands = stands }) new (names ++ s ∷ [])) (sym sent)
    (sending_more old numbers new names b s stands h m))

-- for one name more there is memory
pub names_reserved : (old : Sending) (numbers : List ℕ) (names : List SentBinding) (capacity : ℕ) → IsSending old numbers names → old.space / least_binding < capacity → length names < capacity
names_reserved old numbers names capacity h some =
    let few : length old.bindings < capacity = reserved old.bindings (total old.bindings) old.space capacity refl h.within some in
    omega (arith, few, names_count numbers names old.bindings h.names_are)

-- the last bindings are endOfMibView where that is kept of each
names_end : (bs : List Binding) (names : List SentBinding) (n : ℕ) → map (λ (s : SentBinding). s.is_end) names ≡ map (λ (b : Binding). is_end b.value) bs → list_all (λ (s : SentBinding). s.is_end) (drop n names) ≡ all_end (drop n bs)
names_end bs names n e =
    sym (list_all-map (λ (t : Bool). t) (λ (s : SentBinding). s.is_end) (drop n names))
    ∙ ap (list_all (λ (t : Bool). t)) (sym (drop-map (λ (s : SentBinding). s.is_end) n names) ∙ ap (drop n) e ∙ drop-map (λ (b : Binding). is_end b.value) n bs)
    ∙ list_all-map (λ (t : Bool). t) (λ (b : Binding). is_end b.value) (drop n bs)

rest : (k : ℕ) (names : List SentBinding) → take (length names - k) (drop k names) ≡ drop k names
rest k names = ap (λ (m : ℕ). take m (drop k names)) (sym (length-drop k names)) ∙ take-length (drop k names)

-- the same, of the last so many
pub last_end : (bs : List Binding) (names slice : List SentBinding) (len count : ℕ) → slice ≡ names → len ≡ length names → length names ≡ length bs → map (λ (s : SentBinding). s.is_end) names ≡ map (λ (b : Binding). is_end b.value) bs →
    list_all (λ (s : SentBinding). s.is_end) (take (length slice - (len - count)) (drop (len - count) slice)) ≡ all_end (drop (length bs - count) bs)
last_end bs names slice len count same l size e =
    ap (λ (ns : List SentBinding). list_all (λ (s : SentBinding). s.is_end) (take (length ns - (len - count)) (drop (len - count) ns))) same
    ∙ ap (list_all (λ (s : SentBinding). s.is_end)) (rest (len - count) names)
    ∙ names_end bs names (len - count) e ∙ ap (λ (m : ℕ). all_end (drop (m - count) bs)) (l ∙ size)
