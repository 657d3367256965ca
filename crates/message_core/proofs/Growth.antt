-- Where reading takes memory.
use Rattle.std.proofs.Common.{◌≡◌, ◌≢◌, ℕ, ℤ, eqb, cond, List, [], ◌∷◌, ◌++◌, Result, Ok, Err, IsOk, refl, sym, ap, subst, ◌∙◌, append_assoc, inl, inr}
use Rattle.std.proofs.lemmas.Bool.{eqb-true}
use Rattle.std.proofs.lemmas.List.{append-nil}
use Rattle.ber_core.specs.Encoding.{AreOctets, BeginsTlv}
use Rattle.oid_core.specs.declared.fault.OidFault.{OidFault}
use Rattle.oid_core.specs.declared.fault.OidFault.TheVariants as names
use Rattle.message_core.specs.Tags as tags
use Rattle.message_core.specs.Cause.{cause_of}
use Rattle.message_core.specs.declared.cause.DropCause.{DropCause}
use Rattle.message_core.specs.declared.cause.DropCause.TheVariants.{Malformed, Memory}
use Rattle.message_core.specs.declared.binding.Binding.{Binding}
use Rattle.oid_core.specs.Name.{BeginsLong}
use Rattle.oid_core.specs.Reading.{name_at}
use Rattle.message_core.specs.Message.{IsBinding, AreBindings, IsLongValue, HasLongName, HasLongValue, HasLongBinding, HasGrowth, HasGrowingList, HasGrowingBody, IsFirstFault}
use Rattle.message_core.specs.FirstFault.{any_at, content_at, nametlv_at, binding_at, numbers_at, head_at}
use Rattle.message_core.proofs.Readers.{bind_ok, test_ok, ok_is, content_fits, any_found, content_reads, nametlv_reads, binding_reads}
use Rattle.message_core.proofs.Requests.{Parts, numbers_found, head_found}
use Rattle.message_core.proofs.Causes.{PicksTags, tag_right}

content_found : (tag : ℕ) (octets : List ℕ) (x : List ℕ × List ℕ) → content_at tag octets ≡ Ok x → BeginsTlv octets tag x.0 x.1
unfolding content_at
content_found tag octets x e =
    let b = bind_ok (any_at octets) (λ t. cond (eqb t.0 tag) (Ok (t.1, t.2)) (Err Malformed)) x e in
    let g = test_ok (eqb b.0.0 tag) Malformed (Ok (b.0.1, b.0.2)) x b.2 in
    let f = any_found octets b.0 b.1 in
    let found : BeginsTlv octets tag b.0.1 b.0.2 = subst (λ (t : ℕ). BeginsTlv octets t b.0.1 b.0.2) (eqb-true _ _ g.0) f in
    subst (λ (y : List ℕ × List ℕ). BeginsTlv octets tag y.0 y.1) (ok_is (b.0.1, b.0.2) x g.1) found

pub long_name : (octets content rest : List ℕ) → content_at tags.object_identifier octets ≡ Ok (content, rest) → BeginsLong content → HasLongName octets
long_name octets content rest e long = record { content = content; rest = rest; head = content_found tags.object_identifier octets (content, rest) e; long = long }

pub long_value : (octets : List ℕ) (tag : ℕ) (content rest : List ℕ) → any_at octets ≡ Ok (tag, content, rest) → IsLongValue tag content → HasLongValue octets
long_value octets tag content rest e long = record { tag = tag; content = content; rest = rest; head = any_found octets (tag, content, rest) e; long = long }

pub named_by : (octets content rest name : List ℕ) → content_at tags.object_identifier octets ≡ Ok (content, rest) → name_at content ≡ Ok name → nametlv_at octets ≡ Ok (name, rest)
unfolding nametlv_at
named_by octets content rest name e n = rw (e, n) refl

pub long_by_name : (octets content rest : List ℕ) → content_at tags.sequence octets ≡ Ok (content, rest) → HasLongName content → HasLongBinding octets
long_by_name octets content rest e long = record { content = content; rest = rest; head = content_found tags.sequence octets (content, rest) e; long = inl long }

pub long_by_value : (octets content rest name value : List ℕ) → AreOctets octets → content_at tags.sequence octets ≡ Ok (content, rest) → nametlv_at content ≡ Ok (name, value) → HasLongValue value → HasLongBinding octets
long_by_value octets content rest name value fits e n long =
    let f = (content_reads tags.sequence).found octets (content, rest) fits e in
    let g = nametlv_reads.found content (name, value) (content_fits tags.sequence content f.front f.encoded f.front_fits) n in
    record {
      content = content;
      rest = rest;
      head = content_found tags.sequence octets (content, rest) e;
      long = inr (record { octets = g.front; name = name; value = value; named = g.encoded; parts = g.joined; long = long });
    }

-- ---- bindings one after the other

one_more : (front last : List ℕ) (bs : List Binding) (b : Binding) → AreBindings front bs → IsBinding last b → AreBindings (front ++ last) (bs ++ b ∷ [])
one_more front last [] b i is = (last, [], is, ap (λ (f : List ℕ). f ++ last) i ∙ sym (append-nil last), refl)
one_more front last (c ∷ bs) b i is = (i.0, i.1 ++ last, i.2, ap (λ (f : List ℕ). f ++ last) i.3 ∙ append_assoc i.0 i.1 last, one_more i.1 last bs b i.4 is)

some_last : (bs : List Binding) (b : Binding) → bs ++ b ∷ [] ≢ []
some_last [] b e = absurd cc
some_last (c ∷ bs) b e = absurd cc

-- the bindings that were read, and what is still read
pub record IsReadSoFar (content : List ℕ) (bindings : List Binding) (rest : List ℕ) : Type 0 where
  pub front : List ℕ
  pub read : AreBindings front bindings
  pub parts : content ≡ front ++ rest
  pub fits : AreOctets rest

pub nothing_read : (content : List ℕ) → AreOctets content → IsReadSoFar content [] content
nothing_read content fits = record { front = []; read = refl; parts = refl; fits = fits }

pub one_read : (content : List ℕ) (bs : List Binding) (rest : List ℕ) (b : Binding) (after : List ℕ) → IsReadSoFar content bs rest → binding_at rest ≡ Ok (b, after) → IsReadSoFar content (bs ++ b ∷ []) after
one_read content bs rest b after so_far e =
    let f = binding_reads.found rest (b, after) so_far.fits e in
    record {
      front = so_far.front ++ f.front;
      read = one_more so_far.front f.front bs b so_far.read f.encoded;
      parts = so_far.parts ∙ ap (λ (r : List ℕ). so_far.front ++ r) f.joined ∙ sym (append_assoc so_far.front f.front after);
      fits = f.rest_fits;
    }

pub grows_in_binding : (content : List ℕ) (bs : List Binding) (rest : List ℕ) → IsReadSoFar content bs rest → HasLongBinding rest → HasGrowth content
grows_in_binding content bs rest so_far long = record { front = so_far.front; rest = rest; bindings = bs; read = so_far.read; parts = so_far.parts; grows = inr long }

grows_behind : (content : List ℕ) (bs : List Binding) (rest : List ℕ) (b : Binding) (after : List ℕ) → IsReadSoFar content bs rest → binding_at rest ≡ Ok (b, after) → HasGrowth content
grows_behind content bs rest b after so_far e =
    let next = one_read content bs rest b after so_far e in
    record { front = next.front; rest = after; bindings = bs ++ b ∷ []; read = next.read; parts = next.parts; grows = inl (some_last bs b) }

grows_found : (content : List ℕ) (bs : List Binding) (rest : List ℕ) → IsReadSoFar content bs rest → (read : Result (Binding × List ℕ) DropCause) → binding_at rest ≡ read → IsOk read → HasGrowth content
grows_found content bs rest so_far (Ok x) e found = grows_behind content bs rest x.0 x.1 so_far e
grows_found content bs rest so_far (Err f) e found = absurd cc

-- the list's own growth, behind a binding that is read
pub grows_read : (content : List ℕ) (bs : List Binding) (rest : List ℕ) → IsReadSoFar content bs rest → IsOk (binding_at rest) → HasGrowth content
grows_read content bs rest so_far found = grows_found content bs rest so_far (binding_at rest) refl found

-- ---- a PDU and a datagram

pub grows_in_list : (octets list after : List ℕ) → content_at tags.sequence octets ≡ Ok (list, after) → HasGrowth list → HasGrowingList octets
grows_in_list octets list after e growth = record { list = list; after = after; head = content_found tags.sequence octets (list, after) e; growth = growth }

grows_in_body : (IsFirst : ℤ → Type 0) (content : List ℕ) (id first second : ℤ) (rest : List ℕ) → AreOctets content → numbers_at content ≡ Ok (id, first, second, rest) → IsFirst first → HasGrowingList rest → HasGrowingBody IsFirst content
grows_in_body IsFirst content id first second rest fits e taken list =
    let n = numbers_found content (id, first, second, rest) fits e in
    record {
      id_octets = n.id_octets;
      first_octets = n.first_octets;
      second_octets = n.second_octets;
      tail = rest;
      id = id;
      first = first;
      second = second;
      id_is = n.id_is;
      first_is = n.first_is;
      second_is = n.second_is;
      taken = taken;
      parts = n.parts;
      list = list;
    }

pub grows_in_pdu : {M K : Type 0} (kind_at : ℕ → Result K DropCause) (IsTaken : ℕ → Type 0) (IsFirst : ℤ → Type 0) (IsGiven : List ℕ → M → Type 0) → PicksTags kind_at IsTaken → (d : List ℕ) (h : Parts) (kind : K) (id first second : ℤ) (rest : List ℕ) → AreOctets d → head_at d ≡ Ok h → kind_at h.1 ≡ Ok kind → numbers_at h.2 ≡ Ok (id, first, second, rest) → IsFirst first → HasGrowingList rest → IsFirstFault IsTaken IsFirst IsGiven d Memory
unfolding tag_right
grows_in_pdu kind_at IsTaken IsFirst IsGiven picks d h kind id first second rest fits e k n taken list =
    let i = head_found d h fits e in (
      i.short,
      inr (record {
        tag = h.1;
        taken = picks.taken h.1 kind k;
        pdu = tag_right d h fits e;
        growing = grows_in_body IsFirst h.2 id first second rest i.body_fits n taken list;
      }),
    )

-- ---- want of memory by its cause

pub wants : (f : OidFault) → cause_of f ≡ Memory → f ≡ names.Memory
wants names.Memory e = refl
wants names.BadText e = absurd cc
wants names.TooLong e = absurd cc
wants names.BadContent e = absurd cc
wants names.NoRoom e = absurd cc
