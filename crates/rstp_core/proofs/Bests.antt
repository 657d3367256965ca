-- The order of vectors is total, so the best of candidates that none beats is the one that a pass keeps.
use Rattle.std.proofs.Common.{◌≡◌, ℕ, ◌+◌, ◌<◌, ◌≤◌, false, List, [], ◌∷◌, length, take, get_or, refl, sym, ap, subst, ◌∙◌}
use Rattle.std.specs.Cmp.{IsTotalOrder, IsStrictWeakOrder}
use Rattle.std.specs.List.{filter_map, best_of}
use Rattle.std.proofs.lemmas.Cmp.{then_total, on_total, nat_cmp_total, nat_list_cmp_total}
use Rattle.std.proofs.lemmas.List.MinMax.{ranks_by, IsFirstBest-from_best_of}
use Rattle.std.proofs.lemmas.List.{get_or_default, take_more, take_all}
use Rattle.std.proofs.lemmas.List.Elements.{filter_map-append}
use Rattle.std.proofs.lemmas.List.Sums.{fold-append}
use Rattle.std.specs.Prelude.{Option, Some, None}
use Rattle.std.specs.declared.cmp.Ordering.{Ordering}
use Rattle.std.specs.declared.cmp.Ordering.TheVariants.{Less, Equal, Greater}
use Rattle.std.specs.Ordering.{nat_cmp, ordering_then, ordering_reverse}
use Rattle.std.specs.FinMap.{nat_cmp-IsAntisymmetric, slice_cmp-IsAntisymmetric}
use Rattle.std.proofs.lemmas.List.Elements.{All-contains}
use Rattle.std.proofs.lemmas.Bool.{true≢false}
use Rattle.frame_core.specs.declared.bpdu.BridgeId.{BridgeId}
use Rattle.frame_core.specs.declared.bpdu.PriorityVector.{PriorityVector}
use Rattle.rstp_rules.specs.declared.row.Best.{Best}
use Rattle.rstp_rules.specs.declared.row.PortInEvent.{PortInEvent}
use Rattle.rstp_rules.specs.Vectors.{bridge_cmp, vector_cmp}
use Rattle.rstp_rules.specs.Roles.{best_cmp, beats, own_best, candidate, candidates, or_better, IsBest}

pub bridge_total : IsTotalOrder bridge_cmp
bridge_total = then_total (on_total (λ b. b.priority) nat_cmp_total) (on_total (λ b. b.address.0) nat_list_cmp_total)

vector_total : IsTotalOrder vector_cmp
vector_total = then_total (on_total (λ v. v.root) bridge_total) (then_total (on_total (λ v. v.cost) nat_cmp_total) (then_total (on_total (λ v. v.bridge) bridge_total) (on_total (λ v. v.port) nat_cmp_total)))

best_total : IsTotalOrder best_cmp
best_total = then_total (on_total (λ b. b.vector) vector_total) (on_total (λ b. b.receiver) nat_cmp_total)

beats_ranks : IsStrictWeakOrder beats
beats_ranks = ranks_by best_total (λ b. b)

-- the best that a scan keeps is a least element
pub IsBest-best_of : (own : BridgeId) (rows : List PortInEvent) → IsBest (candidates own rows) (best_of beats (own_best own) (filter_map (candidate own) rows))
IsBest-best_of own rows =
    let a = own_best own in
    let bs = filter_map (candidate own) rows in
    let first = IsFirstBest-from_best_of beats_ranks a bs in
    let at : get_or (a ∷ bs) first.0 a ≡ best_of beats a bs = first.2 in
    record {
      one = (first.0, first.1.0, get_or_default (a ∷ bs) first.0 (best_of beats a bs) a first.1.0 ∙ at);
      least = λ k d h. subst (λ b. beats (get_or (a ∷ bs) k d) b ≡ false) (get_or_default (a ∷ bs) first.0 d a first.1.0 ∙ at) (first.1.1 k d h);
    }

one_more : (own : BridgeId) (row : PortInEvent) (b : Best) (o : Option Best) → candidate own row ≡ o → best_of beats b (filter_map (candidate own) (row ∷ [])) ≡ or_better b o
one_more own row b None e = rw e
one_more own row b (Some c) e = rw e

-- one more row of a scan
pub best_more : (own : BridgeId) (rows : List PortInEvent) (i : ℕ) (d : PortInEvent) (b : Best) → i < length rows → b ≡ best_of beats (own_best own) (filter_map (candidate own) (take i rows)) → or_better b (candidate own (get_or rows i d)) ≡ best_of beats (own_best own) (filter_map (candidate own) (take (i + 1) rows))
best_more own rows i d b within e =
    rw (take_more rows i d within, filter_map-append (candidate own) (take i rows) (get_or rows i d ∷ []), fold-append, ← e) (sym (one_more own (get_or rows i d) b (candidate own (get_or rows i d)) refl))

-- a scan of all rows
pub best_whole : (own : BridgeId) (rows : List PortInEvent) (i : ℕ) (b : Best) → length rows ≤ i → b ≡ best_of beats (own_best own) (filter_map (candidate own) (take i rows)) → IsBest (candidates own rows) b
best_whole own rows i b past e = rw (e, take_all i rows past) (IsBest-best_of own rows)

then_equal : (o p : Ordering) → ordering_then o p ≡ Equal → (o ≡ Equal) × (p ≡ Equal)
then_equal Equal p e = (refl, e)
then_equal Less p e = cc
then_equal Greater p e = cc

bridge_exact : (b d : BridgeId) → bridge_cmp b d ≡ Equal → b ≡ d
bridge_exact b d e =
    let h = then_equal (nat_cmp b.priority d.priority) _ e in
    let priority = nat_cmp-IsAntisymmetric b.priority d.priority h.0 in
    let octets = slice_cmp-IsAntisymmetric nat_cmp-IsAntisymmetric b.address.0 d.address.0 h.1 in
    λ i. record { priority = priority i; address = record { 0 = octets i } }

vector_exact : (v w : PriorityVector) → vector_cmp v w ≡ Equal → v ≡ w
vector_exact v w e =
    let a = then_equal (bridge_cmp v.root w.root) _ e in
    let b = then_equal (nat_cmp v.cost w.cost) _ a.1 in
    let d = then_equal (bridge_cmp v.bridge w.bridge) _ b.1 in
    let root = bridge_exact v.root w.root a.0 in
    let cost = nat_cmp-IsAntisymmetric v.cost w.cost b.0 in
    let bridge = bridge_exact v.bridge w.bridge d.0 in
    let port = nat_cmp-IsAntisymmetric v.port w.port d.1 in
    λ i. record { root = root i; cost = cost i; bridge = bridge i; port = port i }

best_exact : (a b : Best) → best_cmp a b ≡ Equal → a ≡ b
best_exact a b e =
    let h = then_equal (vector_cmp a.vector b.vector) _ e in
    let vector = vector_exact a.vector b.vector h.0 in
    let receiver = nat_cmp-IsAntisymmetric a.receiver b.receiver h.1 in
    λ i. record { vector = vector i; receiver = receiver i }

neither : (a b : Best) (o : Ordering) → best_cmp a b ≡ o → beats a b ≡ false → beats b a ≡ false → a ≡ b
neither a b Equal e f g = best_exact a b e
neither a b Less e f g = absurd (true≢false (rw e at f))
neither a b Greater e f g =
    let turned : best_cmp b a ≡ Less = best_total.antisymm b a ∙ ap ordering_reverse e in
    absurd (true≢false (rw turned at g))

-- there is one least element
pub IsBest-unique : (bs : List Best) (a b : Best) → IsBest bs a → IsBest bs b → a ≡ b
IsBest-unique bs a b h i = neither a b (best_cmp a b) refl (All-contains (λ c. beats c b ≡ false) bs a i.least h.one) (All-contains (λ c. beats c a ≡ false) bs b h.least i.one)
