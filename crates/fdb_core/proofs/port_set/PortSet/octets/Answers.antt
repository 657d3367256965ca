use Rattle.std.proofs.Common.{◌≡◌, ℕ, ◌+◌, ◌-◌, ◌*◌, List, [], ◌∷◌, ◌++◌, map, take, drop, sym, ap, ◌∙◌, arith}
use Rattle.std.specs.List.{range_with_len}
use Rattle.std.proofs.lemmas.List.FromFn.{map-range_with_len_more}
use Rattle.fdb_core.specs.PortSets.{octet_of_bits}
use Rattle.fdb_core.proofs.port_set.PortSet.octets.Goals as goal

pub loop-i-preserved : goal.loop-i-preserved
loop-i-preserved c =
    let s = c.args.self.now in
    let i = c.loop-i.i in
    let octet : ℕ → ℕ = λ k. octet_of_bits (take 8 (drop (8 * k) s.0)) in
    let eight : (8 * i + 8) - 8 * i ≡ 8 = omega arith in
    let here : c.octet_of.result ≡ octet i = c.octet_of.ensures ∙ ap (λ n. octet_of_bits (take n (drop (8 * i) s.0))) eight in
    record {
      so_far = c.push.ensures.items ∙ (ap (λ (xs : List ℕ). xs ++ c.octet_of.result ∷ []) c.loop-i.invariant.so_far ∙ (ap (λ o. map octet (range_with_len 0 i) ++ o ∷ []) here ∙ sym (map-range_with_len_more octet 0 i i (omega arith))));
      few = omega (arith, c.push.ensures.len, c.loop-i.invariant.few);
    }
