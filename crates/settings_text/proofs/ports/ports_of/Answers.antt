use Rattle.std.proofs.Common.{◌≡◌, ℕ, ◌+◌, List, [], ◌∷◌, ◌++◌, map, sym, ap, ◌∙◌, arith}
use Rattle.std.specs.List.{range_with_len}
use Rattle.std.proofs.lemmas.List.FromFn.{map-range_with_len_more}
use Rattle.rstp_settings.specs.declared.key.PortValues.{PortValues}
use Rattle.settings_text.specs.PortRows.{values_of}
use Rattle.settings_text.proofs.ports.ports_of.Goals as goal

pub loop-n-preserved : goal.loop-n-preserved
loop-n-preserved c =
    let n = c.loop-n.n in
    let values : ℕ → PortValues = λ k. values_of c.args.rows.now (k + 1) in
    record {
      so_far = c.push.ensures.items ∙ (ap (λ (xs : List PortValues). xs ++ c.values_of.result ∷ []) c.loop-n.invariant.so_far ∙ (ap (λ v. map values (range_with_len 0 n) ++ v ∷ []) c.values_of.ensures ∙ sym (map-range_with_len_more values 0 n n (omega arith))));
      few = omega (arith, c.push.ensures.len, c.loop-n.invariant.few);
    }
