use Rattle.std.proofs.Common.{◌≡◌, map, ◌≤◌, ◌<◌, ◌++◌, ◌∷◌, ◌∙◌, [], List, ℕ, ap, length, arith, vec_capacity, nat_le, refl, sym}
use Rattle.message_core.specs.declared.binding.Binding.{Binding}
use Rattle.agent_core.specs.declared.sent_binding.SentBinding.{SentBinding}
use Rattle.agent_core.specs.Fitting.{total}
use Rattle.agent_core.specs.Sending.{Sending}
use Rattle.agent_core.proofs.Longest.{true_le}
use Rattle.agent_core.proofs.SentBindings.{last_numbers, new_name, sending_is, names_reserved}
use Rattle.agent_core.proofs.fitting.FittingBindings.offer.Goals as goal

pub push_reserved-requires : goal.push_reserved-requires
push_reserved-requires c =
    let few : length c.self.inside.sent.items < vec_capacity c.self.inside.sent = names_reserved _ c.self.inside.numbers.items c.self.inside.sent.items _ c.self.invariant.0 c.self.invariant.1 in
    omega (arith, few)

pub invariant_of-self-2 : goal.invariant_of-self-2
invariant_of-self-2 c =
    let old = c.self.inside in
    let sending : Sending = record { space = old.space; bindings = old.bindings; stands = map (λ (x : SentBinding). x.stand) old.sent.items } in
    let b : Binding = record { name = c.args.prefix.now ++ c.args.index.now; value = c.args.value.now } in
    let mark : SentBinding = record { start = c.len-start.result; end = c.len.result; is_end = c.is_end.result; stand = c.args.stand } in
    let start : c.len-start.result ≡ length old.numbers.items = omega (arith, c.len-start.ensures) in
    let end : c.len.result ≡ length c.push_name.new.numbers.items = omega (arith, c.len.ensures) in
    let name = last_numbers old.numbers.items b.name c.deref.result.now c.len-start.result (c.deref.ensures.value ∙ c.push_name.ensures.items) start in
    let sent : c.push.new.self ≡ old.bindings ++ b ∷ [] =
    c.if-not-push.ensures.taken refl ∙ ap (λ (n : List ℕ). old.bindings ++ record { name = n; value = c.args.value.now } ∷ []) name in
    let fits : total (old.bindings ++ b ∷ []) ≤ old.space =
    true_le _ _ (sym (c.if-not-push.ensures.fits ∙ ap (λ (n : List ℕ). nat_le (total (old.bindings ++ record { name = n; value = c.args.value.now } ∷ [])) old.space) name)) in (
      sending_is sending old.numbers.items c.push_name.new.numbers.items old.sent.items c.push_reserved.new.self.items c.push.new.self b mark (map (λ (x : SentBinding). x.stand) c.push_reserved.new.self.items) c.self.invariant.0
          (new_name sending old.numbers.items c.push_name.new.numbers.items old.sent.items b mark c.self.invariant.0 c.push_name.ensures.items start end c.is_end.ensures c.requires.encodable c.requires.most fits)
          c.push_reserved.ensures.items sent,
      omega (arith, c.push_reserved.ensures.capacity, c.self.invariant.1),
      omega (arith, c.push_name.ensures.capacity, c.self.invariant.2),
    )
