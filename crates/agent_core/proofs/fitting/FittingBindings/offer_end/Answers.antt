use Rattle.std.proofs.Common.{◌≡◌, map, ◌≤◌, ◌<◌, ◌-◌, ◌++◌, ◌∷◌, ◌∙◌, [], List, ℕ, ap, length, arith, vec_capacity, nat_le, refl, sym, get_or, true}
use Rattle.message_core.specs.declared.binding.Binding.{Binding}
use Rattle.message_core.specs.Encodable.{IsEncodableBinding}
use Rattle.message_core.specs.Instances.{names_of}
use Rattle.agent_core.specs.declared.sent_binding.SentBinding.{SentBinding}
use Rattle.agent_core.specs.Reading.{end_under}
use Rattle.agent_core.specs.Fitting.{total}
use Rattle.agent_core.specs.Sending.{Sending, name_there}
use Rattle.agent_core.proofs.Longest.{true_le}
use Rattle.agent_core.proofs.SentBindings.{name_is, names_count, within_at, root_at, short_at, same_name, sending_is, names_reserved}
use Rattle.agent_core.proofs.fitting.FittingBindings.offer_end.Goals as goal

pub push-requires-clause-short : goal.push-requires-clause-short
push-requires-clause-short c =
    let old = c.self.inside in
    let sent = c.self.invariant.0 in
    let size : length old.sent.items ≡ length old.bindings = names_count old.numbers.items old.sent.items old.bindings sent.names_are in
    let there : c.len.result - c.args.back < length old.sent.items = omega (arith, size, c.len.ensures, c.requires.some, c.requires.there, ap (λ s. length s.bindings) c.self.view_is) in
    let name = name_is old.numbers.items old.sent.items old.bindings (c.len.result - c.args.back) c.index.result.now sent.names_are there c.index.ensures in
    let short = short_at old.bindings (c.len.result - c.args.back) sent.short (omega (arith, there, size)) in
    rw c.deref.ensures.value (rw name short)

pub push-requires-clause-encodable : goal.push-requires-clause-encodable
push-requires-clause-encodable c =
    let old = c.self.inside in
    let sent = c.self.invariant.0 in
    let size : length old.sent.items ≡ length old.bindings = names_count old.numbers.items old.sent.items old.bindings sent.names_are in
    let there : c.len.result - c.args.back < length old.sent.items = omega (arith, size, c.len.ensures, c.requires.some, c.requires.there, ap (λ s. length s.bindings) c.self.view_is) in
    let name = name_is old.numbers.items old.sent.items old.bindings (c.len.result - c.args.back) c.index.result.now sent.names_are there c.index.ensures in
    let root = root_at old.bindings (c.len.result - c.args.back) sent.encodable (omega (arith, there, size)) in
    record { name = rw c.deref.ensures.value (rw name root); value = tt }

pub push_reserved-requires : goal.push_reserved-requires
push_reserved-requires c =
    let few : length c.self.inside.sent.items < vec_capacity c.self.inside.sent = names_reserved _ c.self.inside.numbers.items c.self.inside.sent.items _ c.self.invariant.0 c.self.invariant.1 in
    omega (arith, few)

pub invariant_of-self-2 : goal.invariant_of-self-2
invariant_of-self-2 c =
    let old = c.self.inside in
    let sending : Sending = record { space = old.space; bindings = old.bindings; stands = map (λ (x : SentBinding). x.stand) old.sent.items } in
    let known = c.self.invariant.0 in
    let size : length old.sent.items ≡ length old.bindings = names_count old.numbers.items old.sent.items old.bindings known.names_are in
    let there : c.len.result - c.args.back < length old.sent.items = omega (arith, size, c.len.ensures, c.requires.some, c.requires.there, ap (λ s. length s.bindings) c.self.view_is) in
    let name = name_is old.numbers.items old.sent.items old.bindings (c.len.result - c.args.back) c.index.result.now known.names_are there c.index.ensures in
    let b : Binding = end_under (get_or (names_of old.bindings) (c.len.result - c.args.back) []) in
    let mark : SentBinding = record { start = c.index.result.now.start; end = c.index.result.now.end; is_end = true; stand = c.args.stand } in
    let within = within_at (length old.numbers.items) old.sent.items (c.len.result - c.args.back) c.index.result.now known.each there c.index.ensures in
    let named : name_there c.deref.result.now mark ≡ b.name = ap (λ (ns : List ℕ). name_there ns mark) c.deref.ensures.value ∙ name in
    let sent : c.push.new.self ≡ old.bindings ++ b ∷ [] = c.if-not-push.ensures.taken refl ∙ ap (λ (n : List ℕ). old.bindings ++ end_under n ∷ []) named in
    let fits : total (old.bindings ++ b ∷ []) ≤ old.space =
    true_le _ _ (sym (c.if-not-push.ensures.fits ∙ ap (λ (n : List ℕ). nat_le (total (old.bindings ++ end_under n ∷ [])) old.space) named)) in
    let encodable : IsEncodableBinding b = record { name = root_at old.bindings (c.len.result - c.args.back) known.encodable (omega (arith, there, size)); value = tt } in
    let short = short_at old.bindings (c.len.result - c.args.back) known.short (omega (arith, there, size)) in (
      sending_is sending old.numbers.items old.numbers.items old.sent.items c.push_reserved.new.self.items c.push.new.self b mark (map (λ (x : SentBinding). x.stand) c.push_reserved.new.self.items) c.self.invariant.0
          (same_name sending old.numbers.items old.sent.items b mark c.self.invariant.0 name within refl encodable short fits)
          c.push_reserved.ensures.items sent,
      omega (arith, c.push_reserved.ensures.capacity, c.self.invariant.1),
      c.self.invariant.2,
    )
