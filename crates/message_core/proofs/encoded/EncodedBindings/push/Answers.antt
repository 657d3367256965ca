use Rattle.std.proofs.Common.{ℕ, ◌+◌, ◌≤◌, List, [], ◌∷◌, ◌++◌, length, take, ap, sym, subst, ◌∙◌, arith}
use Rattle.message_core.specs.declared.binding.Binding.{Binding}
use Rattle.message_core.specs.declared.limits.TheConstants.{MAX_REPLY}
use Rattle.message_core.specs.Canon.{canon_bindings}
use Rattle.message_core.specs.Encodable.{HasEncoding}
use Rattle.message_core.specs.Encoded.{bindings_in, AreShortest}
use Rattle.message_core.proofs.Kept.{more_kept, more_read, length_kept, longer}
use Rattle.message_core.proofs.encoded.EncodedBindings.push.Goals as goal

pub write_behind-requires-clause-within : goal.write_behind-requires-clause-within
write_behind-requires-clause-within c =
    let same = length_kept c.self.inside.len c.self.inside.octets.value (omega (arith, c.self.invariant.0, c.self.invariant.1)) c.self.invariant.2 in
    omega (arith, same, ap (λ (bs : List Binding). length (canon_bindings bs)) c.self.view_is, c.requires.within)

pub invariant_of-self-in-Some : goal.invariant_of-self-in-Some
invariant_of-self-in-Some c =
    let old = c.self.inside in
    let b : Binding = record { name = c.args.name.now; value = c.args.value.now } in
    let has : HasEncoding b = record { encodable = c.requires.encodable; name = record { most = c.requires.short; each = c.known_numbers.ensures }; value = c.known_value.ensures } in
    let written = c.in-Some.ensures.written in
    let most : old.len + c.in-Some.len ≤ MAX_REPLY = omega (arith, written.1, c.requires.most) in
    let kept = subst (λ (o : List ℕ). AreShortest (take old.len o)) (sym c.deref_mut.ensures.value) c.self.invariant.2 in
    (most, omega (arith, c.write_behind.ensures.same_length, ap (λ (o : List ℕ). length o) c.deref_mut.ensures.value, c.self.invariant.1), more_kept old.len c.in-Some.len c.deref_mut.result.now c.write_behind.new.octets b most kept has written.2)

pub invariant_of-self : goal.invariant_of-self
invariant_of-self c =
    let same = c.write_behind.ensures.front ∙ ap (λ (o : List ℕ). take c.self.inside.len o) c.deref_mut.ensures.value in (
      c.self.invariant.0,
      omega (arith, c.write_behind.ensures.same_length, ap (λ (o : List ℕ). length o) c.deref_mut.ensures.value, c.self.invariant.1),
      subst AreShortest (sym same) c.self.invariant.2,
    )

pub returns-in-None-clause-fits : goal.returns-in-None-clause-fits
returns-in-None-clause-fits c =
    let b : Binding = record { name = c.args.name.now; value = c.args.value.now } in
    let same = length_kept c.self.inside.len c.self.inside.octets.value (omega (arith, c.self.invariant.0, c.self.invariant.1)) c.self.invariant.2 in
    longer c.args.self.now b c.args.most (omega (arith, same, ap (λ (bs : List Binding). length (canon_bindings bs)) c.self.view_is, c.in-None.ensures.written))

pub returns-in-Some-clause-taken : goal.returns-in-Some-clause-taken
returns-in-Some-clause-taken c = λ taken.
    let old = c.self.inside in
    let b : Binding = record { name = c.args.name.now; value = c.args.value.now } in
    let has : HasEncoding b = record { encodable = c.requires.encodable; name = record { most = c.requires.short; each = c.known_numbers.ensures }; value = c.known_value.ensures } in
    let written = c.in-Some.ensures.written in
    let most : old.len + c.in-Some.len ≤ MAX_REPLY = omega (arith, written.1, c.requires.most) in
    let kept = subst (λ (o : List ℕ). AreShortest (take old.len o)) (sym c.deref_mut.ensures.value) c.self.invariant.2 in
    more_read old.len c.in-Some.len c.deref_mut.result.now c.write_behind.new.octets b most kept has written.2
    ∙ ap (λ (o : List ℕ). bindings_in (take old.len o) ++ b ∷ []) c.deref_mut.ensures.value
    ∙ ap (λ (bs : List Binding). bs ++ b ∷ []) c.self.view_is
