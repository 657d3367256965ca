-- Writing one thing after another.
use Rattle.std.proofs.Common.{◌≡◌, ℕ, List, ◌++◌, length, Result, Ok, Err, sym, ap, ◌∙◌, arith, append_assoc, take, drop, ◌-◌, ◌≤◌, refl}
use Rattle.std.specs.Prelude.{OnOk}
use Rattle.std.proofs.lemmas.List.{length-append, length-drop, drop_at, take-take}
use Rattle.ber_core.specs.declared.fault.BerFault.{BerFault}
use Rattle.ber_core.specs.declared.out.Out.{Out}
use Rattle.ber_core.specs.Writing.{written_octets, capacity, Prepends, KeepsFront}

pub prepends_then : (a b c : Out) (r : Result (Unit {0}) BerFault) (x y : List ℕ) → written_octets b ≡ x ++ written_octets a → capacity b ≡ capacity a → Prepends b c r y → Prepends a c r (y ++ x)
prepends_then a b c (Ok u) x y w k p = (p.0 ∙ ap (λ (t : List ℕ). y ++ t) w ∙ sym (append_assoc y x (written_octets a)), p.1 ∙ k)
prepends_then a b c (Err f) x y w k p =
    (p.0, (let e = ap (λ (t : List ℕ). length (y ++ t)) w ∙ ap length (sym (append_assoc y x (written_octets a))) in omega (arith, p.1, e, k)), p.2 ∙ k)

pub prepends_stop : (a b : Out) (f : BerFault) (x y : List ℕ) → Prepends a b (Err f) x → Prepends a b (Err f) (y ++ x)
prepends_stop a b f x y p = (p.0, omega (arith, p.1, length-append x (written_octets a), length-append (y ++ x) (written_octets a), length-append y x), p.2)

pub written_then : (a b c x y : List ℕ) → b ≡ x ++ a → c ≡ y ++ b → c ≡ (y ++ x) ++ a
written_then a b c x y p q = q ∙ ap (λ (t : List ℕ). y ++ t) p ∙ sym (append_assoc y x a)

-- what was written since is taken back
pub truncated : (before after back more : List ℕ) → after ≡ more ++ before → back ≡ drop (length after - length before) after → back ≡ before
truncated before after back more w b =
    let extra : length after - length before ≡ length more = omega (arith, ap length w, length-append more before) in
    b ∙ ap (λ (n : ℕ). drop n after) extra ∙ ap (λ (t : List ℕ). drop (length more) t) w ∙ drop_at more before (length more) refl

-- what two puts, one after the other, leave in front
pub front_then : (a b c : Out) (r : Result (Unit {0}) BerFault) (x : List ℕ) → Prepends b c r x → KeepsFront a b → OnOk r (KeepsFront b c) → OnOk r (KeepsFront a c)
front_then a b c (Ok u) x p k h =
    let within = c.within in
    let less : c.start ≤ b.start = omega (arith, within, p.1, ap length p.0, length-append x (written_octets b), length-drop c.start c.space.now, length-drop b.start b.space.now) in
    h ∙ sym (take-take c.start b.start b.space.now less) ∙ ap (λ (t : List ℕ). take c.start t) k ∙ take-take c.start b.start a.space.now less
front_then a b c (Err f) x p k h = tt
