use Rattle.std.proofs.Common.{◌≡◌, ◌∙◌, ℕ, Bool, true, false, List, Some, None, ap, sym, subst}
use Rattle.std.specs.Option.{option_copied}
use Rattle.message_core.specs.Instances.{value_of}
use Rattle.vacm_core.specs.Hiding.{hides_all}
use Rattle.setphase_core.specs.Registry.{rows_of, owner_of}
use Rattle.setphase_core.specs.Passing.{open_instances}
use Rattle.agent_core.proofs.Passed.{value_unowned, value_passed, value_kept}
use Rattle.agent_core.proofs.served.ServedSource.get.Goals as goal

pub returns-in_default : goal.returns-in_default
returns-in_default g c =
    let rows = rows_of c.args.self.now.registry.now in
    let passes : List ℕ → Bool = hides_all c.args.self.now.view.families c.args.self.now.view.view in
    let none : owner_of rows c.as_slice-name.result.now ≡ None = sym c.owner_at.ensures ∙ ap option_copied c.in_default.is in
    subst (λ (name : List ℕ). None ≡ value_of (open_instances passes rows c.args.self.now.world.now) name) c.as_slice-name.ensures.value
    (value_unowned passes rows c.args.self.now.world.now c.as_slice-name.result.now c.known.ensures.apart none)

pub returns-then-hides_all : goal.returns-then-hides_all
returns-then-hides_all g c =
    let rows = rows_of c.args.self.now.registry.now in
    let passes : List ℕ → Bool = hides_all c.args.self.now.view.families c.args.self.now.view.view in
    let owner : owner_of rows c.as_slice-name.result.now ≡ Some c.in-Some.prefix.now = sym c.owner_at.ensures ∙ ap option_copied c.in-Some.is in
    let over : passes c.in-Some.prefix.now ≡ true = sym c.hides_all.ensures ∙ c.if-hides_all.true in
    subst (λ (name : List ℕ). None ≡ value_of (open_instances passes rows c.args.self.now.world.now) name) c.as_slice-name.ensures.value
    (value_passed passes rows c.args.self.now.world.now c.as_slice-name.result.now c.in-Some.prefix.now c.known.ensures.apart owner over)

pub returns : goal.returns
returns g c =
    let rows = rows_of c.args.self.now.registry.now in
    let passes : List ℕ → Bool = hides_all c.args.self.now.view.families c.args.self.now.view.view in
    let owner : owner_of rows c.as_slice-name.result.now ≡ Some c.in-Some.prefix.now = sym c.owner_at.ensures ∙ ap option_copied c.in-Some.is in
    let kept : passes c.in-Some.prefix.now ≡ false = sym c.hides_all.ensures ∙ c.if-hides_all.false in
    subst (λ (name : List ℕ). c.read_at.result ≡ value_of (open_instances passes rows c.args.self.now.world.now) name) c.as_slice-name.ensures.value
    (c.read_at.ensures ∙ value_kept passes rows c.args.self.now.world.now c.as_slice-name.result.now c.in-Some.prefix.now c.known.ensures.apart owner kept)
