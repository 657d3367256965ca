use Rattle.std.proofs.Common.{sym, ap, subst, ◌∙◌, List, ℕ, Bool}
use Rattle.std.specs.Option.{option_copied}
use Rattle.vacm_core.specs.Families.{in_view, is_included}
use Rattle.vacm_core.specs.Hiding.{hides_all}
use Rattle.setphase_core.specs.Registry.{rows_of, prefixes_of}
use Rattle.agent_core.specs.declared.source.Stand.{Stand}
use Rattle.agent_core.specs.Standing.{IsStand}
use Rattle.agent_core.proofs.Shown.{not_hidden, open_stand, front_shown}
use Rattle.agent_core.proofs.served.ServedSuccessors.is_shown.Goals as goal
use Rattle.agent_core.proofs.served.ServedSuccessors.is_shown.Goals.{in-Some, in_default-shown_front}

pub returns-clause-stands : goal.returns-clause-stands
returns-clause-stands g c =
    let shows : List ℕ → Bool = in_view c.args.self.now.view.families c.args.self.now.view.view in
    let passes : List ℕ → Bool = hides_all c.args.self.now.view.families c.args.self.now.view.view in
    let names : List (List ℕ) = prefixes_of (rows_of c.args.self.now.registry.now) in
    elim c.match-shown_front.branch [
      | in-Some w ↦
          subst (λ (s : Stand). IsStand shows passes names s c.args.name.now) (sym w.stand-is)
          (open_stand shows passes names c.args.stand.now c.args.name.now w.in-Some.front.now c.in-Ok.place _ _ _ (not_hidden c.args.self.now.view.families c.args.self.now.view.view) c.requires c.in-Ok.is w.begun_until-stand.ensures w.max-stand.ensures
          (front_shown shows c.args.name.now w.in-Some.front.now c.under-under.result.front (is_included c.under-under.result.answer) (sym (ap option_copied w.in-Some.is) ∙ c.shown_front.ensures) c.under-under.ensures.shown))
      | in_default-shown_front w ↦ subst (λ (s : Stand). IsStand shows passes names s c.args.name.now) (sym w.stand-is) (record { place = c.requires.place; until = c.requires.until; kept = c.requires.kept })
    ]
