use Rattle.std.proofs.Common.{◌≡◌, ◌∙◌, ◌≤◌, Some, ap, sym, subst}
use Rattle.toml.specs.Data.{Members, members_depth}
use Rattle.settings_text.specs.Settings.{kept}
use Rattle.settings_text.specs.Writing.{settings_members}
use Rattle.settings_text.proofs.Depths.{settings_within}
use Rattle.settings_text.proofs.RoundTrip.{text_back}
use Rattle.settings_text.proofs.writing.settings_text.Goals as goal

pub returns-in-Ok-clause-document : goal.returns-in-Ok-clause-document
returns-in-Ok-clause-document c =
    let is = c.in_ok-table.ensures in
    rw (← is) (c.in-Ok.ensures.reads_back (subst (λ ms. members_depth ms ≤ 80) (sym is) (settings_within c.args.address (kept c.args.settings.now))))

pub returns-in-Ok-clause-reads_back : goal.returns-in-Ok-clause-reads_back
returns-in-Ok-clause-reads_back c =
    let is = c.in_ok-table.ensures in
    λ b address own h. text_back b (kept c.args.settings.now) c.args.address _ (rw (← is) (c.in-Ok.ensures.reads_back (subst (λ ms. members_depth ms ≤ 80) (sym is) (settings_within c.args.address (kept c.args.settings.now))))) address own h
