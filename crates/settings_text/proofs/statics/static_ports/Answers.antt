use Rattle.std.proofs.Common.{sym, ◌∙◌}
use Rattle.settings_text.proofs.Viewed.{all_viewed, listed_ports, unlisted_ports}
use Rattle.settings_text.specs.StaticRows.{listed_port, is_listed}
use Rattle.settings_text.proofs.statics.static_ports.Goals as goal

pub returns-then-are_listed : goal.returns-then-are_listed
returns-then-are_listed c =
    listed_ports c.args.count c.in-Some.values.now.items c.as_slice.result.now c.as_slice-then-are_listed.result.now _ c.set_of_listed.result c.in-Some.ensures c.as_slice.ensures.value c.as_slice-then-are_listed.ensures.value (sym (all_viewed (λ d. is_listed (listed_port c.args.count d)) c.as_slice.result.now) ∙ (sym c.are_listed.ensures ∙ c.if-are_listed.true)) c.set_of_listed.ensures

pub returns-else-are_listed : goal.returns-else-are_listed
returns-else-are_listed c =
    unlisted_ports c.args.count c.in-Some.values.now.items c.as_slice.result.now _ c.in-Some.ensures c.as_slice.ensures.value (sym (all_viewed (λ d. is_listed (listed_port c.args.count d)) c.as_slice.result.now) ∙ (sym c.are_listed.ensures ∙ c.if-are_listed.false))
