use Rattle.std.proofs.Common.{◌≡◌, ◌∙◌, ◌<◌, ◌+◌, ℕ, Bool, List, get_or, map, ap, false, rules}
use Rattle.std.specs.List.{list_any}
use Rattle.std.proofs.lemmas.List.FromFn.{fill_by_all}
use Rattle.fdb_core.specs.declared.port_set.PortSet.{PortSet}
use Rattle.toml.specs.View.{view}
use Rattle.settings_text.specs.StaticRows.{listed_port, lists_port}
use Rattle.settings_text.proofs.Viewed.{any_viewed}
use Rattle.settings_text.proofs.statics.set_of_listed.Goals as goal

pub returns : goal.returns
returns c =
    let count = c.args.count in
    let values = c.args.values.now in
    let of : List Bool → PortSet = λ ports. record { 0 = ports } in
    let each : (k : ℕ) → k < 32 → get_or c.loop-i.ports k false ≡ list_any (λ d. lists_port (k + 1) (listed_port count (view d))) values =
    search rules in
    ap of (fill_by_all (λ k. list_any (λ d. lists_port (k + 1) (listed_port count d)) (map view values)) c.loop-i.ports 32 false c.loop-i.invariant.size (λ k lt. each k lt ∙ any_viewed (λ d. lists_port (k + 1) (listed_port count d)) values))
