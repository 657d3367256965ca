use Rattle.std.proofs.Common.{ℕ, length, ◌≡◌, ◌<◌, get_or, rules, ap₂, ◌∙◌}
use Rattle.std.specs.Ordering.{nat_cmp, ordering_then}
use Rattle.frame_core.proofs.Compared.{by_numbers}
use Rattle.frame_core.proofs.mac.MacOrd.cmp.Goals as goal

pub returns : goal.returns
returns c =
    let six : length c.args.self.now.0 ≡ 6 = search rules in
    let more : length c.args.other.now.0 ≡ 6 = search rules in
    let low : (k : ℕ) → get_or c.args.self.now.0 k 0 < 256 = search rules in
    let below : (k : ℕ) → get_or c.args.other.now.0 k 0 < 256 = search rules in
    c.cmp.ensures
    ∙ (ap₂ ordering_then (ap₂ nat_cmp c.from_be_bytes.ensures c.from_be_bytes-3.ensures) (ap₂ nat_cmp c.from_be_bytes-2.ensures c.from_be_bytes-4.ensures)
    ∙ by_numbers c.args.self.now.0 c.args.other.now.0 six more low below)
