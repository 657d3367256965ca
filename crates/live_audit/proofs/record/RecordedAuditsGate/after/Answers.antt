use Rattle.std.proofs.Common.{◌∙◌, ℕ, Global, List, Option, string_bytes, ap, subst}
use Rattle.std.specs.Prelude.{option_map}
use Rattle.live_audit.specs.Records.{HasLine}
use Rattle.live_audit.proofs.Recorded.{recorded}
use Rattle.live_audit.proofs.record.RecordedAuditsGate.after.Goals as goal

pub returns : goal.returns
returns g c =
    let bytes = option_map (string_bytes {Z = Global}) in
    let P : Option (List ℕ) → Type 0 = λ lines. HasLine c.args.request c.args.audit.now lines (bytes c.more_lines.result) in
    recorded c.args.self.now (bytes c.more_lines.result) c.args._worker c.args.request c.args.audit.now (subst P (ap bytes c.take.ensures.value ∙ c.self.view_is) c.more_lines.ensures)
