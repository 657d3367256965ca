use Rattle.std.proofs.Common.{◌+◌, rules, arith, get_or, take}
use Rattle.std.specs.Fmt.{HasWritten}
use Rattle.std.specs.List.{flat_map}
use Rattle.std.proofs.lemmas.Grind.{common_steps, put_two}
use Rattle.rstp_settings.specs.declared.key.Key.TheVariants.{Bridge}
use Rattle.rstp_settings.specs.declared.key.BridgeKey.TheVariants.{Priority}
use Rattle.audit_core.specs.Text.{unrestored_text}
use Rattle.audit_core.proofs.Behind.{one_behind}
use Rattle.audit_core.proofs.unrestored.WrittenUnrestoredDisplay.fmt.Goals as goal

pub loop-key-preserved : goal.loop-key-preserved
loop-key-preserved g c = λ plain.
    let keys = c.as_slice-key-items.result.now in
    let i = c.loop-key.key-index in
    let first = Bridge Priority in
    let before = c.loop-key.invariant plain in
    let one : HasWritten g.W.Write.write_str_gives c.loop-key.f (unrestored_text (get_or keys i first)) c.write.new.self = first_of (search rules, grind (arith, common_steps)) in
    put_two g.W.Write.write_str_gives c.args.f.now c.loop-key.f c.write.new.self
    (flat_map unrestored_text (take i keys)) (unrestored_text (get_or keys i first))
    (flat_map unrestored_text (take (i + 1) keys)) before one
    (one_behind keys i first c.loop-key-test.true)
