use Rattle.std.proofs.Common.{◌≡◌, ◌∙◌, ap, sym, take, arith}
use Rattle.std.proofs.lemmas.List.{take_rest}
use Rattle.frame_core.specs.declared.fault.FrameFault.TheVariants.{Short, TooLong, BadBpdu}
use Rattle.frame_core.specs.declared.mac.Mac.{Mac}
use Rattle.frame_core.proofs.Same.{group_from, other_from, to_other, to_group, fault_no_frame, reads_frame}
use Rattle.frame_core.proofs.Readings.{frame_reported, fault_reported}
use Rattle.frame_core.proofs.reading.read_frame.Goals as goal

pub returns-then-octets-lt-MIN_FRAME_LEN-clause-reading : goal.returns-then-octets-lt-MIN_FRAME_LEN-clause-reading
returns-then-octets-lt-MIN_FRAME_LEN-clause-reading c = sym (fault_reported c.args.octets.now Short (omega arith))

pub returns-then-octets-gt-MAX_FRAME_LEN-clause-reading : goal.returns-then-octets-gt-MAX_FRAME_LEN-clause-reading
returns-then-octets-gt-MAX_FRAME_LEN-clause-reading c = sym (fault_reported c.args.octets.now TooLong (omega arith))

pub returns-then-ne-clause-reading : goal.returns-then-ne-clause-reading
returns-then-ne-clause-reading c =
    let source = c.mac_of-source.ensures ∙ ap (take 6) (take_rest c.args.octets.now 6) in
    sym (frame_reported c.args.octets.now _ (to_other c.args.octets.now _ _ (omega arith) (omega arith) c.mac_of-destination.ensures source (other_from _ c.if-ne.ensures)))

pub returns-in-None-clause-only : goal.returns-in-None-clause-only
returns-in-None-clause-only c f h =
    let group = group_from _ c.if-ne.ensures in
    let is : take 6 c.args.octets.now ≡ _ = sym c.mac_of-destination.ensures ∙ ap (λ (m : Mac). m.0) group in
    absurd (fault_no_frame c.args.octets.now BadBpdu f (omega arith, omega arith, is, c.in-None.ensures) h)

pub returns-in-None-clause-reading : goal.returns-in-None-clause-reading
returns-in-None-clause-reading c =
    let group = group_from _ c.if-ne.ensures in
    let is : take 6 c.args.octets.now ≡ _ = sym c.mac_of-destination.ensures ∙ ap (λ (m : Mac). m.0) group in
    sym (fault_reported c.args.octets.now BadBpdu (omega arith, omega arith, is, c.in-None.ensures))

pub returns-in-Some-clause-found : goal.returns-in-Some-clause-found
returns-in-Some-clause-found c =
    to_group c.args.octets.now _ _ _ (omega arith) (omega arith) c.mac_of-destination.ensures (c.mac_of-source.ensures ∙ ap (take 6) (take_rest c.args.octets.now 6)) (group_from _ c.if-ne.ensures) c.in-Some.ensures

pub returns-in-Some-clause-only : goal.returns-in-Some-clause-only
returns-in-Some-clause-only c = (reads_frame c.args.octets.now _ (returns-in-Some-clause-found c)).only

pub returns-in-Some-clause-reading : goal.returns-in-Some-clause-reading
returns-in-Some-clause-reading c = sym (frame_reported c.args.octets.now _ (returns-in-Some-clause-found c))
