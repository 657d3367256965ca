use Rattle.std.proofs.Common.{◌≡◌, ◌∙◌, ◌+◌, ◌++◌, ap, sym, subst, drop, rules, Some, length, replicate, arith}
use Rattle.frame_core.specs.Frames.{IsFrame}
use Rattle.frame_core.specs.declared.mac.TheConstants.{BRIDGE_GROUP}
use Rattle.frame_core.specs.Sending.{header_octets, bpdu_octets, bpdu_len, frame_octets}
use Rattle.frame_core.proofs.Puts.{puts_frame}
use Rattle.frame_core.proofs.Sent.{frame_laid, header_len}
use Rattle.frame_core.proofs.writing.write_bpdu.Goals as goal

pub returns-clause-octets : goal.returns-clause-octets
unfolding frame_octets
returns-clause-octets c =
    let b = c.args.bpdu.now in
    let source = c.args.source in
    let n = 3 + bpdu_len b in
    let len : length c.args.frame.now ≡ 60 = omega arith in
    let filled : c.fill.new.self ≡ replicate 60 0 = c.fill.ensures.after (λ y h. search rules) ∙ ap (λ k. replicate k 0) len in
    puts_frame (bpdu_len b) (header_octets source n) (bpdu_octets b) c.fill.new.self _ _ (header_len source n c.put_header.ensures.source) filled (c.put_header.ensures.octets ∙ ap (λ k. header_octets source (3 + k) ++ drop 17 c.fill.new.self) c.bpdu_len_of.ensures) c.put_bpdu.ensures.octets

pub returns-clause-reads_back : goal.returns-clause-reads_back
returns-clause-reads_back c =
    subst (λ l. IsFrame l (record { destination = BRIDGE_GROUP; source = c.args.source; bpdu = Some c.args.bpdu.now })) (sym (returns-clause-octets c)) (frame_laid c.args.source c.args.bpdu.now c.put_header.ensures.source c.put_bpdu.ensures.fits)
