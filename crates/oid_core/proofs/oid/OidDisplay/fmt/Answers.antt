use Rattle.std.proofs.Common.{rules, arith, List, ℕ, subst}
use Rattle.std.specs.Fmt.{HasWritten}
use Rattle.std.proofs.lemmas.Grind.{common_steps}
use Rattle.oid_core.proofs.Texts.{joined, joined_dotted}
use Rattle.oid_core.proofs.oid.OidDisplay.fmt.Goals as goal

pub returns-after-loop-number-clause-writes : goal.returns-after-loop-number-clause-writes
returns-after-loop-number-clause-writes g c = λ plain same.
    let h : HasWritten g.W.Write.write_str_gives c.args.f.now (joined c.args.self.now) c.loop-number.f = first_of (search rules, grind (arith, common_steps)) in
    subst (λ (t : List ℕ). HasWritten g.W.Write.write_str_gives c.args.f.now t c.loop-number.f) (joined_dotted c.args.self.now) h
