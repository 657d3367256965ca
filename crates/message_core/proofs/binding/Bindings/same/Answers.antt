use Rattle.std.proofs.Common.{rules, tests}
use Rattle.std.proofs.lemmas.Iterator.{YieldsList-from_slice, YieldsList-from_zip, same_from_all}
use Rattle.message_core.proofs.binding.Bindings.same.Goals as goal

pub returns-then-items-others : goal.returns-then-items-others
returns-then-items-others c =
    same_from_all c.all.new.self _ _ c.args.self.now c.args.other.now c.all.ensures.ran (YieldsList-from_zip (YieldsList-from_slice c.args.self.now cc) (YieldsList-from_slice c.args.other.now cc)) (search rules) (λ x q k. search (rules, tests)) (λ x q k. search (rules, tests))
