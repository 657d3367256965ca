use Rattle.std.proofs.Common.{ap, sym, ◌∙◌, Some}
use Rattle.policy_text.proofs.Utf8.{text_kept, text_refused}
use Rattle.policy_text.proofs.octets.text_of.Goals as goal

pub returns-in-Ok : goal.returns-in-Ok
returns-in-Ok c = ap Some c.in-Ok.ensures.cases.0 ∙ sym (text_kept c.args.octets.now c.in-Ok.ensures.cases.1)

pub returns-in-Err : goal.returns-in-Err
returns-in-Err c = sym (text_refused c.args.octets.now c.in-Err.ensures.cases.0)
