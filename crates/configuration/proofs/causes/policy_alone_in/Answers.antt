use Rattle.std.proofs.Common.{sym}
use Rattle.configuration.proofs.CauseLemmas.{no_text, alone_if}
use Rattle.configuration.proofs.causes.policy_alone_in.Goals as goal

pub returns-in-Some-clause-alone : goal.returns-in-Some-clause-alone
returns-in-Some-clause-alone c =
    alone_if c.args.octets.now c.in-Some.text.now c.alone_in_text.result (sym c.in-Some.ensures) c.alone_in_text.ensures.text

pub returns-in-None-clause-alone : goal.returns-in-None-clause-alone
returns-in-None-clause-alone c = no_text c.args.octets.now (sym c.in-None.ensures)
