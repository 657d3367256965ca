use Rattle.std.proofs.Common.{refl}
use Rattle.agent_script.proofs.Hexadecimal.{is_hexadecimal}
use Rattle.agent_script.proofs.commands.is_hexadecimal.Goals as goal

pub returns-then-text-eq0 : goal.returns-then-text-eq0
returns-then-text-eq0 c = rw (c.has_only_digits.ensures, ← is_hexadecimal c.args.text.now, c.if-text-eq0.true) refl
