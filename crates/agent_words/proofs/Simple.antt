-- The words of `agentd` are simple, and no argument has a rule on another.
use Rattle.std.proofs.Common.{◌≡◌, true, refl}
use Rattle.clap.specs.Words.{is_simple, is_simple_and_free}
use Rattle.clap.proofs.OnLiterals.{clap_on_literals}
use Rattle.agent_words.specs.Options.{agent_app}

pub simple : is_simple agent_app ≡ true
unfolding clap_on_literals
simple = refl

pub free : is_simple_and_free agent_app ≡ true
unfolding clap_on_literals
free = refl
