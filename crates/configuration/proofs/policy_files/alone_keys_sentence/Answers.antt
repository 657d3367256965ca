use Rattle.configuration.proofs.policy_files.alone_keys_sentence.Goals as goal

pub returns : goal.returns
returns c = rw (← c.unknown_key.ensures, ← c.in_ok-rule.ensures) c.format.ensures.ok
