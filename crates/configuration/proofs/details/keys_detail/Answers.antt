use Rattle.configuration.proofs.details.keys_detail.Goals as goal

pub returns-in_ok-rule-in-Other : goal.returns-in_ok-rule-in-Other
returns-in_ok-rule-in-Other c =
    rw (c.in-Other.is, ← c.unknown_key.ensures, ← c.in_ok-rule-in-Other.ensures) c.format.ensures.ok
