-- What a lasting wire does.
use Rattle.std.specs.Prelude.{List, [], ◌∷◌}
use Rattle.wire_core.specs.declared.wire.WireFault.TheVariants.{Receive, Send}
use Rattle.wire_core.specs.Acts.{Act, got, quiet, closed, sent, failed}

-- No send of these acts failed.
abbrev pub NoSendFails : List Act → Type 0
NoSendFails [] = Unit
NoSendFails (got space peer octets ∷ acts) = NoSendFails acts
NoSendFails (quiet ∷ acts) = NoSendFails acts
NoSendFails (closed ∷ acts) = NoSendFails acts
NoSendFails (sent peer octets ∷ acts) = NoSendFails acts
NoSendFails (failed Receive ∷ acts) = NoSendFails acts
NoSendFails (failed Send ∷ acts) = ⊥
