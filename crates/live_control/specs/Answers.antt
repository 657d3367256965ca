-- What an operator is answered to an event, in the words of a script.
use Rattle.std.specs.Prelude.{ℕ, codes, List, [], ◌++◌, Option}
use Rattle.frame_core.specs.declared.bpdu.Bpdu.{Bpdu}
use Rattle.frame_core.specs.declared.mac.Mac.{Mac}
use Rattle.history_core.specs.declared.applied.Applied.{Applied}
use Rattle.history_core.specs.declared.applied.Applied.TheVariants.{Done, Dropped, Short, HistoryFull}
use Rattle.history_core.specs.declared.event.Event.{Event}
use Rattle.history_core.specs.declared.event.Event.TheVariants as event
use Rattle.control_text.specs.Answers.{bpdu_lines}

-- what is stated first of an event that was entered: that a policy is in force
abbrev pub first_line : Event → List ℕ
first_line (event.Policy tables) = codes "policy ok\n"
first_line (event.Frame port frame) = []
first_line event.Tick = []
first_line (event.Link port up) = []
first_line (event.Request request) = []

-- what is stated behind those octets, by what became of the event: what the ports of a bridge of this
-- address send, or that it was not entered
abbrev pub answer_by : Mac → List ℕ → Applied → List (Option Bpdu) → List ℕ
answer_by source first (Done receipt audit) bpdus = first ++ bpdu_lines source 1 bpdus
answer_by source first (Dropped receipt cause audit) bpdus = first ++ bpdu_lines source 1 bpdus
answer_by source first (Short back) bpdus = codes "short\n"
answer_by source first (HistoryFull back) bpdus = codes "full\n"
