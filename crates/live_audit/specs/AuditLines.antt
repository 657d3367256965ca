-- The lines of audited requests, of each that made an entry.
use Rattle.std.specs.Prelude.{ℕ, codes, decimal, List, [], ◌∷◌, ◌++◌}
use Rattle.std.specs.Fmt.{signed_decimal}
use Rattle.std.specs.List.{flat_map}
use Rattle.std.specs.Net.Text.{socket_text}
use Rattle.audit_core.specs.Text.{audit_text}
use Rattle.audit_core.specs.declared.audit.Audit.{Audit}
use Rattle.live_agent.specs.declared.gate.AnsweredRequest.{AnsweredRequest}
use Rattle.live_agent.specs.Deeds.{Visit, before, after}

-- the number of its entry, who asked, and its request-id
unfoldable pub request_text : AnsweredRequest → List ℕ
request_text request =
    decimal request.number ++ codes " " ++ socket_text request.peer ++ codes " "
    ++ signed_decimal request.request_id

-- that, its audit, and a line feed
unfoldable pub request_line : AnsweredRequest → Audit → List ℕ
request_line request audit = request_text request ++ codes " " ++ audit_text audit ++ 10 ∷ []

-- the line of a visit: behind a request there is one, ahead of it none
abbrev pub visit_line : Visit → List ℕ
visit_line (before worker) = []
visit_line (after worker request audit) = request_line request audit

-- the lines of visits, in order
abbrev pub visit_lines : List Visit → List ℕ
visit_lines visits = flat_map visit_line visits
