-- What is kept of the lines of visits in memory.
use Rattle.std.specs.Prelude.{◌≡◌, ◌≢◌, ◌⊎◌, ℕ, List, [], ◌++◌, Option, None, option_map}
use Rattle.audit_core.specs.declared.audit.Audit.{Audit}
use Rattle.live_agent.specs.declared.gate.AnsweredRequest.{AnsweredRequest}
use Rattle.live_agent.specs.Deeds.{Visit}
use Rattle.live_audit.specs.AuditLines.{request_line, visit_lines}

-- Behind the lines so far stands that of a request more; or nothing, for want of memory.
abbrev pub HasLine : AnsweredRequest → Audit → Option (List ℕ) → Option (List ℕ) → Type 0
HasLine request audit lines lines' =
    (lines' ≡ option_map (λ kept. kept ++ request_line request audit) lines) ⊎ (lines' ≡ None)

-- The lines so far, and nothing once there was no memory for one. Behind visits there stand the lines
-- before and those of the visits, in order; or nothing, where there was a line among them to be kept.
abbrev pub GoesRecorded : Option (List ℕ) → List Visit → Option (List ℕ) → Type 0
GoesRecorded lines visits lines' =
    (lines' ≡ option_map (λ kept. kept ++ visit_lines visits) lines)
    ⊎ ((lines' ≡ None) × (visit_lines visits ≢ []))
