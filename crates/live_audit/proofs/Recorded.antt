-- What a record keeps of one visit.
use Rattle.std.proofs.Common.{◌≢◌, ◌∙◌, ℕ, List, [], ◌∷◌, ◌++◌, Option, Some, None, inl, inr, refl, sym, ap, append-nil}
use Rattle.audit_core.specs.declared.audit.Audit.{Audit}
use Rattle.live_agent.specs.declared.gate.AnsweredRequest.{AnsweredRequest}
use Rattle.live_agent.specs.Deeds.{before, after}
use Rattle.live_audit.specs.AuditLines.{request_line}
use Rattle.live_audit.specs.Records.{GoesRecorded, HasLine}

ends : (xs : List ℕ) (x : ℕ) → xs ++ x ∷ [] ≢ []
ends [] x is = cc
ends (y ∷ ys) x is = cc

line_ends : (request : AnsweredRequest) (audit : Audit) → request_line request audit ++ [] ≢ []
unfolding request_line
line_ends request audit is = ends _ 10 (sym (append-nil (request_line request audit)) ∙ is)

-- one line more is what a visit with that line leaves
pub recorded : (lines lines' : Option (List ℕ)) (worker : ℕ) (request : AnsweredRequest) (audit : Audit) → HasLine request audit lines lines' → GoesRecorded lines (after worker request audit ∷ []) lines'
recorded None lines' worker request audit (inl is) = inl is
recorded (Some kept) lines' worker request audit (inl is) =
    inl (is ∙ ap (λ l. Some (kept ++ l)) (sym (append-nil (request_line request audit))))
recorded lines lines' worker request audit (inr is) = inr (is, λ nil. line_ends request audit nil)

pub unvisited : (lines : Option (List ℕ)) (worker : ℕ) → GoesRecorded lines (before worker ∷ []) lines
unvisited None worker = inl refl
unvisited (Some kept) worker = inl (ap Some (sym (append-nil kept)))
