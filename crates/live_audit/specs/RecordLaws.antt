-- Records of visits, one list behind another.
use Rattle.std.proofs.Common.{◌≡◌, ◌∙◌, ℕ, List, [], ◌∷◌, ◌++◌, Option, Some, None, inl, inr, refl, sym, ap, append-nil, append_assoc}
use Rattle.std.specs.Prelude.{option_map}
use Rattle.live_agent.specs.Deeds.{Visit}
use Rattle.live_audit.specs.AuditLines.{visit_line, visit_lines}
use Rattle.live_audit.specs.Records.{GoesRecorded}

visit_lines-append : (xs ys : List Visit) → visit_lines (xs ++ ys) ≡ visit_lines xs ++ visit_lines ys
visit_lines-append [] ys = refl
visit_lines-append (x ∷ xs) ys = ap (λ l. visit_line x ++ l) (visit_lines-append xs ys) ∙ sym (append_assoc (visit_line x) (visit_lines xs) (visit_lines ys))

front_empty : (xs ys : List ℕ) → xs ++ ys ≡ [] → xs ≡ []
front_empty [] ys is = refl
front_empty (x ∷ xs) ys is = cc

back_empty : (xs ys : List ℕ) → xs ++ ys ≡ [] → ys ≡ []
back_empty [] ys is = is
back_empty (x ∷ xs) ys is = cc

longer : (lines : Option (List ℕ)) (xs ys : List Visit) → option_map (λ kept. kept ++ visit_lines ys) (option_map (λ kept. kept ++ visit_lines xs) lines) ≡ option_map (λ kept. kept ++ visit_lines (xs ++ ys)) lines
longer None xs ys = refl
longer (Some kept) xs ys = ap Some (append_assoc kept (visit_lines xs) (visit_lines ys) ∙ ap (λ l. kept ++ l) (sym (visit_lines-append xs ys)))

pub starts : (lines : Option (List ℕ)) → GoesRecorded lines [] lines
starts None = inl refl
starts (Some kept) = inl (ap Some (sym (append-nil kept)))

pub goes_on : (a b c : Option (List ℕ)) (xs ys : List Visit) → GoesRecorded a xs b → GoesRecorded b ys c → GoesRecorded a (xs ++ ys) c
goes_on a b c xs ys (inl p) (inl q) = inl (q ∙ ap (option_map (λ kept. kept ++ visit_lines ys)) p ∙ longer a xs ys)
goes_on a b c xs ys (inr p) (inl q) = inr (
  q ∙ ap (option_map (λ kept. kept ++ visit_lines ys)) p.0,
  λ is. p.1 (front_empty (visit_lines xs) (visit_lines ys) (sym (visit_lines-append xs ys) ∙ is)),
)
goes_on a b c xs ys p (inr q) = inr (
  q.0,
  λ is. q.1 (back_empty (visit_lines xs) (visit_lines ys) (sym (visit_lines-append xs ys) ∙ is)),
)
