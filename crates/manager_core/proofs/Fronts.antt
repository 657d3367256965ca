-- What an output takes of a text, write by write.
use Rattle.std.proofs.Common.{◌≡◌, ℕ, List, ◌++◌, Option, take, drop, sym, ap, ◌∙◌, append_assoc, take-append-drop}
use Rattle.std.specs.Io.KnownBytes.{Appends, Keeps}
use Rattle.std.proofs.KnownBytes.{Appends-trans, Appends-kept}

-- an output took what stands before the rest
pub record IsPart (old new : Option (List ℕ)) (text rest : List ℕ) : Type 0 where
  pub front : List ℕ
  pub whole : text ≡ front ++ rest
  pub took : Appends old new front

pub part_more : (old mid new : Option (List ℕ)) (text rest : List ℕ) (n : ℕ) → IsPart old mid text rest → Appends mid new (take n rest) → IsPart old new text (drop n rest)
part_more old mid new text rest n part more = record {
  front = part.front ++ take n rest;
  whole = part.whole ∙ ap (λ l. part.front ++ l) (sym (take-append-drop n rest)) ∙ sym (append_assoc part.front (take n rest) (drop n rest));
  took = Appends-trans old mid new part.front (take n rest) part.took more;
}

pub part_kept : (old mid new : Option (List ℕ)) (text rest : List ℕ) → IsPart old mid text rest → Keeps mid new → IsPart old new text rest
part_kept old mid new text rest part kept =
    record { front = part.front; whole = part.whole; took = Appends-kept old mid new part.front part.took kept }
