-- What a writer takes of a text, write by write.
use Rattle.std.proofs.Common.{◌≡◌, ℕ, List, ◌++◌, Option, Result, Ok, Err, OnOk, take, drop, sym, ap, ◌∙◌, append_assoc, take-append-drop}
use Rattle.std.specs.Io.KnownBytes.{Appends, Keeps}
use Rattle.std.proofs.KnownBytes.{Appends-trans, Appends-kept}
use Rattle.agent_program.specs.Endings.{TakesFront}

-- a writer took what stands before the rest
pub record IsPart (old new : Option (List ℕ)) (text rest : List ℕ) : Type 0 where
  pub front : List ℕ
  pub whole : text ≡ front ++ rest
  pub took : Appends old new front

pub part_more : (old mid new : Option (List ℕ)) (text rest : List ℕ) (n : ℕ) → IsPart old mid text rest → Appends mid new (take n rest) → IsPart old new text (drop n rest)
part_more old mid new text rest n part more = record {
  front = part.front ++ take n rest;
  whole = part.whole ∙ ap (λ l. part.front ++ l) (sym (take-append-drop n rest)) ∙ sym (append_assoc part.front (take n rest) (drop n rest));
  took = Appends-trans old mid new part.front (take n rest) part.took more;
}

pub part_kept : (old mid new : Option (List ℕ)) (text rest : List ℕ) → IsPart old mid text rest → Keeps mid new → IsPart old new text rest
part_kept old mid new text rest part kept =
    record { front = part.front; whole = part.whole; took = Appends-kept old mid new part.front part.took kept }

-- a first text was taken whole, and a front of the next
pub front_then : (old mid new : Option (List ℕ)) (a b : List ℕ) → Appends old mid a → TakesFront mid new b → TakesFront old new (a ++ b)
front_then old mid new a b first next = record {
  front = a ++ next.front;
  rest = next.rest;
  whole = ap (λ l. a ++ l) next.whole ∙ sym (append_assoc a next.front next.rest);
  took = Appends-trans old mid new a next.front first next.took;
}

-- a front of a first text is one of both
pub front_of_first : (old new : Option (List ℕ)) (a b : List ℕ) → TakesFront old new a → TakesFront old new (a ++ b)
front_of_first old new a b first = record {
  front = first.front;
  rest = first.rest ++ b;
  whole = ap (λ l. l ++ b) first.whole ∙ append_assoc first.front first.rest b;
  took = first.took;
}

-- two texts were taken whole, if the last was
pub both_whole : {E : Type 0} (last : Result (Unit {0}) E) (old mid new : Option (List ℕ)) (a b : List ℕ) → Appends old mid a → OnOk last (Appends mid new b) → OnOk last (Appends old new (a ++ b))
both_whole (Ok done) old mid new a b first next = Appends-trans old mid new a b first next
both_whole (Err failed) old mid new a b first next = tt
