-- Words and the variables that they ask for, one after another.
use Rattle.std.proofs.Common.{◌≡◌, ℕ, zero, suc, ◌+◌, ◌<◌, List, [], ◌∷◌, ◌++◌, length, get_or, take, map, refl, sym, subst, ap, arith, Result, Ok, Err, IfErr}
use Rattle.std.specs.Prelude.{IsErrAnd}
use Rattle.std.proofs.lemmas.List.{map_more}
use Rattle.message_core.specs.declared.binding.Binding.{Binding}
use Rattle.explain.specs.declared.questions.QuestionFault.{QuestionFault}
use Rattle.explain.specs.declared.questions.QuestionFault.TheVariants.{Memory, Name}
use Rattle.explain.specs.Questions.{AreAskedBy, IsAskedBy, IsNoName, IsFirstNoName, IsNameFault, IsFaultOf}

asked-snoc : (words : List (List ℕ)) (bs : List Binding) (word : List ℕ) (b : Binding) → AreAskedBy words bs → IsAskedBy word b → AreAskedBy (words ++ word ∷ []) (bs ++ b ∷ [])
asked-snoc [] [] word b asked one = (one, tt)
asked-snoc [] (x ∷ bs) word b asked one = absurd asked
asked-snoc (w ∷ words) [] word b asked one = absurd asked
asked-snoc (w ∷ words) (x ∷ bs) word b asked one = (asked.0, asked-snoc words bs word b asked.1 one)

-- one word more
pub asked_more : {S : Type 0} (bytes : S → List ℕ) (words : List S) (i : ℕ) (d : S) (bs new : List Binding) (b : Binding) → i < length words → AreAskedBy (map bytes (take i words)) bs → IsAskedBy (bytes (get_or words i d)) b → new ≡ bs ++ b ∷ [] → AreAskedBy (map bytes (take (i + 1) words)) new
asked_more bytes words i d bs new b low asked one longer =
    rw (map_more bytes words i d low, longer) (asked-snoc (map bytes (take i words)) bs (bytes (get_or words i d)) b asked one)

-- the first word that is no name
first_no_name : {S : Type 0} (bytes : S → List ℕ) (words : List S) (i : ℕ) (d : S) (bs : List Binding) → i < length words → AreAskedBy (map bytes (take i words)) bs → IsNoName (bytes (get_or words i d)) → IsFirstNoName (map bytes words) (bytes (get_or words i d))
first_no_name bytes [] i d bs low asked none = absurd (omega arith)
first_no_name bytes (w ∷ words) zero d bs low asked none = record {
  front = [];
  behind = map bytes words;
  split = refl;
  names = tt;
  none = none;
}
first_no_name bytes (w ∷ words) (suc i) d [] low asked none = absurd asked
first_no_name bytes (w ∷ words) (suc i) d (b ∷ bs) low asked none =
    let found = first_no_name bytes words i d bs (omega arith) asked.1 none in
    record {
      front = bytes w ∷ found.front;
      behind = found.behind;
      split = ap (λ (t : List (List ℕ)). bytes w ∷ t) found.split;
      names = ((b.name, asked.0.name), found.names);
      none = none;
    }

fault_at : {S : Type 0} (bytes : S → List ℕ) (words : List S) (i : ℕ) (d : S) (bs : List Binding) (fault : QuestionFault) → i < length words → AreAskedBy (map bytes (take i words)) bs → IsNameFault (bytes (get_or words i d)) fault → IsFaultOf (map bytes words) fault
fault_at bytes words i d bs Memory low asked is = tt
fault_at bytes words i d bs (Name named) low asked is =
    subst (IsFirstNoName (map bytes words)) (sym is.0) (first_no_name bytes words i d bs low asked is.1)

-- the same, handed on
pub fault_found : {S T : Type 0} (bytes : S → List ℕ) (words : List S) (i : ℕ) (d : S) (bs : List Binding) (fault : QuestionFault) (r : Result T QuestionFault) → i < length words → AreAskedBy (map bytes (take i words)) bs → IsNameFault (bytes (get_or words i d)) fault → IsErrAnd r (λ f. f ≡ fault) → IfErr r (IsFaultOf (map bytes words))
fault_found bytes words i d bs fault (Ok x) low asked is same = absurd same
fault_found bytes words i d bs fault (Err f) low asked is same =
    subst (IsFaultOf (map bytes words)) (sym same) (fault_at bytes words i d bs fault low asked is)
