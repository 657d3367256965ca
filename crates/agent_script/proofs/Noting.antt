-- The notes of the lines that a session answered.
use Rattle.std.proofs.Common.{◌≡◌, ◌∙◌, inl, inr, ℕ, ◌<◌, length, Bool, true, false, ◌&&◌, if◌then◌else◌, List, [], ◌∷◌, ◌++◌, Option, None, Some, IsSome, ap, sym, refl, subst, arith}
use Rattle.std.proofs.KnownBytes.{Appends-nil}
use Rattle.script_core.specs.declared.fault.LineFault.{LineFault}
use Rattle.script_core.specs.declared.fault.LineFault.TheVariants.{Stopped as IsStopped}
use Rattle.script_core.specs.Lines.{lines_of, first_line}
use Rattle.script_core.specs.Runs.{Reads, Writes, IsFrontOf, Says, SaysAll, SaysFirst, SaysSome, StopsBetween, MayGiveUpLine, MayGiveUpEnd, GivesUpEnd, GivesUp}
use Rattle.agent_script.specs.Notes.{is_whole, MayGiveUp}
use Rattle.agent_script.specs.State.{Agent}
use Rattle.agent_script.specs.Script.{Noted, lines_in, lines_text, after_lines, line_text, end_text, end_text_in, AreMet, are_whole, AreAnswered, IsStated, IsStatedFirst, IsStatedSome, IsStatedBefore, IsEndGivenUp, IsGivenUp, IsOutAtLine}
use Rattle.agent_script.specs.Sessions.{Session, SaysToLine, SaysAtEnd, GivesUpLine, GivesUpEnd as EndIsGivenUp}
use Rattle.agent_script.specs.declared.session.ScriptEnd.{ScriptEnd}
use Rattle.agent_script.specs.declared.session.ScriptEnd.TheVariants.{Whole, Short}

and_true : (a : Bool) → a ≡ (a && true)
and_true true = refl
and_true false = refl

and_assoc : (a b c : Bool) → ((a && b) && c) ≡ (a && (b && c))
and_assoc true b c = refl
and_assoc false b c = refl

-- the notes of lines that were answered
pub record HasNotes (s : Session) (lines : List (List ℕ)) (text : List ℕ) (t : Session) : Type 0 where
  pub noted : List Noted
  pub each : lines_in noted ≡ lines
  pub met : AreMet s.agent noted
  pub text_is : text ≡ lines_text s.agent noted
  pub after : t.agent ≡ after_lines s.agent noted
  pub whole : t.is_whole ≡ (s.is_whole && are_whole noted)

notes_of : (s t : Session) (lines : List (List ℕ)) (text : List ℕ) → Says SaysToLine s lines text t → HasNotes s lines text t
unfolding Says
notes_of s t [] text p = record {
  noted = [];
  each = refl;
  met = tt;
  text_is = p.0;
  after = ap (λ (x : Session). x.agent) (sym p.1);
  whole = ap (λ (x : Session). x.is_whole) (sym p.1) ∙ and_true s.is_whole;
}
notes_of s t (line ∷ lines) text p =
    let here = p.answered.says in
    let rest = notes_of p.between t lines p.rest p.goes_on in
    record {
      noted = record { line = line; note = here.note } ∷ rest.noted;
      each = ap (λ x. line ∷ x) rest.each;
      met = (here.met, subst (λ (a : Agent). AreMet a rest.noted) here.after rest.met);
      text_is = p.split ∙ ap (λ x. x ++ p.rest) here.text
          ∙ ap (λ x. line_text s.agent line here.note ++ x) (rest.text_is ∙ ap (λ (a : Agent). lines_text a rest.noted) here.after);
      after = rest.after ∙ ap (λ (a : Agent). after_lines a rest.noted) here.after;
      whole = rest.whole
          ∙ ap (λ b. b && are_whole rest.noted) (p.answered.is_whole ∙ ap (λ b. s.is_whole && b) here.whole_is)
          ∙ and_assoc s.is_whole (is_whole here.note) (are_whole rest.noted);
    }

answered_of : (s t : Session) (lines : List (List ℕ)) (text : List ℕ) → Says SaysToLine s lines text t → AreAnswered s.agent lines text
answered_of s t lines text p = let n = notes_of s t lines text p in record { noted = n.noted; each = n.each; met = n.met; text_is = n.text_is }

-- where something is written at the end, a policy is open
open_where_stated : (lines : Option (List ℕ)) (stated : List ℕ) → stated ≡ end_text_in lines → 0 < length stated → IsSome lines
open_where_stated None stated e some = absurd (omega (arith, ap length e))
open_where_stated (Some lines) stated e some = refl

open_at_end : (s : Session) (fault : LineFault) → MayGiveUpEnd SaysAtEnd EndIsGivenUp s fault → IsSome s.agent.policy_lines
open_at_end s fault (inl may) = may.is_open
open_at_end s fault (inr may) = open_where_stated s.agent.policy_lines may.1.stated may.1.are_stated.text may.1.some

end_given_up_of : (s : Session) (fault : LineFault) (input rest text : List ℕ)
    → GivesUpEnd SaysToLine SaysAtEnd EndIsGivenUp s fault input rest text → IsEndGivenUp s.agent input rest text
end_given_up_of s fault input rest text p =
    let n = notes_of s p.between (lines_of input) text p.says in
    record {
      read = p.read;
      answered = record { noted = n.noted; each = n.each; met = n.met; text_is = n.text_is };
      is_open = subst (λ (a : Agent). IsSome a.policy_lines) n.after (open_at_end p.between fault p.may);
    }

-- a line that stops the script has no number left
stops : (s : Session) (line : List ℕ) → MayGiveUpLine SaysToLine GivesUpLine s line IsStopped → MayGiveUp s.agent line IsStopped
stops s line (inl may) = may
stops s line (inr (e, h)) = cc e

-- and its end does not stop it
ends_not : (s : Session) → MayGiveUpEnd SaysAtEnd EndIsGivenUp s IsStopped → ⊥
ends_not s (inl may) = cc may.memory
ends_not s (inr may) = cc may.0

-- From the session that a run opens with, whose agent is this one.
module _ (agent : Agent) (s : Session) (opened : s.agent ≡ agent) where
  answered_from : (t : Session) (lines : List (List ℕ)) (text : List ℕ) → Says SaysToLine s lines text t → AreAnswered agent lines text
  answered_from t lines text p = subst (λ (a : Agent). AreAnswered a lines text) opened (answered_of s t lines text p)

  pub stated_of : (t : Session) (lines : List (List ℕ)) (text : List ℕ) (run : ScriptEnd) → s.is_whole ≡ true → run ≡ (if t.is_whole then Whole else Short)
      → SaysAll SaysToLine SaysAtEnd s lines text t → IsStated agent lines text run
  stated_of t lines text run whole reported p =
      let n = notes_of s p.between lines p.stated p.says in
      subst (λ (a : Agent). IsStated a lines text run) opened (record {
        noted = n.noted;
        each = n.each;
        met = n.met;
        text_is = p.split ∙ ap (λ x. x ++ p.last) n.text_is
            ∙ ap (λ x. lines_text s.agent n.noted ++ x) (p.ends.text ∙ ap (λ (a : Agent). end_text a) n.after);
        run_is = reported ∙ ap (λ b. if b then Whole else Short) (p.ends.whole ∙ n.whole ∙ ap (λ b. b && are_whole n.noted) whole);
      })

  stated_first_of : (lines : List (List ℕ)) (text : List ℕ) → SaysFirst SaysToLine s lines text → IsStatedFirst agent lines text
  stated_first_of lines text p =
      record { first = p.first; left = p.left; split = p.split; answered = answered_from p.between p.first text p.says }

  stated_some_of : (lines : List (List ℕ)) (text : List ℕ) → s.is_whole ≡ true → SaysSome SaysToLine SaysAtEnd s lines text → IsStatedSome agent lines text
  stated_some_of lines text whole (inl p) = inl (stated_first_of lines text p)
  stated_some_of lines text whole (inr p) = inr (_, stated_of p.0 lines text _ whole refl p.1)

  pub stated_front_of : (lines : List (List ℕ)) (text : List ℕ) → s.is_whole ≡ true → IsFrontOf (λ all. SaysSome SaysToLine SaysAtEnd s lines all) text
      → IsFrontOf (λ all. IsStatedSome agent lines all) text
  stated_front_of lines text whole p =
      record { whole = p.whole; rest = p.rest; some = p.some; split = p.split; holds = stated_some_of lines p.whole whole p.holds }

  pub stated_before_of : (t : Session) (input rest text : List ℕ) → StopsBetween SaysToLine s t input rest text → IsStatedBefore agent input rest text
  stated_before_of t input rest text p = record {
    ended = p.feeds.ended;
    part = p.part;
    no_end = (p.feeds.no_end, p.no_end);
    split = p.feeds.split;
    answered = answered_from t p.feeds.ended text p.feeds.says;
  }

  pub given_up_of : (fault : LineFault) (input rest text : List ℕ) → GivesUp SaysToLine SaysAtEnd GivesUpLine EndIsGivenUp s fault input rest text
      → IsGivenUp agent input rest text
  given_up_of fault input rest text (inl p) = inr (inl (record {
    ended = p.feeds.ended;
    left = p.left;
    no_end = p.feeds.no_end;
    some = p.some;
    split = p.feeds.split;
    answered = answered_from p.between p.feeds.ended text p.feeds.says;
  }))
  given_up_of fault input rest text (inr p) =
      inr (inr (subst (λ (a : Agent). IsEndGivenUp a input rest text) opened (end_given_up_of s fault input rest text p)))

  pub out_of : (input rest text : List ℕ) → GivesUp SaysToLine SaysAtEnd GivesUpLine EndIsGivenUp s IsStopped input rest text
      → IsOutAtLine agent input rest text
  out_of input rest text (inl p) =
      let n = notes_of s p.between p.feeds.ended text p.feeds.says in
      subst (λ (a : Agent). IsOutAtLine a input rest text) opened (record {
        ended = p.feeds.ended;
        left = p.left;
        no_end = p.feeds.no_end;
        some = p.some;
        split = p.feeds.split;
        answered = record { noted = n.noted; each = n.each; met = n.met; text_is = n.text_is };
        is_out = subst (λ (a : Agent). MayGiveUp a (first_line p.left) IsStopped) n.after (stops p.between (first_line p.left) p.may);
      })
  out_of input rest text (inr p) = absurd (ends_not p.between p.may)

-- ---- nothing is read

unread : (left : Option (List ℕ)) (P : List ℕ → List ℕ → Type 0) → ((input : List ℕ) → P input input) → Reads left left P
unread None P f = tt
unread (Some input) P f = f input

-- where a history finds no memory
pub not_begun : (agent : Agent) (left took : Option (List ℕ))
    → Reads left left (λ input rest. Writes took took (λ text. IsGivenUp agent input rest text))
not_begun agent left took =
    unread left (λ input rest. Writes took took (λ text. IsGivenUp agent input rest text))
    (λ input. record { text = []; took = Appends-nil took; holds = inl (record { unread = refl; unstated = refl }) })
