-- What the agent says to the lines of a script, and what they change.
use Rattle.std.specs.Prelude.{◌≡◌, ◌⊎◌, ◌<◌, ℕ, Bool, codes, if◌then◌else◌, List, [], ◌∷◌, ◌++◌, All, length, map, Option, Some, None, IsSome}
use Rattle.std.specs.List.{flat_map, list_all}
use Rattle.script_core.specs.Lines.{lines_of, first_line, with_end, HasNoEnd}
use Rattle.script_core.specs.declared.fault.LineFault.TheVariants.{Stopped}
use Rattle.agent_script.specs.Actions.{action_of, action_text, after_action}
use Rattle.agent_script.specs.Notes.{Note, MayMeet, MayGiveUp, is_whole}
use Rattle.agent_script.specs.State.{Agent}
use Rattle.agent_script.specs.declared.session.ScriptEnd.{ScriptEnd}
use Rattle.agent_script.specs.declared.session.ScriptEnd.TheVariants.{Whole, Short}

-- what is written for a line that met this, and the agent after it
abbrev pub line_text : Agent → List ℕ → Note → List ℕ
line_text agent line note = action_text agent (action_of agent line note)

abbrev pub after_line : Agent → List ℕ → Note → Agent
after_line agent line note = after_action agent (action_of agent line note)

-- a line, and what is noted of it
pub record Noted : Type 0 where
  pub line : List ℕ
  pub note : Note

-- The lines of a script, each with its note: what is written for them in their order, the agent after
-- them, and that each note is one that its line may meet there.
abbrev pub lines_text : Agent → List Noted → List ℕ
lines_text agent [] = []
lines_text agent (n ∷ ns) =
    line_text agent n.line n.note ++ lines_text (after_line agent n.line n.note) ns

abbrev pub after_lines : Agent → List Noted → Agent
after_lines agent [] = agent
after_lines agent (n ∷ ns) = after_lines (after_line agent n.line n.note) ns

abbrev pub AreMet : Agent → List Noted → Type 0
AreMet agent [] = Unit {0}
AreMet agent (n ∷ ns) = MayMeet agent n.line n.note × AreMet (after_line agent n.line n.note) ns

-- what is written at the end of a script, and the agent after it: a policy that has not ended is
-- refused
abbrev pub end_text_in : Option (List ℕ) → List ℕ
end_text_in (Some lines) = codes "policy refused\n"
end_text_in None = []

abbrev pub end_text : Agent → List ℕ
end_text agent = end_text_in agent.policy_lines

abbrev pub after_end : Agent → Agent
after_end agent = record agent { policy_lines = None }

-- The text of a script: what is written for its lines, and at its end.
abbrev pub script_text : Agent → List Noted → List ℕ
script_text agent ns = lines_text agent ns ++ end_text (after_lines agent ns)

-- no line met want of memory
abbrev pub are_whole : List Noted → Bool
are_whole ns = list_all (λ n. is_whole n.note) ns

-- how a run is reported: whole exactly where no line met want of memory
abbrev pub run_of : List Noted → ScriptEnd
run_of ns = if are_whole ns then Whole else Short

-- the lines alone
abbrev pub lines_in : List Noted → List (List ℕ)
lines_in ns = map (λ n. n.line) ns

-- There are notes of these lines, each one that its line may meet, such that this text is the
-- script's, and the run is reported by them.
pub record IsStated (agent : Agent) (lines : List (List ℕ)) (text : List ℕ) (run : ScriptEnd) : Type 0 where
  pub noted : List Noted
  pub each : lines_in noted ≡ lines
  pub met : AreMet agent noted
  pub text_is : text ≡ script_text agent noted
  pub run_is : run ≡ run_of noted

-- There are notes of these lines, each one that its line may meet, such that this text is what is
-- written for the lines.
pub record AreAnswered (agent : Agent) (lines : List (List ℕ)) (text : List ℕ) : Type 0 where
  pub noted : List Noted
  pub each : lines_in noted ≡ lines
  pub met : AreMet agent noted
  pub text_is : text ≡ lines_text agent noted

-- the first of these lines are answered, and no others
pub record IsStatedFirst (agent : Agent) (lines : List (List ℕ)) (text : List ℕ) : Type 0 where
  pub first : List (List ℕ)
  pub left : List (List ℕ)
  pub split : lines ≡ first ++ left
  pub answered : AreAnswered agent first text

-- the first of these lines are answered, or all of them and the end of the script
abbrev pub IsStatedSome : Agent → List (List ℕ) → List ℕ → Type 0
IsStatedSome agent lines text =
    IsStatedFirst agent lines text ⊎ ((run : ScriptEnd) × IsStated agent lines text run)

-- Of an input, `rest` was not read, and behind the lines that had ended no more than a part of one
-- was: those lines are answered.
pub record IsStatedBefore (agent : Agent) (input rest text : List ℕ) : Type 0 where
  pub ended : List (List ℕ)
  pub part : List ℕ
  pub no_end : All HasNoEnd ended × HasNoEnd part
  pub split : input ≡ flat_map with_end ended ++ (part ++ rest)
  pub answered : AreAnswered agent ended text

-- A line is given up: of an input, `rest` was not read; the lines before the one that is given up
-- had ended and are answered; and of that line, which stands at the front of `left`, at least one
-- octet was read.
pub record IsLineGivenUp (agent : Agent) (input rest text : List ℕ) : Type 0 where
  pub ended : List (List ℕ)
  pub left : List ℕ
  pub no_end : All HasNoEnd ended
  pub some : 0 < length left
  pub split : input ≡ flat_map with_end ended ++ (left ++ rest)
  pub answered : AreAnswered agent ended text

-- The end of the script is given up: the input was read to its end, each of its lines is answered,
-- and a policy is open after them.
pub record IsEndGivenUp (agent : Agent) (input rest text : List ℕ) : Type 0 where
  pub read : rest ≡ []
  pub answered : AreAnswered agent (lines_of input) text
  pub is_open : IsSome (after_lines agent answered.noted).policy_lines

-- The script is given up before anything is read: there is no memory for what is kept of a history.
pub record IsNotBegun (input rest text : List ℕ) : Type 0 where
  pub unread : rest ≡ input
  pub unstated : text ≡ []

abbrev pub IsGivenUp : Agent → List ℕ → List ℕ → List ℕ → Type 0
IsGivenUp agent input rest text =
    IsNotBegun input rest text
    ⊎ IsLineGivenUp agent input rest text
    ⊎ IsEndGivenUp agent input rest text

-- A line has no number left for an entry of its own: of an input, `rest` was not read; the lines
-- before it had ended and are answered; and the line stands at the front of `left`.
pub record IsOutAtLine (agent : Agent) (input rest text : List ℕ) : Type 0 where
  pub ended : List (List ℕ)
  pub left : List ℕ
  pub no_end : All HasNoEnd ended
  pub some : 0 < length left
  pub split : input ≡ flat_map with_end ended ++ (left ++ rest)
  pub answered : AreAnswered agent ended text
  pub is_out : MayGiveUp (after_lines agent answered.noted) (first_line left) Stopped
