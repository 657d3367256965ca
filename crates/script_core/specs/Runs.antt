-- What a session says to lines, what was added to octets, and how far a run has come.
use Rattle.std.specs.Prelude.{◌≡◌, ◌⊎◌, ◌<◌, ℕ, List, [], ◌∷◌, ◌++◌, All, Contains, length, Option, None, Some}
use Rattle.std.specs.List.{flat_map}
use Rattle.std.specs.Io.KnownBytes.{Appends}
use Rattle.script_core.specs.Lines.{lines_of, first_line, with_end, HasNoEnd}
use Rattle.script_core.specs.declared.fault.LineFault.{LineFault}
use Rattle.script_core.specs.declared.fault.LineFault.TheVariants.{Memory}

-- octets were added, and this holds of them
pub record Adds (old new : List ℕ) (P : List ℕ → Type 0) : Type 0 where
  pub stated : List ℕ
  pub added : new ≡ old ++ stated
  pub holds : P stated

-- a writer took octets, and this holds of them
pub record Writes (old new : Option (List ℕ)) (P : List ℕ → Type 0) : Type 0 where
  pub text : List ℕ
  pub took : Appends old new text
  pub holds : P text

-- a front of a text that has octets and of which this holds: none of its octets, some, or all
pub record IsFrontOf (P : List ℕ → Type 0) (front : List ℕ) : Type 0 where
  pub whole : List ℕ
  pub rest : List ℕ
  pub some : 0 < length whole
  pub split : whole ≡ front ++ rest
  pub holds : P whole

-- what a reader had at first and has now, where it reports its octets
abbrev pub Reads : Option (List ℕ) → Option (List ℕ) → (List ℕ → List ℕ → Type 0) → Type 0
Reads None new P = Unit {0}
Reads (Some input) None P = ⊥
Reads (Some input) (Some rest) P = P input rest

-- a session may say octets, and be something after them
pub record SaysSomething {X : Type 0} (says : List ℕ → X → Type 0) : Type 0 where
  pub stated : List ℕ
  pub now : X
  pub some : 0 < length stated
  pub are_stated : says stated now

-- The end of a script may be given up: the session may do so, or there may be no memory for the
-- answer to it.
abbrev pub MayGiveUpEnd : {X : Type 0} → (X → List ℕ → X → Type 0) → (X → LineFault → Type 0)
    → X → LineFault → Type 0
MayGiveUpEnd end_says may_give_up_end session fault =
    may_give_up_end session fault ⊎ ((fault ≡ Memory) × SaysSomething (end_says session))

-- A session answers line by line. `line_says before line stated now` says that the session `before`
-- may answer this to the line, and be
-- `now` after it; `end_says before stated now` says the same of the end of the script.
-- `may_give_up_line before line fault` says that it may give up this line for this fault, and
-- `may_give_up_end before fault` the same of the end.
module _ {X : Type 0} (line_says : X → List ℕ → List ℕ → X → Type 0) where
  -- a line was answered, and what follows holds of the session after it and of the rest of the text
  pub record Answered (follows : X → List ℕ → Type 0) (before : X) (line text : List ℕ) : Type 0 where
    pub stated : List ℕ
    pub between : X
    pub rest : List ℕ
    pub answered : line_says before line stated between
    pub split : text ≡ stated ++ rest
    pub goes_on : follows between rest

  -- lines were answered in their order: `text` is the answers
  unfoldable pub Says : X → List (List ℕ) → List ℕ → X → Type 0
  Says before [] text now = (text ≡ []) × (before ≡ now)
  Says before (line ∷ lines) text now =
      Answered (λ between rest. Says between lines rest now) before line text

  -- all lines of a script were answered, and its end
  pub record SaysAll (end_says : X → List ℕ → X → Type 0) (before : X) (lines : List (List ℕ)) (text : List ℕ) (now : X) : Type 0 where
    pub stated : List ℕ
    pub between : X
    pub last : List ℕ
    pub says : Says before lines stated between
    pub ends : end_says between last now
    pub split : text ≡ stated ++ last

  -- the first of these lines were answered, and no others: `text` is the answers
  pub record SaysFirst (before : X) (lines : List (List ℕ)) (text : List ℕ) : Type 0 where
    pub first : List (List ℕ)
    pub left : List (List ℕ)
    pub between : X
    pub split : lines ≡ first ++ left
    pub says : Says before first text between

  -- of some octets, `left` were not yet answered: they stand behind lines that have ended, and
  -- `text` is the answers to those
  pub record Feeds (before : X) (octets : List ℕ) (now : X) (left text : List ℕ) : Type 0 where
    pub ended : List (List ℕ)
    pub no_end : All HasNoEnd ended
    pub split : octets ≡ flat_map with_end ended ++ left
    pub says : Says before ended text now

  -- the same, with some session and some octets left
  pub record FeedsFirst (before : X) (octets text : List ℕ) : Type 0 where
    pub between : X
    pub left : List ℕ
    pub feeds : Feeds before octets between left text

  -- Of an input, `rest` was not read: each line that had ended was answered, and no more than a
  -- part of one line was read behind them.
  pub record StopsBetween (before now : X) (input rest text : List ℕ) : Type 0 where
    pub part : List ℕ
    pub no_end : HasNoEnd part
    pub feeds : Feeds before input now (part ++ rest) text

  -- A line may be given up: the session may do so, or there may be no memory, to hold a line that
  -- has octets or for the answer to it.
  abbrev pub MayGiveUpLine : (X → List ℕ → LineFault → Type 0) → X → List ℕ → LineFault → Type 0
  MayGiveUpLine may_give_up_line session line fault =
      may_give_up_line session line fault
      ⊎ ((fault ≡ Memory) × ((0 < length line) ⊎ SaysSomething (line_says session line)))

  -- A line was given up: of an input, `rest` was not read; each line before the one that is given
  -- up had ended and was answered, and no other was; of that line, which stands at the front of
  -- `left`, at least one octet was read, and it may be given up. But for want of memory it has
  -- ended: its end was read, or the input was read to its end.
  pub record GivesUpLine (may_give_up_line : X → List ℕ → LineFault → Type 0)
      (before : X) (fault : LineFault) (input rest text : List ℕ) : Type 0 where
    pub between : X
    pub left : List ℕ
    pub some : 0 < length left
    pub feeds : Feeds before input between (left ++ rest) text
    pub may : MayGiveUpLine may_give_up_line between (first_line left) fault
    pub ended : (fault ≡ Memory) ⊎ Contains left 10 ⊎ (rest ≡ [])

  -- the end of the script was given up: the input was read to its end, each of its lines was
  -- answered, and the end may be given up
  pub record GivesUpEnd (end_says : X → List ℕ → X → Type 0)
      (may_give_up_end : X → LineFault → Type 0)
      (before : X) (fault : LineFault) (input rest text : List ℕ) : Type 0 where
    pub between : X
    pub read : rest ≡ []
    pub says : Says before (lines_of input) text between
    pub may : MayGiveUpEnd end_says may_give_up_end between fault

  abbrev pub GivesUp : (X → List ℕ → X → Type 0) → (X → List ℕ → LineFault → Type 0)
      → (X → LineFault → Type 0) → X → LineFault → List ℕ → List ℕ → List ℕ → Type 0
  GivesUp end_says may_give_up_line may_give_up_end before fault input rest text =
      GivesUpLine may_give_up_line before fault input rest text
      ⊎ GivesUpEnd end_says may_give_up_end before fault input rest text

  -- what was answered to the first of these lines, or to all of them and to the end of the script
  abbrev pub SaysSome : (X → List ℕ → X → Type 0) → X → List (List ℕ) → List ℕ → Type 0
  SaysSome end_says before lines text =
      SaysFirst before lines text ⊎ ((now : X) × SaysAll end_says before lines text now)
