-- The commands of an operator for a served agent, by the words of a command line.
use Rattle.std.specs.Prelude.{ℕ, Bool, true, false, codes, if◌then◌else◌, List, [], ◌∷◌, Option, Some, None}
use Rattle.std.specs.Str.{bytes_eq}
use Rattle.clap.specs.Words.{Text}
use Rattle.agent_words.specs.declared.asked.Order.{Order}
use Rattle.agent_words.specs.declared.asked.Order.TheVariants.{Counts, Link, Policy}

pub data Command : Type 0 where
  -- the counts of what was dropped
  counts : Command
  -- the link of the port of this number, as it is written, goes up, or down
  link : (port : List ℕ) → (up : Bool) → Command
  -- the policy whose text is in this file
  policy : (file : List ℕ) → Command

-- a command as its words are
abbrev pub order_view : Order → Command
order_view Counts = counts
order_view (Link port up) = link port.now up
order_view (Policy file) = policy file.now

-- `counts`
abbrev pub order_alone : Text → Option Command
order_alone word = if bytes_eq word (codes "counts") then Some counts else None

-- `policy` and a file
abbrev pub order_of_file : Text → Text → Option Command
order_of_file word file = if bytes_eq word (codes "policy") then Some (policy file) else None

-- `link`, a port, and `up` or `down`
abbrev pub order_of_port : Text → Text → Text → Option Command
order_of_port word port direction =
    if bytes_eq word (codes "link") then
    (if bytes_eq direction (codes "up") then Some (link port true)
    else if bytes_eq direction (codes "down") then Some (link port false)
    else None)
    else None

-- the command that words say, if they say one
abbrev pub order_of : List Text → Option Command
order_of [] = None
order_of (word ∷ []) = order_alone word
order_of (word ∷ file ∷ []) = order_of_file word file
order_of (word ∷ port ∷ direction ∷ []) = order_of_port word port direction
order_of (word ∷ port ∷ direction ∷ other ∷ more) = None
