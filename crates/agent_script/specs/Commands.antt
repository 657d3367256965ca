-- What a line of a script asks for.
use Rattle.rstp_settings.specs.Table.{IsPortOf}
use Rattle.std.specs.Prelude.{ℕ, zero, suc, ◌-◌, ◌^◌, ◌==◌, Bool, true, false, bit_or, codes, if◌then◌else◌, List, [], ◌∷◌, Option, Some, None, option_map, option_and_then}
use Rattle.std.specs.List.{fold, slice_split}
use Rattle.std.specs.Str.{bytes_eq}
use Rattle.script_core.specs.Words.{split_word, number_of, octets_of}
use Rattle.agent_script.specs.declared.commands.TheConstants.{MAX_SECONDS, PLANNED_CALLS}

pub data Command : Type 0 where
  -- `request HEX`: answer a datagram
  request : (datagram : List ℕ) → Command
  -- `frame P HEX`: a frame comes in by a port
  frame : (port : ℕ) (octets : List ℕ) → Command
  -- `tick N`: so many seconds pass
  tick : (seconds : ℕ) → Command
  -- `link P up`, `link P down`: the link of a port
  link : (port : ℕ) (up : Bool) → Command
  -- `policy`: the lines up to `end` are a policy
  policy : Command
  -- `audit on`, `audit off`: whether each request's audit is written
  audit : (on : Bool) → Command
  -- `counts`: report what was dropped
  counts : Command
  -- `driver N..`: the next calls of the objects' devices fail by this plan
  driver : (plan : ℕ) → Command

abbrev pub positive : Option ℕ → Option ℕ
positive (Some (suc n)) = Some (suc n)
positive (Some zero) = None
positive None = None

-- a number from 1 up to this
abbrev pub counting_of : ℕ → List ℕ → Option ℕ
counting_of most word = positive (number_of most word)

-- the words of a text, between single spaces
abbrev pub words_of : List ℕ → List (List ℕ)
words_of text = slice_split (λ b. b == 32) text

-- the words of what is left, if anything is
abbrev pub words_left : Option (List ℕ) → List (List ℕ)
words_left None = []
words_left (Some text) = words_of text

-- the numbers of words, each from 1 up to this
abbrev pub countings_of : ℕ → List (List ℕ) → Option (List ℕ)
countings_of most [] = Some []
countings_of most (word ∷ words) =
    option_and_then (λ n. option_map (λ ns. n ∷ ns) (countings_of most words))
    (counting_of most word)

-- The plan by which the calls of these numbers fail: its bit k - 1 says that the k-th does. The
-- numbers come in any order, and one may come again.
abbrev pub plan_of : List ℕ → ℕ
plan_of calls = fold (λ plan call. bit_or plan (2 ^ (call - 1))) 0 calls

-- `on` or `off`
abbrev pub switch_of : List ℕ → Option Bool
switch_of word =
    if bytes_eq word (codes "on") then Some true
    else if bytes_eq word (codes "off") then Some false
    else None

-- `up` or `down`
abbrev pub direction_of : List ℕ → Option Bool
direction_of word =
    if bytes_eq word (codes "up") then Some true
    else if bytes_eq word (codes "down") then Some false
    else None

-- a port, and what follows the space behind it
abbrev pub frame_with : ℕ → List ℕ × List ℕ → Option Command
frame_with ports p = option_and_then (λ port. option_map (λ octets. frame port octets) (octets_of p.1)) (counting_of ports p.0)

abbrev pub link_with : ℕ → List ℕ × List ℕ → Option Command
link_with ports p = option_and_then (λ port. option_map (λ up. link port up) (direction_of p.1)) (counting_of ports p.0)

-- a word, and what follows the space behind it
abbrev pub command_with : ℕ → List ℕ × List ℕ → Option Command
command_with ports p =
    if bytes_eq p.0 (codes "request") then option_map request (octets_of p.1)
    else if bytes_eq p.0 (codes "frame") then option_and_then (frame_with ports) (split_word p.1)
    else if bytes_eq p.0 (codes "tick") then option_map tick (counting_of MAX_SECONDS p.1)
    else if bytes_eq p.0 (codes "link") then option_and_then (link_with ports) (split_word p.1)
    else if bytes_eq p.0 (codes "audit") then option_map audit (switch_of p.1)
    else if bytes_eq p.0 (codes "driver") then
    option_map (λ calls. driver (plan_of calls)) (countings_of PLANNED_CALLS (words_of p.1))
    else None

-- a word alone
abbrev pub command_alone : List ℕ → Option Command
command_alone line =
    if bytes_eq line (codes "policy") then Some policy
    else if bytes_eq line (codes "counts") then Some counts
    else None

abbrev pub command_in : ℕ → List ℕ → Option (List ℕ × List ℕ) → Option Command
command_in ports line (Some p) = command_with ports p
command_in ports line None = command_alone line

-- the command that a line is, where there are so many ports, if it is one
unfoldable pub command_of : ℕ → List ℕ → Option Command
command_of ports line = command_in ports line (split_word line)

-- a line writes the octets of a datagram or of a frame
abbrev pub HasOctets : Option Command → Type 0
HasOctets None = ⊥
HasOctets (Some (request datagram)) = Unit {0}
HasOctets (Some (frame port octets)) = Unit {0}
HasOctets (Some (tick seconds)) = ⊥
HasOctets (Some (link port up)) = ⊥
HasOctets (Some policy) = ⊥
HasOctets (Some (audit on)) = ⊥
HasOctets (Some counts) = ⊥
HasOctets (Some (driver plan)) = ⊥

-- the port that a command names, if it names one, is one of so many
abbrev pub NamesPortOf : ℕ → Option Command → Type 0
NamesPortOf ports None = Unit {0}
NamesPortOf ports (Some (request datagram)) = Unit {0}
NamesPortOf ports (Some (frame port octets)) = IsPortOf ports port
NamesPortOf ports (Some (tick seconds)) = Unit {0}
NamesPortOf ports (Some (link port up)) = IsPortOf ports port
NamesPortOf ports (Some policy) = Unit {0}
NamesPortOf ports (Some (audit on)) = Unit {0}
NamesPortOf ports (Some counts) = Unit {0}
NamesPortOf ports (Some (driver plan)) = Unit {0}
