-- What the octets of one command of an operator ask for, in the words of a script.
use Rattle.std.specs.Prelude.{◌≡◌, ℕ, zero, suc, ◌-◌, ◌==◌, Bool, true, false, not, codes, bytes_eq, nat_eq, nat_le, if◌then◌else◌, List, [], length, take, drop, Option, Some, None, Result, Ok, Err, option_map, option_and_then}
use Rattle.std.specs.List.{list_all, starts_with, ends_with}
use Rattle.script_core.specs.Words.{split_word, number_of}
use Rattle.policy_text.specs.Texts.{policy_in, HasContent}
use Rattle.community_core.specs.Communities.{PolicyTables}
use Rattle.configuration.specs.Causes.{IsCause}
use Rattle.control_text.specs.declared.command.TheConstants.{MAX_POLICY}
use Rattle.control_text.specs.declared.command.Command.{Command}
use Rattle.control_text.specs.declared.command.Command.TheVariants.{Link, Policy, Counts}
use Rattle.control_text.specs.declared.command.CommandFault.{CommandFault}
use Rattle.control_text.specs.declared.command.CommandFault.TheVariants.{BadLine, CutPolicy, LongPolicy, NoPolicy, Memory}

pub data Asked : Type 0 where
  -- none: it is no command
  bad_line : Asked
  -- `link P up`, `link P down`: the link of a port
  link : (port : ℕ) (up : Bool) → Asked
  -- `counts`: what was dropped
  counts : Asked
  -- a policy of this text, which stands between the lines `policy` and `end`
  policy : (text : List ℕ) → Asked
  -- a policy that has no `end`, and no more than 65,536 octets so far
  cut_policy : Asked
  -- a policy of more than 65,536 octets, with its `end` or without it
  long_policy : Asked

-- the octets, but a line feed that ends them
abbrev pub without_end : List ℕ → List ℕ
without_end octets =
    if ends_with nat_eq octets (codes "\n") then take (length octets - 1) octets else octets

-- one line alone has no line feed inside
abbrev pub is_one_line : List ℕ → Bool
is_one_line octets = list_all (λ b. not (b == 10)) octets

-- ---- one line

abbrev pub positive : Option ℕ → Option ℕ
positive (Some (suc n)) = Some (suc n)
positive (Some zero) = None
positive None = None

-- the number of one of so many ports, from 1 on
abbrev pub port_of : ℕ → List ℕ → Option ℕ
port_of ports word = positive (number_of ports word)

-- `up` or `down`
abbrev pub direction_of : List ℕ → Option Bool
direction_of word =
    if bytes_eq word (codes "up") then Some true
    else if bytes_eq word (codes "down") then Some false
    else None

-- the number of a port, and behind the space the direction of its link
abbrev pub link_with : ℕ → List ℕ × List ℕ → Option (ℕ × Bool)
link_with ports p =
    option_and_then (λ port. option_map (λ up. (port, up)) (direction_of p.1)) (port_of ports p.0)

abbrev pub link_in : ℕ → List ℕ → Option (ℕ × Bool)
link_in ports text = option_and_then (link_with ports) (split_word text)

abbrev pub asked_by_link : Option (ℕ × Bool) → Asked
asked_by_link (Some p) = link p.0 p.1
asked_by_link None = bad_line

-- a word, and what follows the space behind it
abbrev pub line_with : ℕ → List ℕ × List ℕ → Asked
line_with ports p = if bytes_eq p.0 (codes "link") then asked_by_link (link_in ports p.1) else bad_line

-- a word alone
abbrev pub line_alone : List ℕ → Asked
line_alone line = if bytes_eq line (codes "counts") then counts else bad_line

abbrev pub line_in : ℕ → List ℕ → Option (List ℕ × List ℕ) → Asked
line_in ports line (Some p) = line_with ports p
line_in ports line None = line_alone line

-- what one line asks for
unfoldable pub asked_by_line : ℕ → List ℕ → Asked
asked_by_line ports line = line_in ports line (split_word line)

-- ---- a policy

-- what stands before the line `end`, with which the octets end, if they do
abbrev pub before_end : List ℕ → Option (List ℕ)
before_end octets =
    if bytes_eq octets (codes "end") then Some []
    else if ends_with nat_eq octets (codes "\nend") then Some (take (length octets - 3) octets)
    else None

-- a policy's text, if it ends and is not too long; of octets without an end whether they are too long
abbrev pub policy_with : List ℕ → Option (List ℕ) → Asked
policy_with octets (Some text) =
    if nat_le (length text) MAX_POLICY then policy text else long_policy
policy_with octets None =
    if nat_le (length octets) MAX_POLICY then cut_policy else long_policy

-- the octets behind a first line `policy`
unfoldable pub asked_behind_policy : List ℕ → Asked
asked_behind_policy octets = policy_with octets (before_end octets)

-- ---- a command

-- a first line `policy`, and something behind it
abbrev pub is_policy : List ℕ → Bool
is_policy octets = starts_with nat_eq octets (codes "policy\n")

-- a command whose octets no line feed ends
abbrev pub asked_by_command : ℕ → List ℕ → Asked
asked_by_command ports command =
    if bytes_eq command (codes "policy") then cut_policy
    else if is_policy command then asked_behind_policy (drop 7 command)
    else if is_one_line command then asked_by_line ports command
    else bad_line

-- What the octets of a command ask for, where there are so many ports: a policy, whose first line is
-- `policy` and whose last is `end`, or one line. A line feed that ends the octets says nothing.
unfoldable pub asked_by : ℕ → List ℕ → Asked
asked_by ports octets =
    asked_by_command ports (without_end octets)

-- ---- what is read

-- What a command is, by what its octets ask for: a link, counts, or the policy that a text says.
abbrev pub IsReadAs : Asked → Command → Type 0
IsReadAs bad_line command = ⊥
IsReadAs (link port up) command = command ≡ Link port up
IsReadAs counts command = command ≡ Counts
IsReadAs (policy text) command = (tables : PolicyTables) × (policy_in text ≡ Some tables) × (command ≡ Policy tables)
IsReadAs cut_policy command = ⊥
IsReadAs long_policy command = ⊥

-- Why octets are refused: they are no command; or their policy is cut off; or it is too long; or its text
-- says none, for its first fault; or there was no memory for a policy, which only one whose text is not
-- blank takes.
abbrev pub IsRefusedAs : Asked → CommandFault → Type 0
IsRefusedAs bad_line refusal = refusal ≡ BadLine
IsRefusedAs (link port up) refusal = ⊥
IsRefusedAs counts refusal = ⊥
IsRefusedAs (policy text) BadLine = ⊥
IsRefusedAs (policy text) CutPolicy = ⊥
IsRefusedAs (policy text) LongPolicy = ⊥
IsRefusedAs (policy text) (NoPolicy cause) = (policy_in text ≡ None) × IsCause text cause
IsRefusedAs (policy text) Memory = HasContent text
IsRefusedAs cut_policy refusal = refusal ≡ CutPolicy
IsRefusedAs long_policy refusal = refusal ≡ LongPolicy

-- octets were read so, or refused so
abbrev pub IsRead : Asked → Result Command CommandFault → Type 0
IsRead asked (Ok command) = IsReadAs asked command
IsRead asked (Err refusal) = IsRefusedAs asked refusal
