-- The octets of the commands that are sent to a served agent.
use Rattle.std.specs.Prelude.{ℕ, Bool, true, false, codes, nat_eq, if◌then◌else◌, List, [], ◌∷◌, ◌++◌}
use Rattle.std.specs.List.{ends_with}

-- a link's direction, behind the port
abbrev pub direction_octets : Bool → List ℕ
direction_octets true = codes " up\n"
direction_octets false = codes " down\n"

-- `link P up` or `link P down`
abbrev pub link_octets : List ℕ → Bool → List ℕ
link_octets port up = codes "link " ++ (port ++ direction_octets up)

-- the line feed that a text lacks behind its last line
abbrev pub line_end : List ℕ → List ℕ
line_end [] = []
line_end (octet ∷ octets) =
    if ends_with nat_eq (octet ∷ octets) (codes "\n") then [] else codes "\n"

-- `policy`, the lines of a text, and `end`
abbrev pub policy_octets : List ℕ → List ℕ
policy_octets text = codes "policy\n" ++ (text ++ (line_end text ++ codes "end\n"))
