-- What learning an address does (IEEE 802.1D-2004, 7.8).
use Rattle.std.specs.Prelude.{ℕ, ◌==◌, nat_lt, if◌then◌else◌, List, ◌∷◌, ◌++◌, length, Option, Some, None}
use Rattle.frame_core.specs.declared.mac.Mac.{Mac}
use Rattle.fdb_core.specs.declared.row.LearnedRow.{LearnedRow}
use Rattle.fdb_core.specs.declared.learnt.Learnt.{Learnt}
use Rattle.fdb_core.specs.declared.learnt.Learnt.TheVariants.{New, Moved, Same, Full, Memory}
use Rattle.fdb_core.specs.Rows.{rows_below, rows_above, port_of}

-- a row in its place: the rows of lower addresses, the row, and the rows of higher addresses
abbrev pub with_row : List LearnedRow → LearnedRow → List LearnedRow
with_row rows row = rows_below rows row.address ++ row ∷ rows_above rows row.address

-- a row of this port, seen just now
abbrev pub new_row : Mac → ℕ → LearnedRow
new_row address port = record { address = address; port = port; age = 0 }

-- a row after its address was seen on this port
abbrev pub renewed_row : LearnedRow → ℕ → LearnedRow
renewed_row row port = record row { port = port; age = 0 }

-- where an address is known on the first port, and is seen on the second
abbrev pub answer_on : ℕ → ℕ → Learnt
answer_on known port = if known == port then Same else Moved

-- where an address is known on this port, or on none
abbrev pub answer_from : Option ℕ → List LearnedRow → ℕ → ℕ → Learnt
answer_from (Some known) rows limit port = answer_on known port
answer_from None rows limit port = if nat_lt (length rows) limit then New else Full

-- what learning answers where there is memory
abbrev pub answer : List LearnedRow → ℕ → Mac → ℕ → Learnt
answer rows limit address port = answer_from (port_of rows address) rows limit port

-- the rows after an answer
abbrev pub learned_rows : Learnt → List LearnedRow → Mac → ℕ → List LearnedRow
learned_rows New rows address port = with_row rows (new_row address port)
learned_rows Moved rows address port = with_row rows (new_row address port)
learned_rows Same rows address port = with_row rows (new_row address port)
learned_rows Full rows address port = rows
learned_rows Memory rows address port = rows
