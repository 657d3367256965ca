-- The address of each row is six octets.
use Rattle.std.proofs.Common.{ℕ, ◌<◌, suc, List, [], ◌∷◌, map, get_or}
use Rattle.std.specs.List.{AllByRecursion}
use Rattle.frame_core.specs.declared.mac.Mac.{Mac}
use Rattle.fdb_core.specs.declared.row.LearnedRow.{LearnedRow}
use Rattle.fdb_core.specs.declared.learnt.Learnt.{Learnt}
use Rattle.fdb_core.specs.declared.learnt.Learnt.TheVariants.{New, Moved, Same, Full, Memory}
use Rattle.fdb_core.specs.Rows.{IsAddress, HaveAddresses, older_row, young_rows}
use Rattle.fdb_core.specs.Learning.{with_row, new_row, learned_rows}
use Rattle.fdb_core.proofs.Kept.{kept_by, all_joined}

pub octets_from : (octets : List ℕ) → ((i : ℕ) → get_or octets i 0 < 256) → AllByRecursion (λ o. o < 256) octets
octets_from [] h = tt
octets_from (o ∷ octets) h = (h 0, octets_from octets (λ i. h (suc i)))

addresses_with_row : (rows : List LearnedRow) (r : LearnedRow) → IsAddress r.address → HaveAddresses rows → HaveAddresses (with_row rows r)
addresses_with_row rows r is all = all_joined _ _ _ (kept_by _ _ rows all) (is, kept_by _ _ rows all)

-- what learning leaves
pub addresses_learned : (l : Learnt) (rows : List LearnedRow) (a : Mac) (port : ℕ) → IsAddress a → HaveAddresses rows → HaveAddresses (learned_rows l rows a port)
addresses_learned New rows a port is all = addresses_with_row rows (new_row a port) is all
addresses_learned Moved rows a port is all = addresses_with_row rows (new_row a port) is all
addresses_learned Same rows a port is all = addresses_with_row rows (new_row a port) is all
addresses_learned Full rows a port is all = all
addresses_learned Memory rows a port is all = all

-- a second later the addresses are the same
addresses_aged : (rows : List LearnedRow) → HaveAddresses rows → HaveAddresses (map older_row rows)
addresses_aged [] all = tt
addresses_aged (x ∷ xs) all = (all.0, addresses_aged xs all.1)

pub addresses_later : (limit : ℕ) (rows : List LearnedRow) → HaveAddresses rows → HaveAddresses (young_rows limit (map older_row rows))
addresses_later limit rows all = kept_by _ _ (map older_row rows) (addresses_aged rows all)
