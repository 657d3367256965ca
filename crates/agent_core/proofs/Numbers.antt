-- The number of a binding for which a name is made is one of the request's.
use Rattle.std.proofs.Common.{◌≡◌, ◌≢◌, ℕ, suc, ◌+◌, ◌-◌, ◌%◌, ◌<◌, ◌≤◌, refl, subst, Bool, true, false, cond, List, ◌++◌, length, drop, min, nat_lt, arith, length-append, Result, Ok, Err, OnErr}
use Rattle.std.proofs.lemmas.Bool.{ltb-true, ltb-false}
use Rattle.std.proofs.lemmas.List.{length-drop}
use Rattle.std.proofs.lemmas.Nat.{mod_below}
use Rattle.message_core.specs.declared.binding.Binding.{Binding}
use Rattle.message_core.specs.declared.request.Kind.{Kind}
use Rattle.message_core.specs.declared.request.Kind.TheVariants.{Get, GetNext, GetBulk, Set}
use Rattle.message_core.specs.declared.request.Request.{Request}
use Rattle.message_core.specs.Instances.{names_of}
use Rattle.agent_core.specs.declared.shortage.Shortage.{Shortage}
use Rattle.agent_core.specs.declared.shortage.Shortage.TheVariants.{Name}
use Rattle.agent_core.specs.Bulk.{count_of}
use Rattle.agent_core.specs.Lacking.{LacksNextName, LacksBulkName, LacksNameOf, IfName, HasNoLookup, non_repeaters}
use Rattle.agent_core.specs.Sets.{greatest_index}
use Rattle.agent_core.proofs.Fits.{names-length}
use Rattle.agent_core.proofs.Lackings.{slice_within}

next_within : (shows : List ℕ → Bool) (rows : List Binding) (names : List (List ℕ)) (i : ℕ) → LacksNextName shows rows names i → i ≤ length names
next_within shows rows names i h =
    let there : h.before < length names = slice_within names h.before h.name h.asked in
    let number : i ≡ suc h.before = h.number in
    omega (arith, there, number)

-- `there` says that the list of names is asked at this place
bulk_within : (b : Bool) (once before size : ℕ) → nat_lt before once ≡ b → once ≤ size → before < size + (before - once) →
    cond b (before + 1) (once + (before - once) % (size - once) + 1) ≤ size
bulk_within true once before size e few there = let asked : before < once = ltb-true before once e in omega (arith, asked, few)
bulk_within false once before size e few there =
    let behind : once ≤ before = ltb-false before once e in
    let some : 0 < size - once = omega (arith, behind, there) in
    let below : (before - once) % (size - once) < size - once = mod_below (before - once) (size - once) some in
    omega (arith, below, few)

bulk_number_within : (shows : List ℕ → Bool) (rows : List Binding) (request : Request) (i : ℕ) → LacksBulkName shows rows request i → i ≤ length request.bindings
bulk_number_within shows rows request i h =
    let once : ℕ = non_repeaters request in
    let before : ℕ = length h.found in
    let names : List (List ℕ) = names_of request.bindings in
    let size : ℕ = length request.bindings in
    let few : min (count_of request.first) size ≤ size = omega arith in
    let at : before < length (names ++ drop once (names_of h.found)) = slice_within (names ++ drop once (names_of h.found)) before h.name h.asked in
    let there : before < size + (before - once) =
    omega (arith, at, length-append names (drop once (names_of h.found)), length-drop once (names_of h.found), names-length request.bindings, names-length h.found) in
    let number : i ≡ cond (nat_lt before once) (before + 1) (once + (before - once) % (size - once) + 1) = h.number in
    let within : cond (nat_lt before once) (before + 1) (once + (before - once) % (size - once) + 1) ≤ size = bulk_within (nat_lt before once) once before size refl few there in
    omega (arith, number, within)

pub number_within : (shows : List ℕ → Bool) (rows : List Binding) (request : Request) (kind : Kind) (i : ℕ) → LacksNameOf shows rows request kind i → i ≤ length request.bindings
number_within shows rows request Get i h = absurd h
number_within shows rows request GetNext i h =
    let there : i ≤ length (names_of request.bindings) = next_within shows rows (names_of request.bindings) i h in
    omega (arith, there, names-length request.bindings)
number_within shows rows request GetBulk i h = bulk_number_within shows rows request i h
number_within shows rows request Set i h = absurd h

-- of a name whose binding's number no error-index has
pub unnamed_ahead : {A E : Type 0} (result : Result A E) (shows : List ℕ → Bool) (rows : List Binding) (request : Request) (shortage : Shortage) (i before after : ℕ) → shortage ≡ Name i → OnErr result (greatest_index < i) →
    IfName (LacksNameOf shows rows request request.kind) shortage → OnErr result (HasNoLookup request before after)
unnamed_ahead (Ok x) shows rows request shortage i before after is most lacks = tt
unnamed_ahead (Err e) shows rows request shortage i before after is most lacks = λ kind few.
    let there : i ≤ length request.bindings = number_within shows rows request request.kind i (subst (IfName (LacksNameOf shows rows request request.kind)) is lacks) in
    let past : 2147483647 < i = most in
    let short : length request.bindings ≤ 2147483647 = few in
    absurd (omega (arith, there, past, short))
