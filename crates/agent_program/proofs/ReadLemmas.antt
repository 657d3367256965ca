-- What was had of a reader, by how many octets were taken of it.
use Rattle.std.proofs.Common.{◌≡◌, ◌∙◌, ℕ, ◌+◌, ◌<◌, ◌≤◌, min, leb, true, false, List, [], ◌++◌, length, take, Option, Some, None, IfSome, option_map, refl, ap, arith}
use Rattle.std.proofs.lemmas.List.{length-take, take_all}
use Rattle.std.proofs.lemmas.Bool.{le-leb, lt-leb}
use Rattle.agent_program.specs.Files.{within}

-- No more than so many were taken, of one octet more: they are all,
pub all_taken : (most : ℕ) (given : Option (List ℕ)) (items : List ℕ)
    → IfSome (option_map (take (most + 1)) given) (λ xs. items ≡ [] ++ xs) → length items ≤ most
    → IfSome given (λ octets. Some items ≡ within most octets)
all_taken most None items is few = tt
all_taken most (Some xs) items is few =
    let cut : length items ≡ min (most + 1) (length xs) = ap length is ∙ length-take (most + 1) xs in
    let short : length xs ≤ most = omega arith in
    let whole : take (most + 1) xs ≡ xs = take_all (most + 1) xs (omega arith) in
    rw (le-leb (length xs) most short) (ap Some (is ∙ whole))

-- or more were, and there are more.
pub more_taken : (most : ℕ) (given : Option (List ℕ)) (items : List ℕ)
    → IfSome (option_map (take (most + 1)) given) (λ xs. items ≡ [] ++ xs) → most < length items
    → IfSome given (λ octets. None ≡ within most octets)
more_taken most None items is many = tt
more_taken most (Some xs) items is many =
    let cut : length items ≡ min (most + 1) (length xs) = ap length is ∙ length-take (most + 1) xs in
    let long : most < length xs = omega arith in
    rw (lt-leb (length xs) most long) refl
