use Rattle.std.proofs.Common.{◌≡◌, ℕ, List, ◌-◌, ◌≤◌, ◌∙◌, ap, arith, drop, length}
use Rattle.std.specs.List.{flat_map}
use Rattle.std.proofs.lemmas.List.{length-drop, length-take, take_rest}
use Rattle.oid_core.specs.Name.{canon_coded}
use Rattle.oid_core.proofs.Written.{part_front, part_octets}
use Rattle.oid_core.proofs.writing.put_short.Goals as goal

pub returns-clause-octets : goal.returns-clause-octets
returns-clause-octets c =
    let space = c.args.space.now in
    let name = c.args.name.now in
    let start : ℕ = c.args.start in
    let most : ℕ = c.min-most.result in
    let a : ℕ = start - most in
    let less : most ≤ start = omega (arith, c.min-most.ensures) in
    let within : most ≤ length name = omega (arith, c.min-most.ensures, c.requires.root) in
    let all : start - a ≡ most = omega (arith, less) in
    let len : length c.put_tail.new.octets ≡ most = omega (arith, c.put_tail.ensures.len, length-take (start - a) (drop a space), length-drop a space, less, c.requires.start) in
    let left : c.put_tail.result ≤ most = omega (arith, c.put_tail.ensures.within, ap length (take_rest name (length name - most)), length-drop (length name - most) name, within) in
    part_octets space c.put_tail.new.octets name start most c.put_tail.result a (start - a) (omega (arith, less)) all c.requires.start within len left
    (c.put_tail.ensures.octets ∙ ap (λ (t : List ℕ). flat_map canon_coded (drop c.put_tail.result t)) (take_rest name (length name - most)))

pub returns-clause-front : goal.returns-clause-front
returns-clause-front c =
    let space = c.args.space.now in
    let name = c.args.name.now in
    let start : ℕ = c.args.start in
    let most : ℕ = c.min-most.result in
    let a : ℕ = start - most in
    let less : most ≤ start = omega (arith, c.min-most.ensures) in
    let within : most ≤ length name = omega (arith, c.min-most.ensures, c.requires.root) in
    let all : start - a ≡ most = omega (arith, less) in
    let len : length c.put_tail.new.octets ≡ most = omega (arith, c.put_tail.ensures.len, length-take (start - a) (drop a space), length-drop a space, less, c.requires.start) in
    let left : c.put_tail.result ≤ most = omega (arith, c.put_tail.ensures.within, ap length (take_rest name (length name - most)), length-drop (length name - most) name, within) in
    part_front space c.put_tail.new.octets start most c.put_tail.result a (start - a) (omega (arith, less)) all c.requires.start len left c.put_tail.ensures.front
