use Rattle.std.proofs.Common.{◌≡◌, ◌≢◌, ◌<◌, ◌-◌, rules, get_or, take, drop, length, arith}
use Rattle.std.proofs.lemmas.List.{take_rest, get_or_past}
use Rattle.manager_words.proofs.Spelled.{no_integer, plain_found}
use Rattle.manager_words.proofs.bindings.integer_of.Goals as goal
use Rattle.manager_words.proofs.bindings.integer_of.Goals.{in_default-via-then-text-lt1, in_default-via-else-text-lt1+in_default-1}

pub returns-in_default-read_number : goal.returns-in_default-read_number
returns-in_default-read_number c =
    let minus : get_or c.args.text.now 0 0 ≡ 45 = omega arith in
    no_integer c.args.text.now (take (length c.args.text.now - 1) (drop 1 c.args.text.now)) c.read_number.result c.in-45.len_at_least minus (take_rest c.args.text.now 1) c.read_number.ensures.printed (λ n some same. let one : c.in-Some.number ≡ n = cc (c.in-Some.is, same) in absurd (omega arith))

pub returns-in_default-read_number-2 : goal.returns-in_default-read_number-2
returns-in_default-read_number-2 c =
    let minus : get_or c.args.text.now 0 0 ≡ 45 = omega arith in
    no_integer c.args.text.now (take (length c.args.text.now - 1) (drop 1 c.args.text.now)) c.read_number.result c.in-45.len_at_least minus (take_rest c.args.text.now 1) c.read_number.ensures.printed (λ n some same. cc (c.in_default-read_number.is, same))

pub returns-in_default : goal.returns-in_default
returns-in_default c =
    elim c.in_default.branch [
      | in_default-via-then-text-lt1 w ↦
          let few : length c.args.text.now < 1 = search rules in
          let none = get_or_past c.args.text.now 0 0 (omega arith) in
          plain_found c.args.text.now c.plain_integer.result (λ minus. omega (arith, none, minus)) c.plain_integer.ensures
      | in_default-via-else-text-lt1+in_default-1 w ↦
          let other : get_or c.args.text.now 0 0 ≢ 45 = search rules in
          plain_found c.args.text.now c.plain_integer.result other c.plain_integer.ensures
    ]
