-- What the setters of an argument make of its rule.
use Rattle.std.proofs.Common.{◌≡◌, ◌∙◌, ℕ, Bool, List, Option, Some, ap}
use Rattle.std.specs.Borrow.{Bor}
use Rattle.clap.specs.Words.{rule_of}
use Rattle.clap.specs.declared.builder.action.ArgAction.{ArgAction}
use Rattle.clap.specs.declared.builder.arg.Arg.{Arg}
use Rattle.clap.specs.declared.builder.value_parser.ValueParser.{ValueParser}

pub helped : (a b : Arg) (text : Option (Bor (List ℕ))) → b ≡ record a { help = text } → rule_of b ≡ rule_of a
helped a b text is = ap rule_of is

pub needed : (a b : Arg) (wanted : Bool) → b ≡ record a { required = wanted } → rule_of b ≡ record (rule_of a) { required = wanted }
needed a b wanted is = ap rule_of is

pub named : (a b : Arg) (word : Bor (List ℕ)) → b ≡ record a { long = Some word } → rule_of b ≡ record (rule_of a) { long = Some word.now }
named a b word is = ap rule_of is

pub acting : (a b : Arg) (action : ArgAction) → b ≡ record a { action = Some action } → rule_of b ≡ record (rule_of a) { action = Some action }
acting a b action is = ap rule_of is

pub read_by : (a b : Arg) (q : ValueParser) → b ≡ record a { value_parser = b.value_parser } → b.value_parser ≡ Some q → rule_of b ≡ record (rule_of a) { parser = Some q }
read_by a b q is same =
    ap rule_of is ∙ ap (λ (p : Option ValueParser). record (rule_of a) { parser = p }) same
