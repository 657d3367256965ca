use Rattle.std.proofs.Common.{◌≡◌, ◌∙◌, Some, codes, ap}
use Rattle.clap.specs.Words.{Rule}
use Rattle.clap.specs.declared.builder.arg.Arg.{Arg}
use Rattle.clap.specs.declared.builder.value_parser.ValueParser.TheVariants as parser
use Rattle.agent_words.proofs.Ruled.{helped, named, read_by}
use Rattle.agent_words.proofs.options.policy_option.Goals as goal

pub returns : goal.returns
returns c =
    let q = parser.NonEmptyString in
    let given = c.value_parser.ensures.given in
    let parsed : c.value_parser.result.value_parser ≡ Some q = given.1 ∙ ap Some given.2 in
    let long = named c.new.result c.long.result _ c.long.ensures ∙ ap (λ (r : Rule). record r { long = Some (codes "policy") }) c.new.ensures.rule in
    let read = read_by c.long.result c.value_parser.result q c.value_parser.ensures.others parsed ∙ ap (λ (r : Rule). record r { parser = Some q }) long in
    record {
      ruled = helped c.value_parser.result c.help.result _ c.help.ensures ∙ read;
      local = ap (λ (a : Arg). a.global) c.help.ensures ∙ ap (λ (a : Arg). a.global) c.value_parser.ensures.others ∙ ap (λ (a : Arg). a.global) c.long.ensures ∙ c.new.ensures.optional.1;
    }
