use Rattle.std.proofs.Common.{◌≡◌, ◌∙◌, Some, pos, codes, ap, rules}
use Rattle.clap.specs.Words.{Rule}
use Rattle.clap.specs.declared.builder.arg.Arg.{Arg}
use Rattle.clap.specs.declared.builder.value_parser.ValueParser.TheVariants as parser
use Rattle.manager_words.proofs.Ruled.{helped, named, read_by}
use Rattle.manager_words.proofs.options.tries_option.Goals as goal

pub returns : goal.returns
returns c =
    let q = parser.Signed (pos 1) (pos 10) in
    let given = c.value_parser-2.ensures.given in
    let made : c.range.result ≡ q = search rules in
    let parsed : c.value_parser-2.result.value_parser ≡ Some q = given.1 ∙ ap Some (given.2 ∙ made) in
    record {
      ruled = helped c.value_parser-2.result c.help.result _ c.help.ensures ∙ read_by c.long.result c.value_parser-2.result q c.value_parser-2.ensures.others parsed ∙ ap (λ (r : Rule). record r { parser = Some q }) (named c.new.result c.long.result _ c.long.ensures ∙ ap (λ (r : Rule). record r { long = Some (codes "tries") }) c.new.ensures.rule);
      local = ap (λ (a : Arg). a.global) c.help.ensures ∙ ap (λ (a : Arg). a.global) c.value_parser-2.ensures.others ∙ ap (λ (a : Arg). a.global) c.long.ensures ∙ c.new.ensures.optional.1;
    }
