use Rattle.std.proofs.Common.{◌∙◌, Some, ap}
use Rattle.clap.specs.Words.{Rule}
use Rattle.clap.specs.declared.builder.action.ArgAction.TheVariants.{SetTrue}
use Rattle.clap.specs.declared.builder.arg.Arg.{Arg}
use Rattle.agent_words.proofs.Ruled.{acting, helped, named}
use Rattle.agent_words.proofs.options.flag.Goals as goal

pub returns : goal.returns
returns c =
    let long = named c.new.result c.long.result _ c.long.ensures ∙ ap (λ (r : Rule). record r { long = Some c.args.name.now }) c.new.ensures.rule in
    record {
      ruled = helped c.action.result c.help.result _ c.help.ensures ∙ acting c.long.result c.action.result SetTrue c.action.ensures ∙ ap (λ (r : Rule). record r { action = Some SetTrue }) long;
      local = ap (λ (a : Arg). a.global) c.help.ensures ∙ ap (λ (a : Arg). a.global) c.action.ensures ∙ ap (λ (a : Arg). a.global) c.long.ensures ∙ c.new.ensures.optional.1;
    }
