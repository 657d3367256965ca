use Rattle.std.proofs.Common.{◌∙◌, true, ap}
use Rattle.clap.specs.Words.{Rule}
use Rattle.clap.specs.declared.builder.arg.Arg.{Arg}
use Rattle.agent_words.proofs.Ruled.{helped, needed}
use Rattle.agent_words.proofs.options.one_word.Goals as goal

pub returns : goal.returns
returns c = record {
  ruled = helped c.required.result c.help.result _ c.help.ensures ∙ needed c.new.result c.required.result true c.required.ensures ∙ ap (λ (r : Rule). record r { required = true }) c.new.ensures.rule;
  local = ap (λ (a : Arg). a.global) c.help.ensures ∙ ap (λ (a : Arg). a.global) c.required.ensures ∙ c.new.ensures.optional.1;
}
