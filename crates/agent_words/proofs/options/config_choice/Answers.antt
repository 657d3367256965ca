use Rattle.std.proofs.Common.{◌∙◌, false, ap}
use Rattle.clap.specs.Words.{Rule}
use Rattle.clap.specs.declared.builder.arg.Arg.{Arg}
use Rattle.agent_words.proofs.Ruled.{needed}
use Rattle.agent_words.proofs.options.config_choice.Goals as goal

pub returns : goal.returns
returns c = record {
  ruled = needed c.config_option.result c.required.result false c.required.ensures ∙ ap (λ (r : Rule). record r { required = false }) c.config_option.ensures.ruled;
  local = ap (λ (a : Arg). a.global) c.required.ensures ∙ c.config_option.ensures.local;
}
