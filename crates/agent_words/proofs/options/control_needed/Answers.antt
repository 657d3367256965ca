use Rattle.std.proofs.Common.{◌∙◌, true, ap}
use Rattle.clap.specs.Words.{Rule}
use Rattle.clap.specs.declared.builder.arg.Arg.{Arg}
use Rattle.agent_words.proofs.Ruled.{needed}
use Rattle.agent_words.proofs.options.control_needed.Goals as goal

pub returns : goal.returns
returns c = record {
  ruled = needed c.control_option.result c.required.result true c.required.ensures ∙ ap (λ (r : Rule). record r { required = true }) c.control_option.ensures.ruled;
  local = ap (λ (a : Arg). a.global) c.required.ensures ∙ c.control_option.ensures.local;
}
