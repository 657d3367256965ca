-- The words of `agentd` as `clap` reads them: one command with five subcommands, none of which has to stand, beside
-- clap's own `help`.
use Rattle.std.specs.Prelude.{codes, true, false, if◌then◌else◌, [], ◌∷◌, Some}
use Rattle.std.specs.Str.{bytes_eq}
use Rattle.clap.specs.Lexer.{usize_max}
use Rattle.clap.specs.Words.{App, Rule, Shape, Text, new_rule}
use Rattle.clap.specs.Simple.{new_shape}
use Rattle.clap.specs.declared.builder.action.ArgAction.TheVariants.{SetTrue}
use Rattle.clap.specs.declared.builder.value_parser.ValueParser.TheVariants as parser

-- `--config` and the name of a file, which has to stand
abbrev pub config_option : Rule
config_option = record (new_rule (codes "FILE")) {
  long = Some (codes "config");
  parser = Some parser.NonEmptyString;
  required = true;
}

-- `--config` and the name of a file, in whose place `--policy` may stand
abbrev pub config_choice : Rule
config_choice = record config_option { required = false }

-- `--policy` and the name of a policy's file
abbrev pub policy_option : Rule
policy_option = record (new_rule (codes "POLICYFILE")) {
  long = Some (codes "policy");
  parser = Some parser.NonEmptyString;
}

-- `--control` and the path of a socket
abbrev pub control_option : Rule
control_option = record (new_rule (codes "PATH")) {
  long = Some (codes "control");
  parser = Some parser.NonEmptyString;
}

-- the same, which has to stand
abbrev pub control_needed : Rule
control_needed = record control_option { required = true }

-- a flag of this name, which stands or not
abbrev pub flag_rule : Text → Rule
flag_rule name = record (new_rule name) {
  long = Some name;
  action = Some SetTrue;
}

-- `--forever`
abbrev pub forever_flag : Rule
forever_flag = flag_rule (codes "forever")

-- `--audit`
abbrev pub audit_flag : Rule
audit_flag = flag_rule (codes "audit")

-- `--ports`
abbrev pub ports_flag : Rule
ports_flag = flag_rule (codes "ports")

-- one word that has to stand
abbrev pub one_word : Text → Rule
one_word id = record (new_rule id) { required = true }

-- one word or more
abbrev pub some_words : Text → Rule
some_words id = record (one_word id) {
  range = Some (record { start_inclusive = 1; end_inclusive = usize_max });
}

-- what is done with a file
abbrev pub file_shape : Text → Shape
file_shape name = record (new_shape name) { rules = config_option ∷ [] }

-- what is done with the file of a configuration or of a policy
abbrev pub either_shape : Text → Shape
either_shape name =
    record (new_shape name) { rules = config_choice ∷ (policy_option ∷ []) }

-- such a file, and whether its ports' sockets are asked for alone
abbrev pub check_shape : Shape
check_shape = record (new_shape (codes "check")) { rules = config_choice ∷ (policy_option ∷ (ports_flag ∷ [])) }

abbrev pub serve_shape : Shape
serve_shape = record (new_shape (codes "serve")) { rules = config_option ∷ (forever_flag ∷ (audit_flag ∷ (control_option ∷ []))) }

-- a file, and the request of which the decision is asked for
abbrev pub explain_shape : Shape
explain_shape = record (new_shape (codes "explain")) {
  rules = config_choice ∷ (policy_option ∷ (one_word (codes "COMMUNITY") ∷ (one_word (codes "REQUEST") ∷ (some_words (codes "NAME") ∷ []))));
}

-- a control socket, and the command for the agent that has it
abbrev pub tell_shape : Shape
tell_shape = record (new_shape (codes "tell")) {
  rules = control_needed ∷ (some_words (codes "COMMAND") ∷ []);
}

-- what stands in front of that
abbrev pub agent_shape : Shape
agent_shape = record (new_shape (codes "agentd")) { has_version = true }

-- The words of `agentd`.
abbrev pub agent_app : App
agent_app = record {
  top = record agent_shape { is_leaf = false };
  subs = file_shape (codes "script") ∷ (check_shape ∷ (serve_shape ∷ (explain_shape ∷ (tell_shape ∷ []))));
}

-- one subcommand by itself
abbrev pub alone : Shape → App
alone shape = record { top = shape; subs = [] }

-- the words that the usage shows under a mistake in those of a subcommand: its own
abbrev pub usage_app : Text → App
usage_app name =
    if bytes_eq name (codes "check") then alone check_shape
    else if bytes_eq name (codes "serve") then alone serve_shape
    else if bytes_eq name (codes "explain") then alone explain_shape
    else if bytes_eq name (codes "tell") then alone tell_shape
    else agent_app
