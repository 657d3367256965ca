-- What the words of a command line ask for.
use Rattle.std.specs.Prelude.{◌≡◌, ℕ, Bool, true, false, codes, if◌then◌else◌, List, [], map, Option, Some, None, option_and_then, option_map}
use Rattle.std.specs.Str.{bytes_eq}
use Rattle.clap.specs.Words.{Row, Text, all_of, first_of, found_of, one_of, rows_of, fault_of, subcommand_of}
use Rattle.clap.specs.declared.parser.matches.ArgMatches.{ArgMatches}
use Rattle.agent_words.specs.Options.{agent_app}
use Rattle.agent_words.specs.declared.asked.Asked.{Asked}
use Rattle.agent_words.specs.Orders.{Command, order_of, order_view}
use Rattle.agent_words.specs.declared.asked.Asked.TheVariants.{BuiltIn, Script, Check, CheckPorts, CheckPolicy, Serve, Explain, ExplainPolicy, Tell}
use Rattle.agent_words.specs.declared.asked.Lasting.{Lasting}
use Rattle.agent_words.specs.declared.asked.Lasting.TheVariants.{Rounds, Forever}
use Rattle.agent_words.specs.declared.asked.Operation.{Operation}
use Rattle.agent_words.specs.declared.asked.Operation.TheVariants.{Get, GetNext, GetBulk, Set}
use Rattle.agent_words.specs.declared.asked.Question.{Question}

-- a request of this community for these names, as they are written
pub record Inquiry : Type 0 where
  pub community : List ℕ
  pub operation : Operation
  pub names : List (List ℕ)

-- For how long an agent is served.
pub data Term : Type 0 where
  -- until each of its lines has made its rounds
  for_rounds : Term
  -- without an end; whether the audit of each request is written, and the path of its control socket,
  -- if it has one
  forever : (audit : Bool) → (control : Option (List ℕ)) → Term

pub data Asking : Type 0 where
  -- the script by the built-in configuration
  built_in : Asking
  -- the script by the configuration of this file
  script : (file : List ℕ) → Asking
  -- whether this file is a configuration
  check : (file : List ℕ) → Asking
  -- the sockets of the configuration of this file
  check_ports : (file : List ℕ) → Asking
  -- whether this file is a policy, or a configuration with one
  check_policy : (file : List ℕ) → Asking
  -- the agent by the configuration of this file, over UDP, for so long
  serve : (file : List ℕ) → Term → Asking
  -- what the policy of the configuration of this file decides on such a request
  explain : (file : List ℕ) → Inquiry → Asking
  -- what the policy of this file, alone or of a configuration, decides on such a request
  explain_policy : (file : List ℕ) → Inquiry → Asking
  -- that the agent whose control socket has this path does such a command
  tell : (path : List ℕ) → Command → Asking

-- the rows of a level's matches
abbrev pub rows_in : ArgMatches → List Row
rows_in m = rows_of (found_of m)

-- whether a flag is given, by its value
abbrev pub is_set : Option Text → Bool
is_set None = false
is_set (Some value) = bytes_eq value (codes "true")

-- for how long an agent is served, by whether `--forever` and whether `--audit` is given, and by the
-- path that `--control` names: only an agent without an end writes the audit of each request, or has a
-- control socket
abbrev pub lasting_by : Bool → Bool → Option Text → Option Term
lasting_by true audit control = Some (forever audit control)
lasting_by false true control = None
lasting_by false false (Some path) = None
lasting_by false false None = Some for_rounds

-- the same as its words are
abbrev pub lasting_view : Lasting → Term
lasting_view Rounds = for_rounds
lasting_view (Forever audit control) = forever audit (option_map (λ path. path.now) control)

-- what a word says that a request does
abbrev pub operation_of : Text → Option Operation
operation_of word =
    if bytes_eq word (codes "get") then Some Get
    else if bytes_eq word (codes "next") then Some GetNext
    else if bytes_eq word (codes "bulk") then Some GetBulk
    else if bytes_eq word (codes "set") then Some Set
    else None

-- the request that a community, an operation and names make
abbrev pub inquiry_with : Option Text → Option Operation → Option (List Text) → Option Inquiry
inquiry_with (Some community) (Some operation) (Some names) =
    Some (record { community = community; operation = operation; names = names })
inquiry_with (Some community) (Some operation) None = None
inquiry_with (Some community) None names = None
inquiry_with None operation names = None

-- the request of which the decision is asked for, by the rows of matches
abbrev pub inquiry_by : List Row → Option Inquiry
inquiry_by rows = inquiry_with (first_of (codes "COMMUNITY") rows)
    (option_and_then operation_of (first_of (codes "REQUEST") rows)) (all_of (codes "NAME") rows)

-- for how long an agent is served, by the rows of matches
abbrev pub lasting_in : List Row → Option Term
lasting_in rows = lasting_by (is_set (one_of (codes "forever") rows))
    (is_set (one_of (codes "audit") rows)) (first_of (codes "PATH") rows)

-- a check of the file of a configuration or of that of a policy, where one of them is given, and not both; by
-- whether `--ports` is given, which asks for the sockets of a configuration alone
abbrev pub check_by : Bool → Option Text → Option Text → Option Asking
check_by false (Some file) None = Some (check file)
check_by true (Some file) None = Some (check_ports file)
check_by false None (Some file) = Some (check_policy file)
check_by true None (Some file) = None
check_by ports (Some file) (Some policy) = None
check_by ports None None = None

-- the same of an explanation of this request
abbrev pub explain_by : Option Text → Option Text → Inquiry → Option Asking
explain_by (Some file) None inquiry = Some (explain file inquiry)
explain_by None (Some file) inquiry = Some (explain_policy file inquiry)
explain_by (Some file) (Some policy) inquiry = None
explain_by None None inquiry = None

-- the files of a configuration and of a policy that are given, by the rows of matches
abbrev pub config_in : List Row → Option Text
config_in rows = first_of (codes "FILE") rows

abbrev pub policy_in : List Row → Option Text
policy_in rows = first_of (codes "POLICYFILE") rows

-- what a subcommand asks for of a file, by the rows of its matches
abbrev pub asking_with : Text → List Row → List ℕ → Option Asking
asking_with name rows file =
    if bytes_eq name (codes "script") then Some (script file)
    else if bytes_eq name (codes "serve") then option_map (serve file) (lasting_in rows)
    else None

-- the same where the matches have a file
abbrev pub file_asking_by : Text → List Row → Option Asking
file_asking_by name rows = option_and_then (asking_with name rows) (config_in rows)

-- a command for the agent whose control socket has this path
abbrev pub tell_with : Option Text → Option Command → Option Asking
tell_with (Some path) (Some command) = Some (tell path command)
tell_with (Some path) None = None
tell_with None command = None

-- the command for a served agent, by the rows of matches
abbrev pub tell_by : List Row → Option Asking
tell_by rows = tell_with (first_of (codes "PATH") rows)
    (option_and_then order_of (all_of (codes "COMMAND") rows))

-- what a subcommand asks for, by the rows of its matches
abbrev pub asking_by : Text → List Row → Option Asking
asking_by name rows =
    if bytes_eq name (codes "tell") then tell_by rows
    else if bytes_eq name (codes "check") then check_by (is_set (one_of (codes "ports") rows)) (config_in rows) (policy_in rows)
    else if bytes_eq name (codes "explain") then
    option_and_then (explain_by (config_in rows) (policy_in rows)) (inquiry_by rows)
    else file_asking_by name rows

-- what matches ask for: without a subcommand the script by the built-in configuration
abbrev pub asking_in : Option (Text × List Row) → Option Asking
asking_in None = Some built_in
asking_in (Some entered) = asking_by entered.0 entered.1

-- What words ask for, the program's name first.
abbrev pub asking_of : List Text → Option Asking
asking_of words = asking_in (subcommand_of agent_app words)

-- a request as its words are
abbrev pub question_view : Question → Inquiry
question_view question = record {
  community = question.community.now;
  operation = question.operation;
  names = map (λ name. name.now) question.names.items;
}

abbrev pub asked_view : Asked → Asking
asked_view BuiltIn = built_in
asked_view (Script file) = script file.now
asked_view (Check file) = check file.now
asked_view (CheckPorts file) = check_ports file.now
asked_view (CheckPolicy file) = check_policy file.now
asked_view (Serve file lasting) = serve file.now (lasting_view lasting)
asked_view (Explain file question) = explain file.now (question_view question)
asked_view (ExplainPolicy file question) = explain_policy file.now (question_view question)
asked_view (Tell path order) = tell path.now (order_view order)

-- These words ask for this: they have no fault, and it is what their matches say.
pub record IsAsked (words : List Text) (asked : Asked) : Type 0 where
  pub faultless : fault_of agent_app words ≡ []
  pub asks : asking_of words ≡ Some (asked_view asked)

-- What is asked for is to serve an agent.
abbrev pub is_serving : Asked → Bool
is_serving (Serve file lasting) = true
is_serving BuiltIn = false
is_serving (Script file) = false
is_serving (Check file) = false
is_serving (CheckPorts file) = false
is_serving (CheckPolicy file) = false
is_serving (Explain file question) = false
is_serving (ExplainPolicy file question) = false
is_serving (Tell path order) = false
