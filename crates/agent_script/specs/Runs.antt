-- How a script went.
use Rattle.std.specs.Prelude.{◌≡◌, ℕ, List, Option, Result, IfOk, IfErr, IfSome}
use Rattle.script_core.specs.Lines.{lines_of}
use Rattle.script_core.specs.Runs.{Reads, Writes, IsFrontOf}
use Rattle.script_core.specs.declared.fault.RunFault.{RunFault}
use Rattle.script_core.specs.declared.fault.RunFault.TheVariants.{Input, Output, Memory, Stopped}
use Rattle.agent_script.specs.Script.{IsStated, IsStatedBefore, IsGivenUp, IsOutAtLine, IsStatedSome}
use Rattle.agent_script.specs.State.{Agent}
use Rattle.agent_script.specs.declared.session.ScriptEnd.{ScriptEnd}

-- A reader that may report which octets it has left, and a writer that may report which it took.
module _ {I O : Type 0} (remaining : I → Option (List ℕ)) (contents : O → Option (List ℕ)) where
  -- A script was run over this agent, and went so.
  pub record IsScriptRun (agent : Agent) (reader reader' : I) (writer writer' : O) (went : Result ScriptEnd RunFault) : Type 0 where
    -- to its end: what is written is the script's text, and the answer says whether all lines were
    -- answered in full
    pub written : IfOk went (λ run. IfSome (remaining reader) (λ input.
        Writes (contents writer) (contents writer') (λ text. IsStated agent (lines_of input) text run)))
    -- until the input failed: each line that had ended was answered
    pub input : IfErr went (λ fault. fault ≡ Input → Reads (remaining reader) (remaining reader') (λ input rest.
        Writes (contents writer) (contents writer') (λ text. IsStatedBefore agent input rest text)))
    -- until a line was given up for want of memory: each line before it is answered, and it was
    -- read, in part at least
    pub given_up : IfErr went (λ fault. fault ≡ Memory →
        Reads (remaining reader) (remaining reader') (λ input rest.
        Writes (contents writer) (contents writer') (λ text. IsGivenUp agent input rest text)))
    -- until a write failed: what is written is a front of the text of the first lines, or of
    -- all of them and the end
    pub output : IfErr went (λ fault. fault ≡ Output → IfSome (remaining reader) (λ input.
        Writes (contents writer) (contents writer') (λ text. IsFrontOf (λ whole.
        IsStatedSome agent (lines_of input) whole) text)))
    -- until no number was left for an entry of a line: each line before it is answered
    pub stopped : IfErr went (λ fault. fault ≡ Stopped →
        Reads (remaining reader) (remaining reader') (λ input rest.
        Writes (contents writer) (contents writer') (λ text. IsOutAtLine agent input rest text)))
