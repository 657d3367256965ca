use Rattle.clap.specs.Words.{found_of, rows_of, subcommand_rows_of}
use Rattle.manager_words.specs.Requests.{IsStated}
use Rattle.manager_words.proofs.Refused.{no_command}
use Rattle.manager_words.proofs.program.command_of_matches.Goals as goal

pub returns-in-Err-clause-refused : goal.returns-in-Err-clause-refused
returns-in-Err-clause-refused c =
    let m = c.args.matches.now in
    no_command c.in-Err.fault c.error_of.result (IsStated (rows_of (found_of m)) (subcommand_rows_of m)) c.in-Err.ensures.read c.error_of.ensures.memory c.error_of.ensures.kind
