use Rattle.std.proofs.Common.{◌∙◌, arith}
use Rattle.script_core.proofs.WordsLemmas.{number_of_printed, number_of_read}
use Rattle.script_core.proofs.words.read_number.Goals as goal

pub returns-clause-printed : goal.returns-clause-printed
returns-clause-printed c = λ n low e. c.scan_number.ensures ∙ number_of_printed c.args.most n c.args.word.now low (omega arith) e

pub returns-clause-read : goal.returns-clause-read
returns-clause-read c = number_of_read c.args.most c.args.word.now c.scan_number.result (omega arith) c.scan_number.ensures
