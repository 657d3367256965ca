use Rattle.std.proofs.Common.{codes}
use Rattle.std.specs.Str.Parse.{ParsesUnsigned, ExplainsUnsignedError, HasUnsignedDigitsIfOk}
use Rattle.clap.specs.Words.{found_of}
use Rattle.manager_words.proofs.Given.{tries_given, no_tries}
use Rattle.manager_words.proofs.matches.tries_in.Goals as goal

pub returns-in-Ok : goal.returns-in-Ok
returns-in-Ok c =
    tries_given (λ bs r. ParsesUnsigned 32 10 bs r × ExplainsUnsignedError 10 bs r × HasUnsignedDigitsIfOk bs r) (λ t x g. g.0) (found_of c.args.matches.now) (codes "TRIES") c.try_get_one.result c.in-Ok.tries c.in-Ok.is c.try_get_one.ensures.none c.try_get_one.ensures.value

pub returns-in-Err : goal.returns-in-Err
returns-in-Err c = λ _.
    no_tries (λ bs r. ParsesUnsigned 32 10 bs r × ExplainsUnsignedError 10 bs r × HasUnsignedDigitsIfOk bs r) (λ t x g. g.0) (found_of c.args.matches.now) (codes "TRIES") c.try_get_one.result c.in-Err.field-0 c.in-Err.is c.try_get_one.ensures.none c.try_get_one.ensures.value
