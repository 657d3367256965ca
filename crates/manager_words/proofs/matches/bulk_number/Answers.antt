use Rattle.std.proofs.Common.{◌≡◌, Some, None, Ok}
use Rattle.std.specs.Int.{w32}
use Rattle.std.specs.Str.Parse.{ParsesSigned, ExplainsSignedError, HasSignedDigitsIfOk}
use Rattle.clap.specs.Words.{found_of, one_of, rows_of}
use Rattle.manager_words.proofs.Given.{bulk_given, bulk_kept, missing_bulk, no_bulk}
use Rattle.manager_words.proofs.matches.bulk_number.Goals as goal

pub returns-in-Ok-Some : goal.returns-in-Ok-Some
returns-in-Ok-Some c =
    let is : c.try_get_one.result ≡ Ok (Some c.in-Ok-Some.number) = cc in
    let stated = bulk_given (λ bs r. ParsesSigned w32 10 bs r × ExplainsSignedError 10 bs r × HasSignedDigitsIfOk bs r) (λ t x g. g.0) (found_of c.args.request.now) c.args.id.now c.try_get_one.result c.in-Ok-Some.number is c.try_get_one.ensures.none c.try_get_one.ensures.value in
    rw (bulk_kept (one_of c.args.id.now (rows_of (found_of c.args.request.now))) c.in-Ok-Some.number stated) stated

pub returns-in-Ok-None : goal.returns-in-Ok-None
returns-in-Ok-None c = λ _.
    let is : c.try_get_one.result ≡ Ok None = cc in
    missing_bulk (λ bs r. ParsesSigned w32 10 bs r × ExplainsSignedError 10 bs r × HasSignedDigitsIfOk bs r) (found_of c.args.request.now) c.args.id.now c.try_get_one.result is c.try_get_one.ensures.value

pub returns-in-Err : goal.returns-in-Err
returns-in-Err c = λ _.
    no_bulk (λ bs r. ParsesSigned w32 10 bs r × ExplainsSignedError 10 bs r × HasSignedDigitsIfOk bs r) (λ t x g. g.0) (found_of c.args.request.now) c.args.id.now c.try_get_one.result c.in-Err.field-0 c.in-Err.is c.try_get_one.ensures.value
