use Rattle.std.proofs.Common.{codes, []}
use Rattle.clap.specs.Words.{App, with_rule}
use Rattle.manager_words.specs.Options.{bulk_number, request_shape, some_words}
use Rattle.manager_words.proofs.Added.{taking}
use Rattle.manager_words.proofs.options.bulk_command.Goals as goal

pub returns : goal.returns
returns c =
    let none : App = record { top = request_shape (codes "bulk") []; subs = [] } in
    let first = bulk_number (codes "N") in
    let second = bulk_number (codes "M") in
    let one = with_rule none first in
    let two = with_rule one second in
    let h1 = taking none first c.request_command-bulk.result c.bulk_number-first.result c.with_argument-bulk.result c.request_command-bulk.ensures c.bulk_number-first.ensures c.with_argument-bulk.ensures in
    let h2 = taking one second c.with_argument-bulk.result c.bulk_number-second.result c.with_argument-bulk-2.result h1 c.bulk_number-second.ensures c.with_argument-bulk-2.ensures in
    taking two (some_words (codes "NAME")) c.with_argument-bulk-2.result c.names.result c.with_argument.result h2 c.names.ensures c.with_argument.ensures
