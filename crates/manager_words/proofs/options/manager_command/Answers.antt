use Rattle.std.proofs.Common.{codes, []}
use Rattle.clap.specs.Words.{App, with_subcommand}
use Rattle.manager_words.specs.Options.{names_shape, bulk_shape, walk_shape, set_shape, manager_shape}
use Rattle.manager_words.proofs.Added.{added}
use Rattle.manager_words.proofs.options.manager_command.Goals as goal

pub returns : goal.returns
returns c =
    let none : App = record { top = manager_shape; subs = [] } in
    let get = names_shape (codes "get") in
    let next = names_shape (codes "next") in
    let one = with_subcommand none get in
    let two = with_subcommand one next in
    let three = with_subcommand two bulk_shape in
    let four = with_subcommand three walk_shape in
    let h1 = added none get c.manager_options.result c.names_command.result c.added-manager.result c.manager_options.ensures c.names_command.ensures c.added-manager.ensures in
    let h2 = added one next c.added-manager.result c.names_command-2.result c.added-manager-2.result h1 c.names_command-2.ensures c.added-manager-2.ensures in
    let h3 = added two bulk_shape c.added-manager-2.result c.bulk_command.result c.added-manager-3.result h2 c.bulk_command.ensures c.added-manager-3.ensures in
    let h4 = added three walk_shape c.added-manager-3.result c.walk_command.result c.added-manager-4.result h3 c.walk_command.ensures c.added-manager-4.ensures in
    added four set_shape c.added-manager-4.result c.set_command.result c.added.result h4 c.set_command.ensures c.added.ensures
