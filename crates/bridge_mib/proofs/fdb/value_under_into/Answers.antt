use Rattle.std.proofs.Common.{◌∙◌, sym}
use Rattle.setphase_core.specs.Columns.{tp_fdb_value}
use Rattle.bridge_mib.proofs.Learned.{no_value_at, no_value_for, value_for}
use Rattle.bridge_mib.proofs.fdb.value_under_into.Goals as goal

pub returns-in_default-clause-found : goal.returns-in_default-clause-found
returns-in_default-clause-found c = no_value_at c.args.fdb.now.rows (tp_fdb_value c.args.which) c.args.at.now c.known.ensures.addresses (c.address_at.ensures.none c.in_default.is)

pub returns-in_default-find-clause-found : goal.returns-in_default-find-clause-found
returns-in_default-find-clause-found c = no_value_for c.args.fdb.now.rows (tp_fdb_value c.args.which) c.in-Some.address c.args.at.now c.in-Some.ensures.found (sym c.in_default-find.is ∙ c.find.ensures)

pub returns-clause-found : goal.returns-clause-found
returns-clause-found c = value_for c.args.fdb.now.rows (tp_fdb_value c.args.which) c.in-Some.address c.args.at.now c.in-Some-find.port _ c.in-Some.ensures.found (sym c.in-Some-find.is ∙ c.find.ensures) c.fdb_value.ensures
