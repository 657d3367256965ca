use Rattle.std.proofs.Common.{◌∙◌, Some, refl, sym, ap, subst, arith}
use Rattle.setphase_core.specs.declared.column.Column.TheVariants as column
use Rattle.setphase_core.specs.declared.column.Base.TheVariants as base
use Rattle.object_list.specs.declared.object.Object.TheVariants as object
use Rattle.object_list.specs.Objects.{state_of, states_of}
use Rattle.setphase_core.specs.Names.{columns, row_of}
use Rattle.setphase_core.specs.Registry.{rows_of, first_fault, held_count, AreNamed}
use Rattle.object_list.proofs.Rows.{rows_with, idle_with, idle_driven, stands, many, one_more, one_more_idle}
use Rattle.object_list.proofs.columns.objects.Goals as goal

pub loop-column-preserved : goal.loop-column-preserved
loop-column-preserved g c = record {
  items = c.loop-column.invariant.items;
  rows = ap (λ os. rows_of (states_of g.L.LineDriver.failures g.L.LineDriver.plan_left os)) c.in_ok-push.ensures.items ∙ one_more (state_of g.L.LineDriver.failures g.L.LineDriver.plan_left) c.loop-column.objects.items c.of.result columns c.loop-column.column-index (column.Base base.BridgeAddress) (omega (arith, c.loop-column-test.true)) c.loop-column.invariant.rows (ap row_of c.of.ensures.column);
  idle = ap (λ os. held_count (states_of g.L.LineDriver.failures g.L.LineDriver.plan_left os)) c.in_ok-push.ensures.items ∙ one_more_idle (state_of g.L.LineDriver.failures g.L.LineDriver.plan_left) c.loop-column.objects.items c.of.result c.loop-column.invariant.idle c.of.ensures.reserved;
}

pub returns-clause-all : goal.returns-clause-all
returns-clause-all g c = rows_with (state_of g.L.LineDriver.failures g.L.LineDriver.plan_left) c.loop-column.objects.items (object.Enable c.new.result) c.loop-column.column-index (omega (arith, c.loop-column-test.false, c.loop-column.auto.column-index-end)) c.loop-column.invariant.rows refl

pub returns-clause-idle : goal.returns-clause-idle
returns-clause-idle g c = idle_with (state_of g.L.LineDriver.failures g.L.LineDriver.plan_left) c.loop-column.objects.items 25 (object.Enable c.new.result) c.loop-column.invariant.idle (idle_driven c.new.result c.args.driver c.new.ensures)

pub returns-clause-driven : goal.returns-clause-driven
returns-clause-driven g c =
    stands c.loop-column.objects.items 25 (object.Enable c.new.result)
    (many (state_of g.L.LineDriver.failures g.L.LineDriver.plan_left) c.loop-column.objects.items c.loop-column.column-index (omega (arith, c.loop-column-test.false, c.loop-column.auto.column-index-end)) c.loop-column.invariant.rows)
    ∙ ap (λ x. Some (object.Enable x)) c.new.ensures

pub returns-clause-named : goal.returns-clause-named
returns-clause-named g c = subst AreNamed (sym (rows_with (state_of g.L.LineDriver.failures g.L.LineDriver.plan_left) c.loop-column.objects.items (object.Enable c.new.result) c.loop-column.column-index (omega (arith, c.loop-column-test.false, c.loop-column.auto.column-index-end)) c.loop-column.invariant.rows refl)) c.objects_are_accepted.ensures.named

pub returns-clause-accepted : goal.returns-clause-accepted
returns-clause-accepted g c = ap first_fault (rows_with (state_of g.L.LineDriver.failures g.L.LineDriver.plan_left) c.loop-column.objects.items (object.Enable c.new.result) c.loop-column.column-index (omega (arith, c.loop-column-test.false, c.loop-column.auto.column-index-end)) c.loop-column.invariant.rows refl) ∙ c.objects_are_accepted.ensures.accepted
