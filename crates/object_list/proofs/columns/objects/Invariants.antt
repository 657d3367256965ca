use Rattle.std.proofs.Common.{◌≡◌, map, take}
use Rattle.setphase_core.specs.Names.{columns, row_of}
use Rattle.setphase_core.specs.Registry.{rows_of, held_count}
use Rattle.object_list.specs.Objects.{states_of}
use Rattle.object_list.proofs.columns.objects.Given as goal

abbrev pub invariant-loop-column : goal.invariant-loop-column
invariant-loop-column g l = record {
  items : l.column-items ≡ columns;
  rows : rows_of (states_of g.L.LineDriver.failures g.L.LineDriver.plan_left l.objects.items) ≡ map row_of (take l.column-index l.column-items);
  idle : held_count (states_of g.L.LineDriver.failures g.L.LineDriver.plan_left l.objects.items) ≡ 0;
}
