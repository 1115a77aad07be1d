use Rattle.std.proofs.Common.{arith}
use Rattle.ice_value.specs.declared.column_type.ColumnType.TheVariants.{Boolean}
use Rattle.ice_manifest.specs.Fitting.{CellFits}
use Rattle.ice_manifest.proofs.Tuples.{one_for_each, cell_is_of, values_on, values_over}
use Rattle.ice_manifest.proofs.WrittenItems.{all_on}
use Rattle.ice_manifest.proofs.written_entries.tuple_data.Goals as goal

pub bounds-types-place : goal.bounds-types-place
bounds-types-place c = omega (arith, one_for_each c.args.types.now c.args.tuple.now c.requires)

pub cell_datum-requires : goal.cell_datum-requires
cell_datum-requires c = cell_is_of c.args.types.now c.args.tuple.now c.cells.place Boolean c.index-tuple-place.result
    c.requires c.cells-test.true c.index-tuple-place.is

pub cells-preserved : goal.cells-preserved
cells-preserved c =
    let cell = c.index-tuple-place.result in record {
      value = rw c.in_ok-push.ensures.items (values_on c.args.types.now c.args.tuple.now c.cells.place Boolean cell
          c.cells.values.items c.in_ok-cell_datum.field-0 c.requires c.cells-test.true c.index-tuple-place.is
          c.in_ok-cell_datum.ensures.value c.cells.invariant.value);
      fits = all_on CellFits c.args.tuple.now c.cells.place cell c.cells-test.true c.index-tuple-place.is
          c.in_ok-cell_datum.ensures.fits c.cells.invariant.fits;
    }

pub returns-clause-value : goal.returns-clause-value
returns-clause-value c = values_over c.args.types.now c.args.tuple.now c.cells.place _ c.requires c.cells-test.false
    c.cells.invariant.value
