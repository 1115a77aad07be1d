use Rattle.std.proofs.Common.{arith}
use Rattle.ice_value.specs.declared.column_type.ColumnType.TheVariants.{Boolean}
use Rattle.ice_manifest.proofs.Tuples.{none_for_each, tuple_on}
use Rattle.ice_manifest.proofs.adding.is_tuple_of.Goals as goal

pub returns-then-types-tuple : goal.returns-then-types-tuple
returns-then-types-tuple c = none_for_each c.args.types.now c.args.tuple.now (λ e. c.if-types-tuple.true e)

pub cells-preserved : goal.cells-preserved
cells-preserved c =
    tuple_on c.args.types.now c.args.tuple.now c.cells.place Boolean c.index-tuple-place.result _ c.cells-test.true
    (omega arith) c.index-tuple-place.is (cc) c.cells.invariant
