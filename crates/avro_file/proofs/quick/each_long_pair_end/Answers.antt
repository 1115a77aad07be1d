use Rattle.std.proofs.Common.{◌++◌, ◌∷◌, []}
use Rattle.avro_schema.specs.Tree.{long}
use Rattle.avro_file.specs.Reading.{datum_at}
use Rattle.avro_file.specs.Pairs.{pair}
use Rattle.avro_file.proofs.Loop.{values_on, values_done}
use Rattle.avro_file.proofs.Behind.{behind_all}
use Rattle.avro_file.proofs.Paired.{long_pair_ends}
use Rattle.avro_file.proofs.quick.each_long_pair_end.Goals as goal

pub items-preserved : goal.items-preserved
items-preserved c =
    let i = c.items.invariant in
    let k = c.in_ok-value.ensures in
    let z = c.in_ok-here.ensures in (
      z.1,
      λ left.
          let front = i.1 left in
          let v = long_pair_ends c.args.bytes.now c.items.here c.in_ok-value.value c.in_ok-here.here left k z in (
            front.0 ++ v.0 ∷ [],
            values_on (datum_at (pair long)) front.0 c.args.count c.items.counter _ v.0 _ _
                c.items-test.true v.1 front.1,
          ),
    )

pub returns : goal.returns
returns c =
    let i = c.items.invariant in
    λ left. let front = i.1 left in (
      i.0,
      behind_all front.0 _ _ (values_done (datum_at (pair long)) front.0
          c.args.count c.items.counter _ _ c.items-test.false front.1),
    )
