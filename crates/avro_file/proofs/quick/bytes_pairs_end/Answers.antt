use Rattle.std.proofs.Common.{◌++◌, ◌∷◌, []}
use Rattle.avro_schema.specs.declared.schema.BytesKind.TheVariants.{Plain}
use Rattle.avro_schema.specs.Tree.{octets}
use Rattle.avro_file.specs.Reading.{datum_at}
use Rattle.avro_file.specs.Pairs.{pair}
use Rattle.avro_file.proofs.Loop.{values_on, values_done}
use Rattle.avro_file.proofs.Behind.{behind_all, behind_ok}
use Rattle.avro_file.proofs.quick.bytes_pairs_end.Goals as goal

pub items-preserved : goal.items-preserved
items-preserved c =
    let i = c.items.invariant in
    let z = c.in_ok-here.ensures in (
      (z 0).0,
      λ left.
          let front = i.1 left in
          let v = behind_ok _ _ (z left).1 in (
            front.0 ++ v.0 ∷ [],
            values_on (datum_at (pair (octets Plain))) front.0 c.args.count c.items.counter _ v.0 _
                _ c.items-test.true v.1 front.1,
          ),
    )

pub returns : goal.returns
returns c =
    let i = c.items.invariant in
    λ left. let front = i.1 left in (
      i.0,
      behind_all front.0 _ _ (values_done (datum_at (pair (octets Plain))) front.0
          c.args.count c.items.counter _ _ c.items-test.false front.1),
    )
