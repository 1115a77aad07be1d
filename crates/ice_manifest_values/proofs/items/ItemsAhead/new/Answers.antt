use Rattle.std.proofs.Common.{arith}
use Rattle.avro_schema.specs.View.{tree}
use Rattle.ice_manifest_values.proofs.Coming.{all_ahead}
use Rattle.ice_manifest_values.proofs.items.ItemsAhead.new.Goals as goal

pub returns-clause-items : goal.returns-clause-items
returns-clause-items c = λ id kind v at.
    let all = all_ahead (tree c.args.schema.now) id kind c.args.bytes.now v at in
    (all.0, all.1, (omega arith, all.2.0, all.2.1, all.2.2))
