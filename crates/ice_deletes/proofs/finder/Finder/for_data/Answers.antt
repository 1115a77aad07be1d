use Rattle.std.proofs.Common.{w32}
use Rattle.std.proofs.lemmas.Int.{to_z-of_z}
use Rattle.ice_deletes.specs.Found.{data_key}
use Rattle.ice_deletes.proofs.Neighbours.{hits_apply, of_spec}
use Rattle.ice_deletes.proofs.finder.Finder.for_data.Goals as goal

pub returns-clause-positions : goal.returns-clause-positions
returns-clause-positions c = (of_spec c.args.self.now _ c.args.spec_id c.args.tuple.now c.args.sequence_number
    c.args.path.now c.found-hits.result
    (to_z-of_z w32 c.args.spec_id c.ranges.spec_id) c.found-hits.ensures.hits).positions

pub returns-clause-referenced : goal.returns-clause-referenced
returns-clause-referenced c = (of_spec c.args.self.now _ c.args.spec_id c.args.tuple.now c.args.sequence_number
    c.args.path.now c.found-hits.result
    (to_z-of_z w32 c.args.spec_id c.ranges.spec_id) c.found-hits.ensures.hits).referenced

pub returns-clause-equalities : goal.returns-clause-equalities
returns-clause-equalities c = (of_spec c.args.self.now _ c.args.spec_id c.args.tuple.now c.args.sequence_number
    c.args.path.now c.found-hits.result
    (to_z-of_z w32 c.args.spec_id c.ranges.spec_id) c.found-hits.ensures.hits).equalities

pub returns-clause-everywhere : goal.returns-clause-everywhere
returns-clause-everywhere c = (of_spec c.args.self.now _ c.args.spec_id c.args.tuple.now c.args.sequence_number
    c.args.path.now c.found-hits.result
    (to_z-of_z w32 c.args.spec_id c.ranges.spec_id) c.found-hits.ensures.hits).everywhere

pub returns-clause-exact : goal.returns-clause-exact
returns-clause-exact c =
    let x = data_key c.args.spec_id c.args.tuple.now c.args.sequence_number c.args.path.now in
    hits_apply x c.args.self.now c.found-hits.result (of_spec c.args.self.now _ c.args.spec_id c.args.tuple.now
    c.args.sequence_number c.args.path.now c.found-hits.result (to_z-of_z w32 c.args.spec_id c.ranges.spec_id)
    c.found-hits.ensures.hits)
