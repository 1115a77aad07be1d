use Rattle.ice_manifest_layouts.specs.FieldPaths.{to_entry}
use Rattle.ice_manifest_layouts.proofs.Shown.{shown}
use Rattle.ice_manifest_layouts.proofs.entry.FoundEntry.found.Goals as goal

pub returns : goal.returns
returns c = shown c.args.self.now c.found.result c.number.result (to_entry c.args.field) c.requires
    (c.number.ensures c.args.self.now.partition.now) c.found.ensures
