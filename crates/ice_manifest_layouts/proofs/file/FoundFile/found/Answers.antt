use Rattle.std.proofs.Common.{[]}
use Rattle.ice_manifest_layouts.specs.FieldPaths.{file_id}
use Rattle.ice_manifest_layouts.proofs.Shown.{file_shown}
use Rattle.ice_manifest_layouts.proofs.file.FoundFile.found.Goals as goal

pub returns : goal.returns
returns c = file_shown c.args.self.now c.found.result c.number.result (file_id c.args.field) [] c.requires
    (c.number.ensures c.args.self.now.entry.now.partition.now) c.found.ensures
