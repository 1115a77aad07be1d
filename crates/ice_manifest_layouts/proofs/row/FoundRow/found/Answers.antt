use Rattle.ice_manifest_layouts.proofs.RowsShown.{shown}
use Rattle.ice_manifest_layouts.proofs.row.FoundRow.found.Goals as goal

pub returns : goal.returns
returns c = shown c.args.self.now c.found.result c.number.result c.args.field c.requires c.number.ensures
    c.found.ensures
