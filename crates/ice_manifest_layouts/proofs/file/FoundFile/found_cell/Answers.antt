use Rattle.ice_manifest_layouts.proofs.Shown.{cell_shown}
use Rattle.ice_manifest_layouts.proofs.file.FoundFile.found_cell.Goals as goal

pub returns : goal.returns
returns c = λ p is. cell_shown c.args.self.now c.found.result c.args.index p c.requires.file c.requires.tuple
    c.requires.index is c.found.ensures
