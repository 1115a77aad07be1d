use Rattle.ice_manifest_layouts.proofs.Shown.{guided_shown}
use Rattle.ice_manifest_layouts.proofs.file.FoundFile.guided.Goals as goal

pub returns : goal.returns
returns c = guided_shown c.args.self.now c.guided.result c.requires c.guided.ensures

pub guided-requires : goal.guided-requires
guided-requires c = record { layout = c.requires.0.1.0; schema = c.requires.0.1.1 }
