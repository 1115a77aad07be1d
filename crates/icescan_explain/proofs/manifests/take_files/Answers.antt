use Rattle.std.proofs.lemmas.Option.{slice_get_within}
use Rattle.icescan_explain.proofs.manifests.take_files.Goals as goal

pub take_told-requires-clause-row : goal.take_told-requires-clause-row
take_told-requires-clause-row c = slice_get_within c.args.scan.now.wanted c.args.at c.args.row.now c.requires.row
