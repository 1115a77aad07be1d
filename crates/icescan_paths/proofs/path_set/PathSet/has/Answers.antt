use Rattle.std.proofs.Common.{◌∙◌}
use Rattle.icescan_paths.proofs.Searched.{search_tells}
use Rattle.icescan_paths.proofs.path_set.PathSet.has.Goals as goal

pub returns : goal.returns
returns c =
    let bound = rw c.deref.ensures.value at c.binary_search.ensures.bound in
    let position = rw c.deref.ensures.value at c.binary_search.ensures.position in
    c.is_ok.ensures.value
    ∙ search_tells c.args.self.now.paths.items c.args.path.now c.binary_search.result bound position
    c.args.self.now.sorted
