use Rattle.std.proofs.Common.{◌∙◌, ℕ, List, ap, map}
use Rattle.std.proofs.lemmas.Result.{IfOk-weaker}
use Rattle.icescan_parts.specs.Alone.{path_of}
use Rattle.icescan_paths.specs.Paths.{has, lent}
use Rattle.icescan_parts.proofs.SetApart.{without_same}
use Rattle.icescan_parts.proofs.apart.alone.Goals as goal

pub returns : goal.returns
returns c =
    let paths = lent c.new-paths.result.paths.items in
    let others = map path_of c.args.others.now in
    IfOk-weaker c.without_paths.result _ _ (λ found is. is ∙ without_same paths others
    (λ path. c.new-paths.ensures path ∙ ap (λ (ps : List (List ℕ)). has ps path) c.in_ok-paths_of.ensures)
    c.args.lines.now) c.without_paths.ensures
