use Rattle.std.proofs.Common.{◌∙◌, sym}
use Rattle.std.specs.Arc.{arc_value}
use Rattle.ice_catalog_changes.specs.contracts.change.CommitPartialEq.TheImpl as commit_impl
use Rattle.ice_catalog_versions.proofs.Commits.{seen_same, commit_exact}
use Rattle.ice_catalog_versions.proofs.version.are_same.Goals as goal

pub returns : goal.returns
returns c =
    let h = seen_same commit_impl.ghosts.eq commit_exact (λ e. arc_value e) c.args.left.now c.args.right.now in
    (λ e. h.0 (sym c.eq.ensures ∙ e), λ e. c.eq.ensures ∙ h.1 e)
