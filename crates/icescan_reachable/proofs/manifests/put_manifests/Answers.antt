use Rattle.std.proofs.Common.{}
use Rattle.std.proofs.lemmas.Result.{err_from_is_err_and}
use Rattle.icescan_reachable.proofs.Causes.{among}
use Rattle.icescan_reachable.proofs.Steps.{manifests_end, manifests_step}
use Rattle.icescan_reachable.proofs.manifests.put_manifests.Goals as goal

pub rows-preserved : goal.rows-preserved
rows-preserved g c =
    let gives = g.F.Files.gives c.args.files.now in
    let read = c.in_ok-put_manifest.ensures.given in (
      c.in_ok-put_manifest.ensures.held,
      λ all h. c.rows.invariant.1 all (manifests_step gives c.args.rows.now c.rows.row-index c.row-item.result
          c.rows-test.true c.row-item.is c.rows.lines.items read.0 read.1 _ all read.2 h),
    )

pub returns-clause-given : goal.returns-clause-given
returns-clause-given g c =
    let gives = g.F.Files.gives c.args.files.now in
    c.rows.invariant.1 c.rows.lines.items (manifests_end gives c.args.rows.now c.rows.row-index c.rows.lines.items
    c.rows-test.false)

pub returns-in_err-put_manifest-clause-causes : goal.returns-in_err-put_manifest-clause-causes
returns-in_err-put_manifest-clause-causes g c =
    let p = err_from_is_err_and c.from_residual.result c.from_residual.ensures.1 in
    rw (p.1, p.2) (
      c.row-item.result,
      among c.args.rows.now c.rows.row-index c.row-item.result c.rows-test.true c.row-item.is,
      c.in_err-put_manifest.ensures.causes,
    )
