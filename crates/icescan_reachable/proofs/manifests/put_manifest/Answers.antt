use Rattle.std.proofs.Common.{}
use Rattle.icescan_reachable.proofs.Steps.{manifest_put}
use Rattle.icescan_reachable.proofs.manifests.put_manifest.Goals as goal

pub returns-clause-given : goal.returns-clause-given
returns-clause-given g c =
    let read = rw (← c.as_slice.ensures.value) at c.in_ok-read_manifest.ensures.given in
    let before = rw c.as_bytes.ensures at c.in_ok-put_line.ensures in
    manifest_put (g.F.Files.gives c.args.files.now) c.args.row.now c.as_slice.result.now read _ c.in_ok-told.ensures.told
    _ _ _ before c.in_ok-put_all.ensures
