use Rattle.std.proofs.Common.{sym}
use Rattle.std.proofs.lemmas.Result.{err_from_is_err_and}
use Rattle.ice_manifest_layouts.specs.Seen.{entry_seen}
use Rattle.ice_manifest_reading.specs.Manifests.{entry_of, live_at}
use Rattle.ice_manifest_reading.specs.Collecting.{kept_each, told_each}
use Rattle.ice_manifest_reading.proofs.Found.{alive}
use Rattle.ice_manifest_reading.proofs.manifest.read_object.Goals as goal

pub returns-in_err-rows-in_default-clause-told : goal.returns-in_err-rows-in_default-clause-told
unfolding entry_of
returns-in_err-rows-in_default-clause-told g c =
    let row = c.args.source.now.row.now in
    let spec = c.args.source.now.spec.now in
    let status = c.in_ok-status.status in
    let p = err_from_is_err_and c.from_residual-in_err-rows-in_default.result
    c.from_residual-in_err-rows-in_default.ensures.1 in
    rw (p.1, p.2) (λ other. rw (
      sym c.in_ok-status.ensures,
      alive (told_each (g.T.Tell.told c.args.asked.now.tell.now)) c.args.told.now.items status
          (live_at row spec c.args.position status (entry_seen c.args.entry.now)) c.in_default.not-Deleted,
    )
    (c.in_err-rows-in_default.ensures.told other))

pub returns-in_err-rows-in_default-clause-gathered : goal.returns-in_err-rows-in_default-clause-gathered
unfolding entry_of
returns-in_err-rows-in_default-clause-gathered g c =
    let row = c.args.source.now.row.now in
    let spec = c.args.source.now.spec.now in
    let status = c.in_ok-status.status in
    let p = err_from_is_err_and c.from_residual-in_err-rows-in_default.result
    c.from_residual-in_err-rows-in_default.ensures.1 in
    rw (p.1, p.2) (λ other. rw (
      sym c.in_ok-status.ensures,
      alive (kept_each (g.K.Keep.kept c.args.asked.now.keep.now)) (g.G.Gather.gathered c.args.gather.now) status
          (live_at row spec c.args.position status (entry_seen c.args.entry.now)) c.in_default.not-Deleted,
    )
    (c.in_err-rows-in_default.ensures.gathered other))

pub returns-in_ok-rows-in_default-clause-told : goal.returns-in_ok-rows-in_default-clause-told
unfolding entry_of
returns-in_ok-rows-in_default-clause-told g c =
    let row = c.args.source.now.row.now in
    let spec = c.args.source.now.spec.now in
    let status = c.in_ok-status.status in
    rw (
      sym c.in_ok-status.ensures,
      alive (told_each (g.T.Tell.told c.args.asked.now.tell.now)) c.args.told.now.items status
          (live_at row spec c.args.position status (entry_seen c.args.entry.now)) c.in_default.not-Deleted,
    )
    c.in_ok-rows-in_default.ensures.told

pub returns-in_ok-rows-in_default-clause-gathered : goal.returns-in_ok-rows-in_default-clause-gathered
unfolding entry_of
returns-in_ok-rows-in_default-clause-gathered g c =
    let row = c.args.source.now.row.now in
    let spec = c.args.source.now.spec.now in
    let status = c.in_ok-status.status in
    rw (
      sym c.in_ok-status.ensures,
      alive (kept_each (g.K.Keep.kept c.args.asked.now.keep.now)) (g.G.Gather.gathered c.args.gather.now) status
          (live_at row spec c.args.position status (entry_seen c.args.entry.now)) c.in_default.not-Deleted,
    )
    c.in_ok-rows-in_default.ensures.gathered
