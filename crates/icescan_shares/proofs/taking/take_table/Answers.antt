use Rattle.std.proofs.Common.{◌≡◌, arith, length, ◌∙◌, ap}
use Rattle.icescan_shares.proofs.Sharing.{marks_each}
use Rattle.icescan_shares.proofs.taking.take_table.Goals as goal

pub take_share-requires-clause-marks : goal.take_share-requires-clause-marks
take_share-requires-clause-marks g c κs within =
    let same : length c.deref.result.now ≡ length c.in_ok-name.field-0.scan.wanted =
    ap length (c.deref.ensures.value ∙ c.in_ok-marks.ensures)
    ∙ (marks_each c.args.share c.wanted.result.now ∙ ap length c.wanted.ensures) in
    omega (arith, same)
