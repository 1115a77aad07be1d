use Rattle.std.proofs.Common.{◌≡◌, arith, rules, w64}
use Rattle.std.specs.Prelude.{◌+ℤ◌}
use Rattle.std.proofs.lemmas.Int.{ints}
use mir.Val.{SFits, of_z, to_z}
use mir.Syntax.{w128}
use Rattle.icescan_audit_findings.proofs.Totalled.{more_counted}
use Rattle.icescan_audit_findings.proofs.totals.total_of.Goals as goal

pub files-preserved : goal.files-preserved
files-preserved c =
    let so = c.files.invariant in
    let more = c.file_adds.result in
    let fits : SFits w64 more = search rules in
    let sum : to_z w128 (of_z w128 (to_z w128 c.files.sum-bits +ℤ to_z w128 (of_z w128 (to_z w64 (of_z w64 more)))))
    ≡ c.files.sum +ℤ more = omega (arith, ints) in
    record {
      told = rw (sum, c.file_adds.ensures)
          (more_counted c.args.total c.args.files.now c.files.file-index c.file-item.result c.files.sum _
          c.files-test.true c.file-item.is (rw c.files.sum-is at so.told));
      low = rw sum (omega (arith, ints));
      high = rw sum (omega (arith, ints));
    }
