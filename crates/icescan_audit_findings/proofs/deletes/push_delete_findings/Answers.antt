use Rattle.std.proofs.Common.{◌≡◌, arith, length, subst, sym}
use Rattle.ice_deletes.specs.Unions.{AreBelow}
use Rattle.icescan_audit_findings.specs.Dangling.{data_files}
use Rattle.icescan_audit_findings.specs.Lookups.{AreMarks}
use Rattle.icescan_audit_findings.proofs.Hitting.{marks_below, marks_tell}
use Rattle.icescan_audit_findings.proofs.deletes.push_delete_findings.Goals as goal

pub marks_of-requires : goal.marks_of-requires
marks_of-requires c =
    let deletes = c.in_ok-deletes.deletes.items in
    let index = c.in_ok-index.index in
    let same = rw c.deref.ensures.value at c.in_ok-index.ensures in
    let many : length deletes ≡ c.len.result = omega (arith, c.len.ensures, c.in_ok-deletes.deletes.ok) in
    subst (λ n. AreBelow n index) many (marks_below deletes index same)

pub push_marked-requires : goal.push_marked-requires
push_marked-requires c =
    let deletes = c.in_ok-deletes.deletes.items in
    let index = c.in_ok-index.index in
    let marks = c.in_ok-marks.marks.items in
    let xs = data_files c.args.files.now in
    let same = rw c.deref.ensures.value at c.in_ok-index.ensures in
    let many : length deletes ≡ c.len.result = omega (arith, c.len.ensures, c.in_ok-deletes.deletes.ok) in
    rw (c.deref-2.ensures.value, c.deref-3.ensures.value) (marks_tell deletes index xs marks same
    (subst (λ n. AreMarks n index xs marks) (sym many) c.in_ok-marks.ensures))
