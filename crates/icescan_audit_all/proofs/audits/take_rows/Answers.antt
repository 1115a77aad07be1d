use Rattle.std.proofs.Common.{◌≡◌, ◌≤◌, ◌+◌, arith, drop, get_or, length, subst, sym}
use Rattle.icescan_audit.specs.AnyFiles.{IsReadOf}
use Rattle.icescan_audit.specs.Audits.{joined}
use Rattle.icescan_audit.proofs.AnyFiles.{read_end, read_more}
use Rattle.icescan_audit.proofs.Steps.{join_nothing, joins, row_step}
use Rattle.icescan_audit_all.proofs.audits.take_rows.Goals as goal

pub rows-init : goal.rows-init
rows-init g c = record {
  read = λ left h. rw (c.new-findings.ensures, c.new-live.ensures.items)
      (subst (IsReadOf (g.F.Files.gives c.args.files.now) c.args.basis.now c.args.rows.now)
      (sym (join_nothing left)) h);
  few = omega arith;
}

pub rows-preserved : goal.rows-preserved
rows-preserved g c =
    let gives = g.F.Files.gives c.args.files.now in
    let rows = c.args.rows.now in
    let basis = c.args.basis.now in
    let i = c.rows.shared-index in
    let row = c.get-row.result.now in
    let kept = c.rows.invariant in
    let here : row ≡ get_or rows i row =
    subst (λ r. r ≡ get_or rows i r) (sym c.get-row.ensures) c.shared-item.is in
    let step = row_step rows i row c.rows-test.true here in
    record {
      read = λ left h.
          let took = c.in_ok-entries.ensures.read in
          let more = read_more gives basis row (drop (i + 1) rows) took.0 left took.1 h in
          let all = kept.read (joined took.0 left)
          (subst (λ rs. IsReadOf gives basis rs (joined took.0 left)) (sym step) more) in
          subst (IsReadOf gives basis rows)
          (joins i c.rows.entries _ c.rows.findings c.take_row.new.findings c.rows.live.items
          c.take_row.new.live.items took.0 left took.2 took.3 took.4 took.5) all;
      few = omega (arith, kept.few);
    }

pub returns-clause-read : goal.returns-clause-read
returns-clause-read g c =
    let gives = g.F.Files.gives c.args.files.now in
    let rows = c.args.rows.now in
    let basis = c.args.basis.now in
    let i = c.rows.shared-index in
    let low : length rows ≤ i = c.rows-test.false in
    let high : i ≤ length rows = c.rows.auto.shared-index-end in
    let all : i ≡ length rows = omega arith in
    rw c.from_vec.ensures (read_end gives basis rows i (length rows) c.rows.entries c.rows.findings c.rows.live.items low
    all c.rows.invariant.read)
