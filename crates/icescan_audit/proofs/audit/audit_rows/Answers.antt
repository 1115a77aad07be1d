use Rattle.std.proofs.Common.{◌≡◌, ◌≤◌, ◌∙◌, ◌+◌, ap, arith, drop, length, refl, subst, sym}
use Rattle.std.specs.Prelude.{Err, Ok}
use Rattle.std.proofs.lemmas.Result.{err_from_is_err_and}
use Rattle.ice_desk.specs.Wanted.{paths_of}
use Rattle.ice_desk.specs.Worlds.{EndsAt}
use Rattle.icescan_text.specs.Reads.{MayEnd}
use Rattle.icescan_text.specs.declared.fault.RunFault.TheVariants as run
use Rattle.icescan_audit.specs.AnyFiles.{IsReadOf}
use Rattle.icescan_audit.specs.Audits.{joined, rows_audit}
use Rattle.icescan_audit.proofs.AnyFiles.{read_end, read_more}
use Rattle.icescan_audit.proofs.Steps.{first_row_ends, join_nothing, joins, later_row_ends, row_step, rows_end}
use Rattle.icescan_audit.proofs.Steps.{rows_more}
use Rattle.icescan_audit.proofs.audit.audit_rows.Goals as goal

pub rows-init : goal.rows-init
rows-init g c = record {
  found = λ world told left h. rw (c.new-findings.ensures, c.new-live.ensures.items)
      (h ∙ ap Ok (sym (join_nothing left)));
  ends = λ world told e h. h;
  read = λ left h. rw (c.new-findings.ensures, c.new-live.ensures.items)
      (subst (IsReadOf (g.F.Files.gives c.args.files.now) c.args.basis.now c.args.rows.now)
      (sym (join_nothing left)) h);
  few = omega arith;
}

pub rows-preserved : goal.rows-preserved
rows-preserved g c =
    let gives = g.F.Files.gives c.args.files.now in
    let rows = c.args.rows.now in
    let basis = c.args.basis.now in
    let f = g.F.Files.may_fail c.args.files.now in
    let i = c.rows.row-index in
    let row = c.row-item.result in
    let kept = c.rows.invariant in
    let step = row_step rows i row c.rows-test.true c.row-item.is in
    record {
      found = λ world told left h.
          let here = c.in_ok-entries.ensures.found world told in
          kept.found world told (joined here.0 left) (ap (rows_audit world basis) step
          ∙ rows_more world basis row (drop (i + 1) rows) here.0 left here.1 h)
          ∙ ap Ok (joins i c.rows.entries _ c.rows.findings c.audit_row.new.findings c.rows.live.items
          c.audit_row.new.live.items here.0 left here.2 here.3 here.4 here.5);
      ends = λ world told e h.
          let here = c.in_ok-entries.ensures.found world told in
          kept.ends world told e
          (subst (λ rs. MayEnd (rows_audit world basis rs) (EndsAt world f (paths_of rs)) ⊥ e) (sym step)
          (later_row_ends f world basis row (drop (i + 1) rows) here.0 e here.1 h));
      read = λ left h.
          let here = c.in_ok-entries.ensures.read in
          let more = read_more gives basis row (drop (i + 1) rows) here.0 left here.1 h in
          let all = kept.read (joined here.0 left)
          (subst (λ rs. IsReadOf gives basis rs (joined here.0 left)) (sym step) more) in
          subst (IsReadOf gives basis rows)
          (joins i c.rows.entries _ c.rows.findings c.audit_row.new.findings c.rows.live.items
          c.audit_row.new.live.items here.0 left here.2 here.3 here.4 here.5) all;
      few = omega (arith, kept.few);
    }

pub returns-in_err-entries : goal.returns-in_err-entries
returns-in_err-entries g c =
    let p = err_from_is_err_and c.from_residual.result c.from_residual.ensures.1 in
    let rows = c.args.rows.now in
    let basis = c.args.basis.now in
    let f = g.F.Files.may_fail c.args.files.now in
    let i = c.rows.row-index in
    let row = c.row-item.result in
    let e = c.in_err-entries.field-0.0 in
    let step = row_step rows i row c.rows-test.true c.row-item.is in
    rw (p.1, p.2) (record {
      found = λ world told. tt;
      refused = λ world told. c.rows.invariant.ends world told e
          (subst (λ rs. MayEnd (rows_audit world basis rs) (EndsAt world f (paths_of rs)) ⊥ e) (sym step)
          (first_row_ends f world basis row (drop (i + 1) rows) e (c.in_err-entries.ensures.refused world told)));
      write = λ is.
          let failed : e ≡ run.Write = cc in
          absurd (c.in_err-entries.ensures.write (ap Err failed));
      read = tt;
      stops = c.in_err-entries.ensures.stops;
      few = tt;
    })

pub returns : goal.returns
returns g c =
    let gives = g.F.Files.gives c.args.files.now in
    let rows = c.args.rows.now in
    let basis = c.args.basis.now in
    let i = c.rows.row-index in
    let low : length rows ≤ i = c.rows-test.false in
    let high : i ≤ length rows = c.rows.auto.row-index-end in
    let all : i ≡ length rows = omega arith in
    let kept = c.rows.invariant in
    rw c.from_vec.ensures (record {
      found = λ world told. rows_end world basis rows i
          (length rows) c.rows.entries c.rows.findings c.rows.live.items low
          all (kept.found world told);
      refused = λ world told. tt;
      write = λ is. absurd cc;
      read = read_end gives basis rows i
          (length rows) c.rows.entries c.rows.findings c.rows.live.items low all kept.read;
      stops = tt;
      few = (refl, omega (arith, kept.few, all));
    })
