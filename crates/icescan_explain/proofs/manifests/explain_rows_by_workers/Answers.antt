use Rattle.std.proofs.Common.{◌≡◌, ◌∙◌, List, ap, filter, subst, sym}
use Rattle.std.specs.Prelude.{Err, Ok}
use Rattle.ice_desk.specs.Wanted.{paths_of}
use Rattle.ice_desk.specs.Worlds.{EndsAt}
use Rattle.ice_manifest_reading.specs.declared.row.Row.{Row}
use Rattle.icescan_text.specs.Reads.{MayEnd, all_present}
use Rattle.icescan_text.specs.declared.fault.RunFault.TheVariants as run
use Rattle.std.proofs.lemmas.Result.{err_from_is_err_and}
use Rattle.icescan_requests.proofs.Plans.{no_plan, no_scan, plan_there}
use Rattle.ice_state.specs.Scans.{by_row_path}
use Rattle.icescan_explain.specs.RowsTold.{is_wanted, rows_told}
use Rattle.icescan_explain.proofs.Kept.{planned_are}
use Rattle.icescan_explain.proofs.Ranges.{from_start, whole_content, whole_taken}
use Rattle.icescan_explain.proofs.Rows.{no_manifest}
use Rattle.icescan_explain.proofs.Wanted.{scan_wants}
use Rattle.icescan_explain.proofs.manifests.explain_rows_by_workers.Goals as goal

pub tell_by_workers-requires-clause-by : goal.tell_by_workers-requires-clause-by
tell_by_workers-requires-clause-by g c κs within =
    (c.args.selected.rows, c.args.selected.specs, c.args.selected.filter.parts, c.requires, c.in_ok-scan.ensures)

pub tell_by_workers-requires-clause-rows : goal.tell_by_workers-requires-clause-rows
tell_by_workers-requires-clause-rows g c κs within =
    let same : c.deref.result.now ≡ by_row_path c.args.selected.rows = c.deref.ensures.value
    ∙ c.in_ok-sort_by_path.ensures ∙ ap by_row_path (c.in_ok-sorted.ensures ∙ c.as_slice.ensures) in
    from_start c.args.tests.now c.in_ok-scan.scan c.deref.result.now
    (scan_wants c.args.tests.now c.args.selected.specs c.args.selected.filter.parts c.args.selected.rows
    c.in_ok-scan.scan c.requires c.in_ok-scan.ensures ∙ ap (filter (is_wanted c.args.tests.now)) (sym same))

pub returns-in_err-scan-clause-refused : goal.returns-in_err-scan-clause-refused
returns-in_err-scan-clause-refused g c =
    let p = err_from_is_err_and c.from_residual-in_err-scan.result c.from_residual-in_err-scan.ensures.1 in
    λ world told. rw (p.1, p.2)
    (no_scan (g.F.Files.may_fail c.args.files.now) ⊥ world c.args.selected.specs c.args.selected.filter.parts
    c.args.selected.rows
    c.in_err-scan.field-0.0 c.in_err-scan.ensures)

pub returns-in_err-told-clause-refused : goal.returns-in_err-told-clause-refused
returns-in_err-told-clause-refused g c =
    let p = err_from_is_err_and c.from_residual-in_err-told.result c.from_residual-in_err-told.ensures.1 in
    let same : c.deref.result.now ≡ by_row_path c.args.selected.rows = c.deref.ensures.value
    ∙ c.in_ok-sort_by_path.ensures ∙ ap by_row_path (c.in_ok-sorted.ensures ∙ c.as_slice.ensures) in
    let wants = scan_wants c.args.tests.now c.args.selected.specs c.args.selected.filter.parts c.args.selected.rows
    c.in_ok-scan.scan c.requires c.in_ok-scan.ensures
    ∙ ap (filter (is_wanted c.args.tests.now)) (sym same) in
    λ world told. rw (p.1, p.2)
    (no_manifest (g.F.Files.may_fail c.args.files.now) world c.args.selected.specs c.args.selected.filter.parts
    c.args.selected.rows
    c.in_ok-scan.scan c.in_ok-scan.ensures c.in_err-told.field-0.0
    (subst (λ (rs : List Row). MayEnd (all_present world rs)
    (EndsAt world (g.F.Files.may_fail c.args.files.now) (paths_of rs)) ⊥ c.in_err-told.field-0.0) (sym wants)
    (c.in_err-told.ensures.refused world told)))

pub returns-in_err-told-clause-absent : goal.returns-in_err-told-clause-absent
returns-in_err-told-clause-absent g c =
    let p = err_from_is_err_and c.from_residual-in_err-told.result c.from_residual-in_err-told.ensures.1 in
    rw (p.1, p.2) (λ path is.
    let failed : c.in_err-told.field-0.0 ≡ run.Absent path = cc in c.in_err-told.ensures.absent path (ap Err failed))

pub returns-in_err-told-clause-device : goal.returns-in_err-told-clause-device
returns-in_err-told-clause-device g c =
    let p = err_from_is_err_and c.from_residual-in_err-told.result c.from_residual-in_err-told.ensures.1 in
    rw (p.1, p.2) (λ path is.
    let failed : c.in_err-told.field-0.0 ≡ run.Device path = cc in c.in_err-told.ensures.device path (ap Err failed))

pub returns-in_err-told-clause-write : goal.returns-in_err-told-clause-write
returns-in_err-told-clause-write g c =
    let p = err_from_is_err_and c.from_residual-in_err-told.result c.from_residual-in_err-told.ensures.1 in
    rw (p.1, p.2) (λ is.
    let failed : c.in_err-told.field-0.0 ≡ run.Write = cc in c.in_err-told.ensures.write (ap Err failed))

pub returns-in_err-plan-clause-refused : goal.returns-in_err-plan-clause-refused
returns-in_err-plan-clause-refused g c =
    let p = err_from_is_err_and c.from_residual-in_err-plan.result c.from_residual-in_err-plan.ensures.1 in
    let same : c.deref.result.now ≡ by_row_path c.args.selected.rows = c.deref.ensures.value
    ∙ c.in_ok-sort_by_path.ensures ∙ ap by_row_path (c.in_ok-sorted.ensures ∙ c.as_slice.ensures) in
    let wants = scan_wants c.args.tests.now c.args.selected.specs c.args.selected.filter.parts c.args.selected.rows
    c.in_ok-scan.scan c.requires c.in_ok-scan.ensures
    ∙ ap (filter (is_wanted c.args.tests.now)) (sym same) in
    λ world told.
    let taken = c.in_ok-told.ensures.all.taken world told
    ∙ whole_content c.args.tests.now world c.in_ok-scan.scan c.deref.result.now wants in
    rw (p.1, p.2)
    (no_plan (g.F.Files.may_fail c.args.files.now) ⊥ world c.args.selected.specs c.args.selected.filter.parts
    c.args.selected.rows
    c.in_ok-scan.scan c.in_ok-scan.ensures (subst (λ (rs : List Row). all_present world rs ≡ Ok tt) (sym wants)
    (c.in_ok-told.ensures.all.present world told)) c.in_err-plan.field-0.0
    (rw taken at c.in_err-plan.ensures.outcome))

pub returns-clause-planned : goal.returns-clause-planned
returns-clause-planned g c =
    let same : c.deref.result.now ≡ by_row_path c.args.selected.rows = c.deref.ensures.value
    ∙ c.in_ok-sort_by_path.ensures ∙ ap by_row_path (c.in_ok-sorted.ensures ∙ c.as_slice.ensures) in
    let wants = scan_wants c.args.tests.now c.args.selected.specs c.args.selected.filter.parts c.args.selected.rows
    c.in_ok-scan.scan c.requires c.in_ok-scan.ensures
    ∙ ap (filter (is_wanted c.args.tests.now)) (sym same) in
    λ world told.
    let taken = c.in_ok-told.ensures.all.taken world told
    ∙ whole_content c.args.tests.now world c.in_ok-scan.scan c.deref.result.now wants in
    plan_there (g.F.Files.may_fail c.args.files.now) ⊥ world c.args.selected.specs c.args.selected.filter.parts
    c.args.selected.rows
    c.in_ok-scan.scan c.in_ok-scan.ensures (subst (λ (rs : List Row). all_present world rs ≡ Ok tt) (sym wants)
    (c.in_ok-told.ensures.all.present world told)) c.in_ok-plan.plan
    (rw taken at c.in_ok-plan.ensures.outcome)

pub returns-clause-told : goal.returns-clause-told
returns-clause-told g c =
    let same : c.deref.result.now ≡ by_row_path c.args.selected.rows = c.deref.ensures.value
    ∙ c.in_ok-sort_by_path.ensures ∙ ap by_row_path (c.in_ok-sorted.ensures ∙ c.as_slice.ensures) in
    λ world told. c.in_ok-told.ensures.all.told world told ∙ ap (rows_told c.args.tests.now world) same

pub returns-clause-read : goal.returns-clause-read
returns-clause-read g c =
    let same : c.deref.result.now ≡ by_row_path c.args.selected.rows = c.deref.ensures.value
    ∙ c.in_ok-sort_by_path.ensures ∙ ap by_row_path (c.in_ok-sorted.ensures ∙ c.as_slice.ensures) in
    rw (← same) c.in_ok-told.ensures.all.read

pub returns-clause-kept : goal.returns-clause-kept
returns-clause-kept g c =
    rw c.in_ok-told.ensures.all.kept
    (planned_are c.in_ok-scan.scan c.in_ok-told.told.state c.in_ok-plan.plan c.in_ok-plan.ensures.outcome)

pub returns-clause-given : goal.returns-clause-given
returns-clause-given g c =
    let same : c.deref.result.now ≡ by_row_path c.args.selected.rows = c.deref.ensures.value
    ∙ c.in_ok-sort_by_path.ensures ∙ ap by_row_path (c.in_ok-sorted.ensures ∙ c.as_slice.ensures) in
    let wants = scan_wants c.args.tests.now c.args.selected.specs c.args.selected.filter.parts c.args.selected.rows
    c.in_ok-scan.scan c.requires c.in_ok-scan.ensures
    ∙ ap (filter (is_wanted c.args.tests.now)) (sym same) in
    let all = c.in_ok-told.ensures.all in
    record {
      scan = c.in_ok-scan.scan;
      scan_is = c.in_ok-scan.ensures;
      content = c.in_ok-told.told.state;
      of_scan = all.of_scan;
      whole = whole_taken c.args.tests.now c.in_ok-scan.scan c.deref.result.now wants c.in_ok-told.told.state all.of_scan
          all.each;
      given = all.given;
      is = c.in_ok-plan.ensures.outcome;
    }
