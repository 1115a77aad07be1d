use Rattle.std.proofs.Common.{ap}
use Rattle.std.specs.Prelude.{Err}
use Rattle.std.proofs.lemmas.Result.{err_from_is_err_and}
use Rattle.icescan_requests.proofs.Crews.{few_wanted, not_planned}
use Rattle.icescan_requests.proofs.Plans.{no_scan, plan_there}
use Rattle.icescan_text.proofs.Steps.{each_present}
use Rattle.icescan_text.proofs.Enough.{in_range}
use Rattle.icescan_requests.proofs.planning.plan_rows_by_workers.Goals as goal

pub returns-in_err-scan-clause-answer : goal.returns-in_err-scan-clause-answer
returns-in_err-scan-clause-answer g c =
    let p = err_from_is_err_and c.from_residual.result c.from_residual.ensures.1 in
    λ world told. rw (p.1, p.2) (
      tt,
      no_scan (g.F.Files.may_fail c.args.files.now) ⊥ world c.args.selected.specs c.args.selected.filter.parts
          c.args.selected.rows c.in_err-scan.field-0.0 c.in_err-scan.ensures,
    )

pub plan_scan-requires-after_bounds : goal.plan_scan-requires-after_bounds
plan_scan-requires-after_bounds g c κs within =
    few_wanted c.args.selected.rows c.args.selected.specs c.args.selected.filter.parts
    c.in_ok-scan.scan c.in_ok-scan.ensures c.requires

pub returns-in_err-plan_scan-clause-answer : goal.returns-in_err-plan_scan-clause-answer
returns-in_err-plan_scan-clause-answer g c =
    let p = err_from_is_err_and c.from_residual-in_err-plan_scan.result c.from_residual-in_err-plan_scan.ensures.1 in
    let ran = c.in_err-plan_scan.ensures in
    λ world told.
    rw (p.1, p.2) (
      tt,
      not_planned (g.F.Files.may_fail c.args.files.now) ⊥ world c.args.selected.specs c.args.selected.filter.parts
          c.args.selected.rows c.in_ok-scan.scan c.in_ok-scan.ensures c.in_err-plan_scan.field-0.0
          (λ none. in_range c.count.result c.count.ensures.some c.count.ensures.few (ran.workers.0 (ap Err none)))
          (ran.refused world told) (ran.present world told) (ran.outcome world told),
    )

pub returns-clause-answer : goal.returns-clause-answer
returns-clause-answer g c =
    let scan = c.in_ok-scan.scan in
    λ world told.
    let present = each_present world scan.wanted (c.in_ok-plan_scan.ensures.present world told) in (
      plan_there (g.F.Files.may_fail c.args.files.now) ⊥ world c.args.selected.specs c.args.selected.filter.parts
          c.args.selected.rows scan c.in_ok-scan.ensures present c.in_ok-plan_scan.field-0
          (c.in_ok-plan_scan.ensures.outcome world told),
      tt,
    )

pub returns-clause-given : goal.returns-clause-given
returns-clause-given g c =
    let ran = c.in_ok-plan_scan.ensures.given in
    record {
      scan = c.in_ok-scan.scan;
      scan_is = c.in_ok-scan.ensures;
      content = ran.0;
      of_scan = ran.1;
      whole = ran.2;
      given = ran.3;
      is = ran.4;
    }
