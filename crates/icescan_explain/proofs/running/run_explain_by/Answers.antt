use Rattle.std.proofs.Common.{◌≡◌, ap}
use Rattle.std.specs.Prelude.{Err}
use Rattle.icescan_text.specs.declared.fault.RunFault.TheVariants as run
use Rattle.std.proofs.lemmas.Result.{err_from_is_err_and}
use Rattle.ice_desk.specs.Worlds.{EndsAt}
use Rattle.icescan_explain.specs.Explanations.{explained}
use Rattle.icescan_requests.specs.Plans.{reads}
use Rattle.icescan_text.proofs.Steps.{may_write}
use Rattle.icescan_explain.proofs.Telling.{no_text}
use Rattle.icescan_explain.proofs.running.run_explain_by.Goals as goal

pub returns-in_err-explanation-clause-refused : goal.returns-in_err-explanation-clause-refused
returns-in_err-explanation-clause-refused g c =
    let p = err_from_is_err_and c.from_residual.result c.from_residual.ensures.1 in
    λ world told. rw (p.1, p.2)
    (may_write (EndsAt world (g.F.Files.may_fail c.args.files.now)
    (reads world c.args.metadata.now c.args.request.now)) (g.W.Sink.may_fail c.args.output.now)
    (explained world c.args.metadata.now c.args.request.now) c.in_err-explanation.field-0.0
    (c.in_err-explanation.ensures.answer world told).1)

pub returns-in_err-explanation-clause-front : goal.returns-in_err-explanation-clause-front
returns-in_err-explanation-clause-front g c =
    let p = err_from_is_err_and c.from_residual.result c.from_residual.ensures.1 in
    λ world told. rw (p.1, p.2) (λ is.
    let failed : c.in_err-explanation.field-0.0 ≡ run.Write = cc in
    absurd (c.in_err-explanation.ensures.write (ap Err failed)))

pub returns-in_err-write_explanation_by_workers-clause-refused : goal.returns-in_err-write_explanation_by_workers-clause-refused
returns-in_err-write_explanation_by_workers-clause-refused g c =
    let p = err_from_is_err_and c.from_residual-in_err-write_explanation_by_workers.result
    c.from_residual-in_err-write_explanation_by_workers.ensures.1 in
    let wrote = c.in_err-write_explanation_by_workers.ensures in
    λ world told. rw (p.1, p.2)
    (no_text (EndsAt world (g.F.Files.may_fail c.args.files.now)
    (reads world c.args.metadata.now c.args.request.now)) (g.W.Sink.may_fail c.args.output.now)
    (explained world c.args.metadata.now c.args.request.now) c.in_err-write_explanation_by_workers.field-0.0 wrote.causes
    (λ is. wrote.cause (ap Err is)))

pub returns-in_err-write_explanation_by_workers-clause-front : goal.returns-in_err-write_explanation_by_workers-clause-front
returns-in_err-write_explanation_by_workers-clause-front g c =
    let p = err_from_is_err_and c.from_residual-in_err-write_explanation_by_workers.result
    c.from_residual-in_err-write_explanation_by_workers.ensures.1 in
    λ world told. rw (p.1, p.2) (λ is. (
      c.in_ok-explanation.explanation,
      (c.in_ok-explanation.ensures.answer world told).0,
      c.in_err-write_explanation_by_workers.ensures.front is,
    ))

pub returns-clause-written : goal.returns-clause-written
returns-clause-written g c = λ world told. (
  c.in_ok-explanation.explanation,
  (c.in_ok-explanation.ensures.answer world told).0,
  c.in_ok-write_explanation_by_workers.ensures.all,
)

pub returns-in_err-explanation-clause-text : goal.returns-in_err-explanation-clause-text
returns-in_err-explanation-clause-text g c =
    let p = err_from_is_err_and c.from_residual.result c.from_residual.ensures.1 in
    rw (p.1, p.2) (record {
      all = tt;
      front = λ is.
          let failed : c.in_err-explanation.field-0.0 ≡ run.Write = cc in
          absurd (c.in_err-explanation.ensures.write (ap Err failed));
    })

pub returns-in_err-write_explanation_by_workers-clause-text : goal.returns-in_err-write_explanation_by_workers-clause-text
returns-in_err-write_explanation_by_workers-clause-text g c =
    let p = err_from_is_err_and c.from_residual-in_err-write_explanation_by_workers.result
    c.from_residual-in_err-write_explanation_by_workers.ensures.1 in
    rw (p.1, p.2) (record {
      all = tt;
      front = λ is. (
        c.in_ok-explanation.explanation,
        c.in_ok-explanation.ensures.read,
        c.in_err-write_explanation_by_workers.ensures.front is,
      );
    })

pub returns-clause-text : goal.returns-clause-text
returns-clause-text g c = record {
  all = (c.in_ok-explanation.explanation, c.in_ok-explanation.ensures.read, c.in_ok-write_explanation_by_workers.ensures.all);
  front = λ is. absurd cc;
}
