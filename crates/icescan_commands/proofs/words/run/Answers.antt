use Rattle.std.proofs.Common.{refl}
use Rattle.std.specs.Prelude.{Ok, Err}
use Rattle.std.proofs.lemmas.Result.{err_from_is_err_and}
use Rattle.icescan_commands.proofs.Refusals.{is_left, left_of, words_ran}
use Rattle.icescan_commands.proofs.words.run.Goals as goal

pub returns-in_err-asked : goal.returns-in_err-asked
returns-in_err-asked g c =
    let p = err_from_is_err_and c.from_residual.result c.from_residual.ensures.1 in
    let left = g.R.Read.remaining c.args.input.now in
    rw (p.1, p.2) (
      Err c.in_err-asked.field-0.0,
      c.in_err-asked.ensures,
      tt,
      refl,
      tt,
      refl,
      tt,
      tt,
      left_of left,
      is_left left,
      words_ran
          (g.W.Sink.may_fail c.args.output.now) _ c.in_err-asked.field-0.0 c.in_err-asked.ensures.causes,
      tt,
    )

pub returns : goal.returns
returns g c = let w = c.run_asked-answer.ensures in (
  Ok c.in_ok-asked.asked,
  c.in_ok-asked.ensures,
  w.beside,
  w.untold,
  w.drilled,
  w.stored,
  w.given,
  w.stored_of_given,
  w.ran.0,
  w.ran.1,
  w.ran.2,
  w.ran.3,
)
