use Rattle.std.proofs.Common.{refl, inr, ap}
use Rattle.std.specs.Prelude.{Ok, Err}
use Rattle.icescan_progress.proofs.Plain.{nothing_plain}
use Rattle.icescan_commands.proofs.Refusals.{is_left, left_of, words_ran}
use Rattle.icescan_commands.proofs.explaining.run_explained.Goals as goal

pub returns-in-Ok : goal.returns-in-Ok
returns-in-Ok g c =
    let ran = c.run_command-status.ensures in (Ok c.in-Ok.asked, c.in-Ok.ensures, ran.0, ran.1, ran.2)

pub returns-in-Err : goal.returns-in-Err
returns-in-Err g c =
    let left = g.R.Read.remaining c.args.input.now in
    let fault = c.in-Err.fault in
    let ran = words_ran (g.W.Sink.may_fail c.args.output.now) (g.W.Sink.taken c.args.output.now) fault
    c.in-Err.ensures.causes in (
      Err fault,
      c.in-Err.ensures,
      left_of left,
      is_left left,
      inr (record {
        fault = fault;
        cause = ran.refused;
        status_is = c.explain_words-status.ensures.status;
        nothing = λ _. refl;
        front = λ is. ran.front (ap Err is);
        stored = refl;
        stored_of_given = tt;
        before = g.E.Sink.taken c.args.errors.now;
        note = nothing_plain _;
        told = c.explain_words-status.ensures.told;
      }),
    )
