use Rattle.std.proofs.Common.{refl, inl, inr}
use Rattle.std.specs.Prelude.{Err}
use Rattle.icescan_text.specs.declared.fault.RunFault.TheVariants as run
use Rattle.icescan_commands.proofs.Refusals.{is_left, left_of}
use Rattle.icescan_commands.proofs.explaining.run_help.Goals as goal

pub returns-in-Ok : goal.returns-in-Ok
returns-in-Ok g c =
    rw (c.deref.ensures.value, c.in-Ok.ensures) at c.run_words.ensures.run

pub returns-in-Err : goal.returns-in-Err
returns-in-Err g c =
    let left = g.R.Read.remaining c.args.input.now in (
      Err run.Memory,
      record { first = λ is. absurd cc; heard = λ is. tt; causes = inl refl },
      left_of left,
      is_left left,
      inr (record {
        fault = run.Memory;
        cause = tt;
        status_is = c.report.ensures.status;
        nothing = λ _. refl;
        front = λ is. absurd cc;
        stored = refl;
        stored_of_given = tt;
        told = record { front = c.report.ensures.front; all = c.report.ensures.all };
      }),
    )
