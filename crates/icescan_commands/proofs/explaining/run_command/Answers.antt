use Rattle.std.proofs.Common.{inl, inr, ap}
use Rattle.std.specs.Prelude.{Err, Ok}
use Rattle.icescan_commands.proofs.Beside.{beside_nothing, beside_plain, plain_then}
use Rattle.icescan_commands.proofs.Hinted.{tell_more}
use Rattle.icescan_commands.proofs.explaining.run_command.Goals as goal

pub returns-in-Ok : goal.returns-in-Ok
returns-in-Ok g c =
    let w = c.in-Ok.ensures in
    let ran = w.ran in (
      ran.0,
      ran.1,
      inl (record {
        wrote = record {
          written = ran.2.written;
          beside = beside_nothing (Ok c.args.asked.now) (g.E.Sink.taken c.args.errors.now);
          ends = (c.in-Ok.count, ran.3, c.status_of_count.ensures);
          drilled = w.drilled;
          of_given = (c.in-Ok.count, c.status_of_count.ensures, w.given);
          stored = w.stored;
          stored_of_given = w.stored_of_given;
        };
        noted = record {
          between = g.E.Sink.taken c.put_reading.new.errors;
          before = c.put_reading.ensures.plain;
          after = plain_then _ _ _ (beside_plain (Ok c.args.asked.now) _ _ w.beside) c.put_notes.ensures;
        };
      }),
    )

pub returns-in-Err : goal.returns-in-Err
returns-in-Err g c =
    let ran = c.in-Err.ensures.ran in (
      ran.0,
      ran.1,
      inr (record {
        fault = c.in-Err.fault;
        cause = ran.2.refused;
        status_is = c.explain-status.ensures.status;
        nothing = ran.2.nothing;
        front = λ is. ran.2.front (ap Err is);
        stored = c.in-Err.ensures.stored;
        stored_of_given = c.in-Err.ensures.stored_of_given;
        before = g.E.Sink.taken c.put_reading.new.errors;
        note = c.put_reading.ensures.plain;
        told = tell_more _ _ _ _ _ c.put_reading.ensures.still
            (rw c.in-Err.ensures.untold at c.explain-status.ensures.told);
      }),
    )
