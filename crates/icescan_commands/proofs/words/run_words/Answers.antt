use Rattle.std.proofs.Common.{inl, inr, ap}
use Rattle.std.specs.Prelude.{Err}
use Rattle.icescan_commands.proofs.words.run_words.Goals as goal

pub returns-in-Ok : goal.returns-in-Ok
returns-in-Ok g c =
    let w = c.in-Ok.ensures in
    record {
      run = (
        w.0,
        w.1,
        w.8,
        w.9,
        inl (record {
          written = w.10.written;
          beside = w.2;
          ends = (c.in-Ok.count, w.11, c.status_of_count.ensures);
          drilled = w.4;
          stored = w.5;
          stored_of_given = w.7;
          of_given = (c.in-Ok.count, c.status_of_count.ensures, w.6);
        }),
      );
    }

pub returns-in-Err : goal.returns-in-Err
returns-in-Err g c =
    let w = c.in-Err.ensures in
    let ran = w.10 in
    record {
      run = (
        w.0,
        w.1,
        w.8,
        w.9,
        inr (record {
          fault = c.in-Err.fault;
          cause = ran.refused;
          status_is = c.report-status.ensures.status;
          nothing = ran.nothing;
          front = λ is. ran.front (ap Err is);
          stored = w.5;
          stored_of_given = w.7;
          told = record {
            front = rw w.3 at c.report-status.ensures.front;
            all = rw w.3 at c.report-status.ensures.all;
          };
        }),
      );
    }
