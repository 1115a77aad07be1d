use Rattle.icescan_commands.proofs.explaining.explain.Goals as goal

pub returns-clause-told : goal.returns-clause-told
returns-clause-told g c = record {
  between = g.E.Sink.taken c.report-status.new.errors;
  line = record { front = c.report-status.ensures.front; all = c.report-status.ensures.all };
  hint = c.hint.ensures;
}
