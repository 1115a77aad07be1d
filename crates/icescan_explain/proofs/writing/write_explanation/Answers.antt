use Rattle.std.proofs.Common.{rules}
use Rattle.icescan_print.proofs.Sends.{wrote_all_sent}
use Rattle.icescan_explain.proofs.writing.write_explanation.Goals as goal

pub returns-in_err-flush : goal.returns-in_err-flush
returns-in_err-flush g c = record {
  all = search rules;
  causes = search rules;
  nothing = search rules;
  front = λ is. (wrote_all_sent _ _ _ _ _ _ _ _ _ (rw c.in_ok-page.ensures at c.in_ok-put_explanation.ensures)
      c.in_err-flush.ensures.wrote).front;
  cause = search rules;
}
