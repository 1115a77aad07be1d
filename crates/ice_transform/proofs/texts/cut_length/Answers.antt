use Rattle.std.proofs.Common.{◌∙◌, sym, arith}
use Rattle.ice_transform.proofs.CutLaws.{open_step, lead_step, stop_step}
use Rattle.ice_transform.proofs.texts.cut_length.Goals as goal
use Rattle.ice_transform.proofs.texts.cut_length.Goals.{then-open-gt0, else-open-gt0+then-left-gt0}

pub returns-else-left-gt0-clause-cut : goal.returns-else-left-gt0-clause-cut
returns-else-left-gt0-clause-cut c =
    sym (stop_step c.args.text.now c.bytes.at c.bytes.left c.bytes.open (omega arith) (omega arith)) ∙ c.bytes.invariant

pub bytes-preserved : goal.bytes-preserved
bytes-preserved c =
    elim c.if-open-gt0.branch [
      | then-open-gt0 w ↦ rw (w.left-is, w.open-is) (sym (open_step c.args.text.now c.bytes.at c.bytes.left c.bytes.open
          c.bytes-test.true (omega arith)) ∙ c.bytes.invariant)
      | else-open-gt0+then-left-gt0 w ↦ rw (w.left-is, w.open-is, w.follow-open.ensures)
          (sym (lead_step c.args.text.now c.bytes.at c.bytes.left c.bytes.open c.bytes-test.true (omega arith)
          (omega arith)) ∙ c.bytes.invariant)
    ]
