use Rattle.icescan_explain.proofs.lines.put_fate.Goals as goal

pub returns-in-Kept : goal.returns-in-Kept
returns-in-Kept g c = λ plan is. rw (c.in-Kept.is, ← c.as_slice.ensures) (c.put_kept.ensures plan is)
