use Rattle.ice_catalog.proofs.machine.Machine.step.Goals as goal

pub returns-in-Take : goal.returns-in-Take
returns-in-Take c = rw (c.in-Take.is, ← c.self.view_is) (c.take_at.ensures c.self.inside.book)

pub returns-in-Merge : goal.returns-in-Merge
returns-in-Merge c = rw (c.in-Merge.is, ← c.self-in-Merge.view_is) (c.merge_at.ensures c.self-in-Merge.inside.book)
