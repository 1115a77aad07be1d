use Rattle.icescan_files.proofs.Lookups.{added_twice, added_new}
use Rattle.icescan_files.proofs.bundle.Bundle.add_file.Goals as goal

pub returns-then-contains_key-clause-err : goal.returns-then-contains_key-clause-err
returns-then-contains_key-clause-err c =
    λ _.
    rw (← c.self.view_is, ← c.file.view_is) (added_twice c.args.number c.self.inside.files.entries _
    (rw c.as_str.ensures.value at c.if-contains_key.ensures))

pub returns-clause-ok : goal.returns-clause-ok
returns-clause-ok c =
    rw (← c.self.view_is, ← c.file.view_is, c.in_ok-insert.ensures.entries) (added_new c.args.number c.self.inside.files
    _ _ (rw c.as_str.ensures.value at c.if-contains_key.ensures))
