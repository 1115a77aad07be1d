use Rattle.std.proofs.Common.{}
use Rattle.icescan_commands.proofs.Answering.{gives_shown}
use Rattle.icescan_commands.proofs.forms.write_changes.Goals as goal

pub returns-clause-answers : goal.returns-clause-answers
returns-clause-answers g c = λ world told.
    gives_shown _ _ _ c.changes_file.result _ _ (c.changes_file.ensures.written world told)
    (c.changes_file.ensures.refused world told) (c.changes_file.ensures.front world told)
