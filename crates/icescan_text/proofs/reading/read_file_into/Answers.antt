use Rattle.icescan_text.proofs.Steps.{absent_in, fails_here, found_in}
use Rattle.icescan_text.proofs.reading.read_file_into.Goals as goal

pub returns-in-Ok-clause-found : goal.returns-in-Ok-clause-found
returns-in-Ok-clause-found g c = λ world told. found_in world _ _ (rw told at c.in-Ok.ensures.found)

pub returns-in_ok-text_of-in-Err-Absent-clause-refused : goal.returns-in_ok-text_of-in-Err-Absent-clause-refused
returns-in_ok-text_of-in-Err-Absent-clause-refused g c =
    λ world told. rw c.in_ok-text_of-in-Err-Absent.ensures
    (absent_in world _ (rw told at (c.read_into.ensures.absent cc)))

pub returns-in_ok-text_of-in-Err-Device-clause-refused : goal.returns-in_ok-text_of-in-Err-Device-clause-refused
returns-in_ok-text_of-in-Err-Device-clause-refused g c = λ world told. rw c.in_ok-text_of-in-Err-Device.ensures
    (fails_here world (g.F.Files.may_fail c.args.files.now) _ (c.read_into.ensures.device cc))
