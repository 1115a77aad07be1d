use Rattle.ice_desk.proofs.Taking.{stops_absent, stops_device}
use Rattle.ice_desk.proofs.wanted.read_file.Goals as goal

pub returns-in_ok-path_of-in-Err-Absent-clause-refused : goal.returns-in_ok-path_of-in-Err-Absent-clause-refused
returns-in_ok-path_of-in-Err-Absent-clause-refused g c =
    λ world told. rw c.in_ok-path_of-in-Err-Absent.ensures (stops_absent world (g.F.Files.may_fail c.args.files.now) _
    (rw told at (c.read_into.ensures.absent cc)))

pub returns-in_ok-path_of-in-Err-Device-clause-refused : goal.returns-in_ok-path_of-in-Err-Device-clause-refused
returns-in_ok-path_of-in-Err-Device-clause-refused g c = λ world told. rw c.in_ok-path_of-in-Err-Device.ensures
    (stops_device world (g.F.Files.may_fail c.args.files.now) _ (c.read_into.ensures.device cc))
