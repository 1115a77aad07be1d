use Rattle.std.proofs.Common.{take, Ok}
use Rattle.std.specs.List.{flat_map}
use Rattle.icescan_print.specs.Written.{Sent}
use Rattle.icescan_locate.specs.Dated.{file_line}
use Rattle.icescan_locate.proofs.dated.put_files.Given as goal

-- the lines so far were sent
abbrev pub invariant-files : goal.invariant-files
invariant-files g l =
    Sent g.S.Sink.taken g.S.Sink.may_fail l.fn.sink l.fn.page (Ok tt) l.sink l.page
    (flat_map file_line (take l.file-index l.files))
