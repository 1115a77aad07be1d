use Rattle.icescan_drill.specs.Drills.{HasEachFile}
use Rattle.icescan_drill.proofs.drilled_table.find_files.Given as goal

-- the files of the commits so far are there
abbrev pub invariant-loop-commit : goal.invariant-loop-commit
invariant-loop-commit l = HasEachFile l.lines l.thread l.commit
