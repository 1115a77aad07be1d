use Rattle.std.proofs.Common.{◌≡◌, true, rules}
use Rattle.icescan_drill.specs.Drills.{file_path, has_file}
use Rattle.icescan_drill.proofs.Drills.{more_files}
use Rattle.icescan_drill.proofs.drilled_table.find_files.Goals as goal

pub loop-commit-preserved : goal.loop-commit-preserved
loop-commit-preserved c =
    let here : has_file c.args.lines.now (file_path c.args.thread c.loop-commit.commit) ≡ true = search rules in
    more_files c.args.lines.now c.args.thread c.loop-commit.commit c.loop-commit.invariant here
