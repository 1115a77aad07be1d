use Rattle.std.proofs.Common.{◌≡◌, take}
use Rattle.icescan_commits.specs.Commits.{bundle_lines}
use Rattle.icescan_commands.proofs.commit_lines.commit_lines.Given as goal

abbrev pub invariant-files : goal.invariant-files
invariant-files l = l.text.items ≡ bundle_lines (take l.file-index l.files)
