use Rattle.std.proofs.Common.{◌≡◌, take}
use Rattle.icescan_c_commits.proofs.files.copied_files.Given as goal

abbrev pub invariant-files : goal.invariant-files
invariant-files l = l.copied ≡ take l.file-index l.files
