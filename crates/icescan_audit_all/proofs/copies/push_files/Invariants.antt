use Rattle.std.proofs.Common.{◌≡◌, ◌++◌, take}
use Rattle.icescan_audit_all.proofs.copies.push_files.Given as goal

abbrev pub invariant-files : goal.invariant-files
invariant-files l = l.live.items ≡ l.fn.live.items ++ take l.file-index l.more
