use Rattle.std.proofs.Common.{◌≡◌, ◌++◌, drop}
use Rattle.ice_catalog_changes.proofs.change.copies.Given as goal

abbrev pub invariant-files : goal.invariant-files
invariant-files l = l.copied ++ drop l.file-index l.files ≡ l.fn.files
