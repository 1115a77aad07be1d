use Rattle.std.proofs.Common.{◌≡◌, drop}
use Rattle.ice_catalog_versions.specs.States.{with_files}
use Rattle.ice_catalog_versions.proofs.following.put_files.Given as goal

abbrev pub invariant-files : goal.invariant-files
invariant-files l = with_files l.world (drop l.file-index l.files) ≡ with_files l.fn.world l.files
