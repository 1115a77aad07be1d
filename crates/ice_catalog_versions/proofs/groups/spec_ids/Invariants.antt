use Rattle.std.proofs.Common.{◌≡◌, map, take}
use Rattle.ice_manifest.specs.declared.new_file.NewFile.{NewFile}
use Rattle.ice_catalog_versions.proofs.groups.spec_ids.Given as goal

abbrev pub invariant-files : goal.invariant-files
invariant-files l = l.ids.items ≡ map (λ (file : NewFile). file.spec_id) (take l.file-index l.files)
