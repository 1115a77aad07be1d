use Rattle.std.proofs.Common.{ℕ, List, [], take, map}
use Rattle.std.specs.List.{AllByRecursion}
use Rattle.avro_schema.specs.Tree.{Tree}
use Rattle.avro_file.specs.Header.{Property}
use Rattle.avro_file.specs.Writers.{WasGiven, WillWrite}
use Rattle.ice_manifest.specs.Adding.{lent}
use Rattle.ice_manifest.specs.Fitting.{FileFits}
use Rattle.ice_manifest.specs.WrittenValues.{entry_value}
use Rattle.ice_manifest.proofs.manifest_writing.with_files.Given as goal

abbrev pub invariant-files : goal.invariant-files
invariant-files l = record {
  given : (ps : List Property) (s : Tree) → WasGiven l.initial.writer ps s []
      → WasGiven l.writer ps s (map (entry_value l.heading) (lent (take l.file-index l.files)));
  exact : (ps : List Property) (sync : List ℕ) → WillWrite l.initial.writer ps sync []
      → WillWrite l.writer ps sync (map (entry_value l.heading) (lent (take l.file-index l.files)));
  fits : AllByRecursion FileFits (lent (take l.file-index l.files));
}
