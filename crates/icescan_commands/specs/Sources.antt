-- What a command is over: a bundle, whose files are what standard input has, or the files below a folder, where the
-- folder reports them.
use Rattle.std.specs.Prelude.{◌≡◌, ℕ, List, Option, Some, option_map, IfSome, Result, Ok}
use Rattle.contract_words.specs.Outcome.{◌>>=◌}
use Rattle.ice_desk.specs.Worlds.{EndsAt}
use Rattle.ice_state.specs.Contents.{World}
use Rattle.icescan_files.specs.Bundles.{File, NoBundle, bundle_of, bytes_at}
use Rattle.icescan_text.specs.declared.fault.RunFault.{RunFault}
use Rattle.icescan_words.specs.declared.command.Place.{Place}
use Rattle.icescan_words.specs.declared.command.Source.{Source}
use Rattle.icescan_words.specs.declared.command.Source.TheVariants as source

-- the files below each folder, by the prefix that it stands for, where they are reported
abbrev pub Below : Type 0
Below = List ℕ → List ℕ → Option World

-- whether reading the file at a path below a folder, with a prefix, may fail
abbrev pub MayFailBelow : Type 1
MayFailBelow = List ℕ → List ℕ → List ℕ → Type 0

-- the files of a place
abbrev pub world_at : Below → Place → Option World
world_at below place = below place.folder place.prefix

-- What is asked of the files of a source, where they are known: over a bundle it comes after the first fault of the
-- bundle, over a folder it is asked of the files that the folder reports.
abbrev pub over : {A : Type 0} → Below → Source → (World → Result A RunFault) → List ℕ → Option (Result A RunFault)
over below source.Bundle asked input = Some (bundle_of input >>= λ files. asked (λ path. bytes_at files path))
over below (source.Folder place) asked input = option_map asked (world_at below place)

-- ---- what may fail

-- What may fail of a run, beside what its answer refuses: reading standard input, reading the file at a path below a
-- folder, writing the output.
pub record Failing : Type 1 where
  pub input : Type 0
  pub read : List ℕ → Type 0
  pub write : Type 0

-- of a run that reads nothing
abbrev pub failing_unread : Type 0 → Failing
failing_unread write = record { input = ⊥; read = λ path. ⊥; write = write }

-- of a run over a bundle
abbrev pub failing_bundle : Type 0 → Failing
failing_bundle write = record { input = Unit {0}; read = λ path. ⊥; write = write }

-- of a run over the files of a place, which reads these paths in turn: the files before the one that fails are there
abbrev pub failing_place : Below → MayFailBelow → Place → (World → List (List ℕ)) → Type 0 → Failing
failing_place below may_fail place reads write = record {
  input = ⊥;
  read = λ path. IfSome (world_at below place)
      (λ world. EndsAt world (may_fail place.folder place.prefix) (reads world) path);
  write = write;
}

abbrev pub failing_over : Below → MayFailBelow → Source → (World → List (List ℕ)) → Type 0 → Failing
failing_over below may_fail source.Bundle reads write = failing_bundle write
failing_over below may_fail (source.Folder place) reads write = failing_place below may_fail place reads write

-- ---- opening

-- Files that have this world, and may fail at these paths, are those of a source: the bundle of a text, or the files
-- below the folder.
pub record AreOf (below : Below) (may_fail : MayFailBelow) (from : Source) (text : List ℕ) (world : Option World)
    (at : List ℕ → Type 0) : Type 0 where
  pub bundle : from ≡ source.Bundle → (files : List File) × (bundle_of text ≡ Ok files)
      × (world ≡ Some (λ path. bytes_at files path)) × ((path : List ℕ) → at path → ⊥)
  pub folder : (place : Place) → from ≡ source.Folder place → (world ≡ world_at below place)
      × ((path : List ℕ) → at path → may_fail place.folder place.prefix path)

-- why a source has no files: there is no bundle
abbrev pub IsNoBundle : Source → List ℕ → RunFault → Type 0
IsNoBundle source.Bundle text fault = NoBundle text fault
IsNoBundle (source.Folder place) text fault = ⊥
