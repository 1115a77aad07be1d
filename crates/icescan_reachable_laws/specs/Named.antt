-- The files that a plan names: of each line its data file, and the delete files that apply to it.
use Rattle.std.specs.Prelude.{ℕ, List}
use Rattle.std.specs.List.{Contains}
use Rattle.ice_manifest_reading.specs.declared.entry.Entry.{Entry}
use Rattle.ice_state.specs.Lines.{OwnedLine}
use Rattle.icescan_reachable.specs.Lines.{line}
use Rattle.icescan_reachable.specs.declared.kind.FileKind.{FileKind}
use Rattle.icescan_reachable.specs.declared.kind.FileKind.TheVariants as kind

module _ (IsSo : FileKind → List ℕ → Type 0) where
  -- each of these delete files is so
  abbrev pub AreDeletesSo : List Entry → Type 0
  AreDeletesSo deletes = (entry : Entry) → Contains deletes entry → IsSo kind.Delete entry.file.path

  -- each file that a plan names is so, by what it is to the table and its path
  abbrev pub NamesOnly : List OwnedLine → Type 0
  NamesOnly plan = (planned : OwnedLine) → Contains plan planned → IsSo kind.Data planned.file.file.path
      × AreDeletesSo planned.positions × AreDeletesSo planned.equalities

-- the lines have that of the file
abbrev pub HasLine : List (List ℕ) → FileKind → List ℕ → Type 0
HasLine lines kind path = Contains lines (line kind path)
