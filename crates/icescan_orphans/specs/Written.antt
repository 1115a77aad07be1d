-- The lines of the files below a folder that a table does not reach, of bytes that reads gave.
use Rattle.std.specs.Prelude.{◌≡◌, ℕ, List, [], ◌∷◌, ◌++◌, codes, map, Option}
use Rattle.ice_desk.specs.Given.{Giving}
use Rattle.icescan_forms.specs.declared.format.Format.{Format}
use Rattle.icescan_parts.specs.Told.{lines_in, path_told}
use Rattle.icescan_paths.specs.Strays.{strays}
use Rattle.icescan_paths.specs.declared.aged.AgedFile.{AgedFile}
use Rattle.icescan_paths.specs.declared.aged.Stray.{Stray}
use Rattle.icescan_paths.specs.declared.aged.StrayKind.{StrayKind}
use Rattle.icescan_paths.specs.declared.aged.StrayKind.TheVariants as kind
use Rattle.icescan_print.specs.Pieces.{named_path}
use Rattle.icescan_print.specs.Written.{Appends}
use Rattle.icescan_reachable.specs.Given.{AreLinesGivenAt}

abbrev pub stray_word : StrayKind → List ℕ
stray_word kind.Orphan = codes "orphan "
stray_word kind.Doubtful = codes "doubtful "

-- what a file is, and its path, escaped (10 is the line feed)
abbrev pub stray_line : Stray → List ℕ
stray_line stray = named_path (stray_word stray.kind) stray.path ++ 10 ∷ []

abbrev pub stray_lines : List Stray → List (List ℕ)
stray_lines found = map stray_line found

-- Of some files, those that are none of the files that the metadata at a path reaches; more paths may be known.
pub record AreStraysGiven (gives : Giving) (older : ℕ) (path : List ℕ) (left : List Stray) : Type 0 where
  pub found : List AgedFile
  pub lines : List (List ℕ)
  pub more : List (List ℕ)
  pub reached : AreLinesGivenAt gives path lines
  pub are : left ≡ strays (map path_told lines ++ more) older found

-- what was written are such lines in a form
abbrev pub WroteStrays : Giving → Format → ℕ → List ℕ → Option (List ℕ) → Option (List ℕ) → Type 0
WroteStrays gives form older path output output' = (left : List Stray) × AreStraysGiven gives older path left
    × Appends output output' (lines_in form (stray_lines left))
