-- The changes from one plan to another, each plan being a finite map from paths of data files to lines: in the order of
-- the paths, `Removed` for a path that only the earlier plan has, `Added` for one that only the later has, and of one
-- that both have nothing where both lines are the same, `Altered` where other delete files apply to the same data file,
-- and else `Removed` and `Added`. `laws.rt` says what this means for each path.
use Rattle.std.specs.Prelude.{ℕ, List, [], ◌∷◌, if◌then◌else◌}
use Rattle.ice_manifest_reading.specs.declared.entry.Entry.{Entry}
use Rattle.ice_state.specs.Lines.{OwnedLine}
use Rattle.icescan_changes.specs.Files.{same_file}
use Rattle.icescan_changes.specs.Walks.{walked}
use Rattle.icescan_changes.specs.declared.changes.Change.{Change}
use Rattle.icescan_changes.specs.declared.changes.Change.TheVariants as change
use Rattle.icescan_changes.specs.declared.changes.FileChange.{FileChange}
use Rattle.icescan_changes.specs.declared.changes.FileChange.TheVariants as file

-- ---- delete files

abbrev pub file_path : Entry → List ℕ
file_path x = x.file.path

-- of two delete files of one path: nothing where they are the same
abbrev pub files_told : Entry → Entry → List FileChange
files_told x y = if same_file x y then [] else file.Removed x ∷ file.Added y ∷ []

-- the delete files that no longer apply, and those that do now
abbrev pub file_changes : List Entry → List Entry → List FileChange
file_changes earlier later = walked file_path file.Removed file.Added files_told earlier later

-- ---- lines

abbrev pub line_path : OwnedLine → List ℕ
line_path l = l.file.file.path

-- a data file, by what became of its position delete files and its equality delete files
abbrev pub altered : OwnedLine → List FileChange → List FileChange → List Change
altered l [] [] = []
altered l positions equalities = change.Altered l positions equalities ∷ []

-- of two lines of one path
abbrev pub lines_told : OwnedLine → OwnedLine → List Change
lines_told a b = if same_file a.file b.file
    then altered b (file_changes a.positions b.positions) (file_changes a.equalities b.equalities)
    else change.Removed a ∷ change.Added b ∷ []

abbrev pub line_changes : List OwnedLine → List OwnedLine → List Change
line_changes earlier later = walked line_path change.Removed change.Added lines_told earlier later
