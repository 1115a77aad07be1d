-- The program's own text of what became of a plan. (10 is the line feed.)
use Rattle.std.specs.Prelude.{ℕ, List, [], ◌∷◌, ◌++◌, codes, Bool, true, false}
use Rattle.std.specs.List.{count_by, flat_map}
use Rattle.ice_manifest_reading.specs.declared.entry.Entry.{Entry}
use Rattle.ice_state.specs.Lines.{OwnedLine}
use Rattle.icescan_print.specs.Pieces.{named_number}
use Rattle.icescan_print.specs.PlanTexts.{file_text, ids_text, line_text, numbered_path}
use Rattle.icescan_changes.specs.Changes.{line_changes}
use Rattle.icescan_changes.specs.declared.changes.Change.{Change}
use Rattle.icescan_changes.specs.declared.changes.Change.TheVariants as change
use Rattle.icescan_changes.specs.declared.changes.FileChange.{FileChange}
use Rattle.icescan_changes.specs.declared.changes.FileChange.TheVariants as file
use Rattle.icescan_changes.specs.declared.changes.Kind.{Kind}
use Rattle.icescan_changes.specs.declared.changes.Kind.TheVariants as kind

-- the line of a position delete file, and that of an equality delete file, behind this name
abbrev pub position_line : List ℕ → Entry → List ℕ
position_line name d = numbered_path name d ++ 10 ∷ []

abbrev pub equality_line : List ℕ → Entry → List ℕ
equality_line name d = numbered_path name d ++ (codes " ids " ++ (ids_text d.file.equality_ids ++ 10 ∷ []))

-- a delete file that no longer applies, or does now
abbrev pub position_change : FileChange → List ℕ
position_change (file.Removed d) = position_line (codes "  - pos ") d
position_change (file.Added d) = position_line (codes "  + pos ") d

abbrev pub equality_change : FileChange → List ℕ
equality_change (file.Removed d) = equality_line (codes "  - eq ") d
equality_change (file.Added d) = equality_line (codes "  + eq ") d

-- A data file that is no more in the plan; one that is new, with the lines of its delete files as a plan has them; one
-- to which other delete files apply, with these.
abbrev pub change_text : Change → List ℕ
change_text (change.Removed l) = codes "- " ++ file_text l.file
change_text (change.Added l) = codes "+ " ++ line_text l
change_text (change.Altered l positions equalities) =
    codes "~ " ++ (file_text l.file ++ (flat_map position_change positions ++ flat_map equality_change equalities))

abbrev pub is_kind : Kind → Change → Bool
is_kind kind.Removed (change.Removed l) = true
is_kind kind.Added (change.Added l) = true
is_kind kind.Altered (change.Altered l positions equalities) = true
is_kind _ _ = false

-- the last line: how many data files were added, removed and altered
unfoldable pub totals_text : List Change → List ℕ
totals_text changes = named_number (codes "added ") (count_by (is_kind kind.Added) changes)
    ++ (named_number (codes " removed ") (count_by (is_kind kind.Removed) changes)
    ++ (named_number (codes " altered ") (count_by (is_kind kind.Altered) changes) ++ 10 ∷ []))

unfoldable pub text_of : List Change → List ℕ
text_of changes = flat_map change_text changes ++ totals_text changes

-- the text of what became of a plan
abbrev pub changes_text : List OwnedLine → List OwnedLine → List ℕ
changes_text earlier later = text_of (line_changes earlier later)
