-- What became of a plan, as lines of JSON: an object each. The member `kind` says what a line is about, and `change`
-- what became of it; the other members are named after the words of the lines of text.
use Rattle.std.specs.Prelude.{ℕ, ℤ, List, [], ◌∷◌, ◌++◌, codes}
use Rattle.std.specs.List.{count_by, flat_map}
use Rattle.serde_json.specs.Data.{Data, null, string}
use Rattle.ice_manifest_reading.specs.declared.entry.Entry.{Entry}
use Rattle.ice_state.specs.Lines.{OwnedLine}
use Rattle.icescan_forms.specs.Objects.{count_json, number_json, object_line}
use Rattle.icescan_print.specs.PlanTexts.{ids_text}
use Rattle.icescan_changes.specs.Changes.{line_changes, line_path}
use Rattle.icescan_changes.specs.Texts.{is_kind}
use Rattle.icescan_changes.specs.declared.changes.Change.{Change}
use Rattle.icescan_changes.specs.declared.changes.Change.TheVariants as change
use Rattle.icescan_changes.specs.declared.changes.FileChange.{FileChange}
use Rattle.icescan_changes.specs.declared.changes.FileChange.TheVariants as file
use Rattle.icescan_changes.specs.declared.changes.Kind.TheVariants as kind
use Rattle.icescan_changes.specs.declared.json_lines.DeleteKind.{DeleteKind}
use Rattle.icescan_changes.specs.declared.json_lines.DeleteKind.TheVariants as deletes

-- ---- data files

abbrev pub data_members : List ℕ → List ℕ → ℕ → ℤ → ℤ → ℤ → List (List ℕ × Data)
data_members became path seq spec rows size =
    (codes "kind", string (codes "data")) ∷ (codes "change", string became) ∷ (codes "path", string path)
    ∷ (codes "seq", count_json seq) ∷ (codes "spec", number_json spec) ∷ (codes "rows", number_json rows)
    ∷ (codes "size", number_json size) ∷ []

unfoldable pub data_object : List ℕ → Entry → List ℕ
data_object became x = object_line (data_members became x.file.path x.sequence_number x.spec_id x.file.record_count
    x.file.file_size)

-- ---- delete files, each with the path of the data file that it is told of

abbrev pub kind_word : DeleteKind → List ℕ
kind_word deletes.Position = codes "pos"
kind_word deletes.Equality = codes "eq"

-- of an equality delete file the columns by which it deletes, as the text has them
abbrev pub ids_json : DeleteKind → List ℤ → Data
ids_json deletes.Position ids = null
ids_json deletes.Equality [] = null
ids_json deletes.Equality (id ∷ ids) = string (ids_text (id ∷ ids))

abbrev pub delete_members : List ℕ → List ℕ → List ℕ → ℕ → Data → List ℕ → List (List ℕ × Data)
delete_members word became path seq ids owner =
    (codes "kind", string word) ∷ (codes "change", string became) ∷ (codes "path", string path)
    ∷ (codes "seq", count_json seq) ∷ (codes "ids", ids) ∷ (codes "data", string owner) ∷ []

unfoldable pub delete_object : DeleteKind → List ℕ → List ℕ → Entry → List ℕ
delete_object of became owner d = object_line (delete_members (kind_word of) became d.file.path d.sequence_number
    (ids_json of d.file.equality_ids) owner)

abbrev pub delete_change : DeleteKind → List ℕ → FileChange → List ℕ
delete_change of owner (file.Removed d) = delete_object of (codes "removed") owner d
delete_change of owner (file.Added d) = delete_object of (codes "added") owner d

-- ---- changes

abbrev pub change_objects : Change → List ℕ
change_objects (change.Removed l) = data_object (codes "removed") l.file
change_objects (change.Added l) = data_object (codes "added") l.file
    ++ (flat_map (delete_object deletes.Position (codes "added") (line_path l)) l.positions
    ++ flat_map (delete_object deletes.Equality (codes "added") (line_path l)) l.equalities)
change_objects (change.Altered l positions equalities) = data_object (codes "altered") l.file
    ++ (flat_map (delete_change deletes.Position (line_path l)) positions
    ++ flat_map (delete_change deletes.Equality (line_path l)) equalities)

-- how many data files were added, removed and altered
abbrev pub totals_members : ℕ → ℕ → ℕ → List (List ℕ × Data)
totals_members added removed altered =
    (codes "kind", string (codes "totals")) ∷ (codes "added", count_json added)
    ∷ (codes "removed", count_json removed) ∷ (codes "altered", count_json altered) ∷ []

unfoldable pub totals_object : List Change → List ℕ
totals_object changes = object_line (totals_members (count_by (is_kind kind.Added) changes)
    (count_by (is_kind kind.Removed) changes) (count_by (is_kind kind.Altered) changes))

unfoldable pub objects_of : List Change → List ℕ
objects_of changes = flat_map change_objects changes ++ totals_object changes

-- the lines of what became of a plan
abbrev pub changes_objects : List OwnedLine → List OwnedLine → List ℕ
changes_objects earlier later = objects_of (line_changes earlier later)
