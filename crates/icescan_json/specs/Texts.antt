-- The text of a plan's JSON, as it is written. (10 is the line feed.) No public contract cites the words but json_text.
use Rattle.std.specs.Prelude.{◌≡◌, ℕ, suc, nat_lt, List, [], ◌∷◌, ◌++◌, codes, Option, Some, None}
use Rattle.std.specs.Fmt.{decimal, signed_decimal}
use Rattle.json.specs.Print.{quoted}
use Rattle.serde_json.specs.Data.{Data}
use Rattle.serde_json.specs.Written.{comma_if, compact_text}
use Rattle.ice_value.specs.declared.cell.Cell.{Cell}
use Rattle.ice_value.specs.declared.column_type.ColumnType.{ColumnType}
use Rattle.ice_value.specs.declared.file_content.FileContent.{FileContent}
use Rattle.ice_value.specs.declared.file_content.FileContent.TheVariants as content
use Rattle.ice_manifest_reading.specs.declared.data_file.DataFile.{DataFile}
use Rattle.ice_manifest_reading.specs.declared.entry.Entry.{Entry}
use Rattle.ice_state.specs.Lines.{OwnedLine}
use Rattle.ice_state.specs.PlaceLists.{LinePlaces}
use Rattle.ice_state.specs.PlacedFiles.{plan_of, ArePlaced, PlanPlaces}
use Rattle.icescan_forms.specs.Pieces.{each_from}
use Rattle.icescan_json.specs.Named.{AreNamed}
use Rattle.icescan_json.specs.PlanJson.{content_name, data_json, format_name, delete_json, plan_json}
use Rattle.icescan_json.specs.Types.{types_of}
use Rattle.icescan_json.specs.declared.types.SpecTypes.{SpecTypes}
use Rattle.icescan_json.specs.Values.{cell_json, type_at}

-- one line: the value as serde_json writes it without spaces
abbrev pub json_text : List SpecTypes → Data → PlanPlaces → List ℕ
json_text types residual p = compact_text (plan_json types residual p) ++ 10 ∷ []

-- The text says this plan, and that its rows are still to meet the filter whose JSON has this text. The plan's data
-- files stand, each once, at some places, and so do the delete files that one of their tasks names, and no others.
pub record IsJsonOf (types : List SpecTypes) (residual : List ℕ) (plan : List OwnedLine) (text : List ℕ) : Type 0 where
  pub filter : Data
  pub filter_is : residual ≡ compact_text filter
  pub files : PlanPlaces
  pub plan_is : plan_of files ≡ plan
  pub placed : ArePlaced files
  pub named : AreNamed files
  pub text_is : text ≡ json_text types filter files

-- ---- pieces of it

abbrev pub cells_text : List (Option ColumnType) → List Cell → List ℕ
cells_text types cells = each_from (λ i c. compact_text (cell_json (type_at types i) c)) 0 cells

abbrev pub format_text : Option (List ℕ) → List ℕ
format_text None = []
format_text (Some name) = codes ",\"file-format\":" ++ quoted name

-- what stands before the path of a file of this kind
abbrev pub before_path : FileContent → List ℕ
before_path kind = codes "{\"content\":\"" ++ (content_name kind ++ codes "\",\"file-path\":")

-- a file's path, and what it is
unfoldable pub file_head : Entry → List ℕ
file_head x = codes "{\"content\":\"" ++ (content_name x.file.content
    ++ (codes "\",\"file-path\":" ++ (quoted x.file.path ++ format_text (format_name x))))

unfoldable pub file_partition : List SpecTypes → Entry → List ℕ
file_partition types x = codes ",\"spec-id\":" ++ (signed_decimal x.spec_id
    ++ (codes ",\"partition\":[" ++ (cells_text (types_of types x.spec_id) x.file.tuple ++ codes "]")))

unfoldable pub file_sizes : Entry → List ℕ
file_sizes x = codes ",\"file-size-in-bytes\":" ++ (signed_decimal x.file.file_size
    ++ (codes ",\"record-count\":" ++ (signed_decimal x.file.record_count
    ++ (codes ",\"sequence-number\":" ++ decimal x.sequence_number))))

-- a file, but for what its own kind has and the bracket
unfoldable pub file_text : List SpecTypes → Entry → List ℕ
file_text types x = file_head x ++ (file_partition types x ++ file_sizes x)

abbrev pub ids_text : DataFile → List ℕ
ids_text f = each_from (λ _ id. signed_decimal id) 0 f.equality_ids

abbrev pub referenced_text : Option (List ℕ) → List ℕ
referenced_text None = []
referenced_text (Some path) = codes ",\"referenced-data-file\":" ++ quoted path

abbrev pub kind_text : DataFile → FileContent → List ℕ
kind_text f content.Data = []
kind_text f content.PositionDeletes = referenced_text f.referenced
kind_text f content.EqualityDeletes = codes ",\"equality-ids\":[" ++ (ids_text f ++ codes "]")

abbrev pub references_text : List ℕ → List ℕ
references_text [] = []
references_text (n ∷ ns) = codes ",\"delete-file-references\":["
    ++ (each_from (λ _ i. decimal i) 0 (n ∷ ns) ++ codes "]")

abbrev pub deletes_text : List SpecTypes → List Entry → List ℕ
deletes_text types deletes = each_from (λ _ x. compact_text (delete_json types x)) 0 deletes

-- the text of a task, where this is that of the filter
abbrev pub task_text : List SpecTypes → List ℕ → Entry → LinePlaces → List ℕ
task_text types residual x places = codes "{\"data-file\":" ++ (compact_text (data_json types x)
    ++ (references_text (places.positions ++ places.equalities)
    ++ (codes ",\"residual-filter\":" ++ (residual ++ codes "}"))))

abbrev pub task_texts : List SpecTypes → List ℕ → List Entry → List LinePlaces → List (List ℕ)
task_texts types residual [] places = []
task_texts types residual (x ∷ xs) [] = []
task_texts types residual (x ∷ xs) (p ∷ ps) = task_text types residual x p ∷ task_texts types residual xs ps

-- texts, each but the first with a comma before it, where the first has this place
abbrev pub with_commas : ℕ → List (List ℕ) → List (List ℕ)
with_commas n [] = []
with_commas n (t ∷ ts) = (comma_if (nat_lt 0 n) ++ t) ∷ with_commas (suc n) ts

-- the tasks as they stand in their list
abbrev pub listed_tasks : List SpecTypes → List ℕ → PlanPlaces → List (List ℕ)
listed_tasks types residual p = with_commas 0 (task_texts types residual p.files p.places)

abbrev pub tasks_text : List SpecTypes → List ℕ → PlanPlaces → List ℕ
tasks_text types residual p = each_from (λ _ t. t) 0 (task_texts types residual p.files p.places)

-- the text before the tasks
abbrev pub front_text : List SpecTypes → List Entry → List ℕ
front_text types deletes = codes "{\"status\":\"completed\",\"delete-files\":[" ++ (deletes_text types deletes
    ++ codes "],\"file-scan-tasks\":[")

-- the text of the whole
abbrev pub plan_text : List SpecTypes → List ℕ → PlanPlaces → List ℕ
plan_text types residual p = codes "{\"status\":\"completed\",\"delete-files\":[" ++ (deletes_text types p.deletes
    ++ (codes "],\"file-scan-tasks\":[" ++ (tasks_text types residual p ++ codes "]}\n")))
