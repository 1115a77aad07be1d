-- A plan as the answer of the Iceberg REST catalog to a scan that was planned (rest-catalog-open-api.yaml,
-- CompletedPlanningResult). Members without a value are left out, and the others stand in that document's order. A file
-- has one member of our own, its data sequence number, which that document lets stand there.
use Rattle.std.specs.Prelude.{ℕ, List, [], ◌∷◌, ◌++◌, codes, map, Option, Some, None, option_map}
use Rattle.serde_json.specs.Data.{Data, string, array, object, number, unsigned, Members, no_members, member}
use Rattle.serde_json.specs.View.{items_of}
use Rattle.ice_value.specs.declared.file_content.FileContent.{FileContent}
use Rattle.ice_value.specs.declared.file_content.FileContent.TheVariants as content
use Rattle.ice_value.specs.Formats.{format_name as name_of_format}
use Rattle.ice_manifest_reading.specs.declared.entry.Entry.{Entry}
use Rattle.ice_manifest_reading.specs.declared.data_file.DataFile.{DataFile}
use Rattle.ice_state.specs.PlaceLists.{LinePlaces}
use Rattle.ice_state.specs.PlacedFiles.{PlanPlaces}
use Rattle.icescan_json.specs.Types.{types_of}
use Rattle.icescan_json.specs.declared.types.SpecTypes.{SpecTypes}
use Rattle.icescan_forms.specs.Objects.{count_json, number_json}
use Rattle.icescan_json.specs.Values.{cells_json}

-- a member that is left out where there is no value
abbrev pub member_if : List ℕ → Option Data → Members → Members
member_if key None rest = rest
member_if key (Some value) rest = member key value rest

abbrev pub content_name : FileContent → List ℕ
content_name content.Data = codes "data"
content_name content.PositionDeletes = codes "position-deletes"
content_name content.EqualityDeletes = codes "equality-deletes"

-- the name of a file's format, where it is known
abbrev pub format_name : Entry → Option (List ℕ)
format_name x = option_map name_of_format x.file.format

-- what a file of either kind has, before what its own kind has
unfoldable pub file_members : List SpecTypes → Entry → Members → Members
file_members types x rest =
    member (codes "content") (string (content_name x.file.content))
    (member (codes "file-path") (string x.file.path)
    (member_if (codes "file-format") (option_map string (format_name x))
    (member (codes "spec-id") (number_json x.spec_id)
    (member (codes "partition") (array (cells_json (types_of types x.spec_id) x.file.tuple))
    (member (codes "file-size-in-bytes") (number_json x.file.file_size)
    (member (codes "record-count") (number_json x.file.record_count)
    (member (codes "sequence-number") (count_json x.sequence_number) rest)))))))

-- what delete files have of their kind: the ids of the columns, or the data file that is named
abbrev pub kind_members : DataFile → FileContent → Members
kind_members f content.Data = no_members
kind_members f content.PositionDeletes =
    member_if (codes "referenced-data-file") (option_map string f.referenced) no_members
kind_members f content.EqualityDeletes =
    member (codes "equality-ids") (array (items_of (map number_json f.equality_ids))) no_members

abbrev pub delete_json : List SpecTypes → Entry → Data
delete_json types x = object (file_members types x (kind_members x.file x.file.content))

abbrev pub data_json : List SpecTypes → Entry → Data
data_json types x = object (file_members types x no_members)

-- the places, from 0, of a task's delete files in the list of delete files; left out where there are none
abbrev pub references : List ℕ → Members → Members
references [] rest = rest
references (n ∷ ns) rest = member (codes "delete-file-references")
    (array (items_of (map (λ i. number (unsigned i)) (n ∷ ns)))) rest

-- a data file, its delete files, and the filter that its rows are still to meet
unfoldable pub task_json : List SpecTypes → Data → Entry → LinePlaces → Data
task_json types residual x places = object (member (codes "data-file") (data_json types x)
    (references (places.positions ++ places.equalities) (member (codes "residual-filter") residual no_members)))

-- a task for each data file
abbrev pub tasks_json : List SpecTypes → Data → List Entry → List LinePlaces → List Data
tasks_json types residual [] places = []
tasks_json types residual (x ∷ xs) [] = []
tasks_json types residual (x ∷ xs) (p ∷ ps) = task_json types residual x p ∷ tasks_json types residual xs ps

-- each delete file once, and a task for each data file, both in the order of the plan
abbrev pub plan_json : List SpecTypes → Data → PlanPlaces → Data
plan_json types residual p = object
    (member (codes "status") (string (codes "completed"))
    (member (codes "delete-files") (array (items_of (map (delete_json types) p.deletes)))
    (member (codes "file-scan-tasks") (array (items_of (tasks_json types residual p.files p.places))) no_members)))
