-- A change file: a JSON object that says which files a commit adds. Its members `data` and `deletes` are arrays of
-- objects, one for each file, with what a manifest says of the file (Apache Iceberg table spec v2, "Manifests"): where
-- it is, its format, its partition, how many rows and bytes it has, and of a delete file also what it deletes by. All
-- of it is read in the order of the lines here; the first line that has a fault gives it. Members that stand nowhere
-- here are not looked at.
use Rattle.std.specs.Prelude.{ℕ, ℤ, List, [], ◌∷◌, ◌++◌, codes, Option, Some, None, option_and_then, option_map, Result}
use Rattle.std.specs.Prelude.{Ok, Err, if◌then◌else◌}
use Rattle.std.specs.Option.{is_some}
use Rattle.std.specs.Result.{result_ok}
use Rattle.std.specs.Str.{bytes_eq, is_utf8}
use Rattle.hex.specs.Hex.{decode_of}
use Rattle.contract_words.specs.Outcome.{◌>>=◌}
use Rattle.serde_json.specs.Data as json
use Rattle.serde_json.specs.Data.{Data, Items, Num}
use Rattle.serde_json.specs.Find.{get, as_array, as_i64, as_number, as_object, as_str}
use Rattle.serde_json.specs.Read.{read}
use Rattle.ice_value.specs.declared.cell.Cell.{Cell}
use Rattle.ice_value.specs.declared.cell.Cell.TheVariants as cell
use Rattle.ice_value.specs.declared.file_content.FileContent.{FileContent}
use Rattle.ice_value.specs.declared.file_content.FileContent.TheVariants as content
use Rattle.ice_value.specs.Formats.{format_named}
use Rattle.ice_manifest.specs.declared.new_file.NewFile.{NewFile}
use Rattle.ice_meta.specs.Members.{if_int, if_objects, not_null}
use Rattle.ice_catalog_changes.specs.declared.change.Change.{Change}
use Rattle.icescan_text.specs.declared.change.ChangeKind.{ChangeKind}
use Rattle.icescan_text.specs.declared.change.ChangeKind.TheVariants as kind
use Rattle.icescan_text.specs.declared.change.fault.ChangeFault.{ChangeFault}
use Rattle.icescan_text.specs.declared.change.fault.ChangeFault.TheVariants.{Bad, NotJson}
use Rattle.icescan_text.specs.declared.change.fault.ChangeMember.{ChangeMember}
use Rattle.icescan_text.specs.declared.change.fault.ChangeMember.TheVariants as member
use Rattle.icescan_text.specs.declared.change.new_file.FileKind.{FileKind}
use Rattle.icescan_text.specs.declared.change.new_file.FileKind.TheVariants as file_kind

abbrev pub member_name : ChangeMember → List ℕ
member_name member.Data = codes "data"
member_name member.Deletes = codes "deletes"
member_name member.Path = codes "path"
member_name member.Format = codes "format"
member_name member.SpecId = codes "spec-id"
member_name member.Partition = codes "partition"
member_name member.RecordCount = codes "record-count"
member_name member.FileSize = codes "file-size"
member_name member.Content = codes "content"
member_name member.EqualityIds = codes "equality-ids"
member_name member.ReferencedDataFile = codes "referenced-data-file"

-- what a member has to have, or a fault
abbrev pub asked : {A : Type 0} → ChangeMember → Option A → Result A ChangeFault
asked m None = Err (Bad m)
asked m (Some x) = Ok x

-- the value of a member
abbrev pub there : ChangeMember → Data → Result Data ChangeFault
there m d = asked m (get (member_name m) d)

-- what a member has, which has to be there and of this kind
abbrev pub needed : {A : Type 0} → (Data → Option A) → ChangeMember → Data → Result A ChangeFault
needed of_kind m d = there m d >>= λ value. asked m (of_kind value)

-- ---- kinds

-- a whole number of 64 bits
abbrev pub as_long : Data → Option ℤ
as_long d = option_and_then as_i64 (as_number d)

-- a whole number of 32 bits
abbrev pub as_int : Data → Option ℤ
as_int d = option_and_then if_int (as_long d)

-- an array of objects
abbrev pub as_objects : Data → Option Items
as_objects d = option_and_then if_objects (as_array d)

-- the name of a file format, as it is written: readers refuse a table whose files are in any other
abbrev pub as_format : Data → Option (List ℕ)
as_format d = option_and_then (λ text. option_map (λ format. text) (format_named text)) (as_str d)

-- the bytes of a text of hexadecimal digits
abbrev pub as_bytes : Data → Option (List ℕ)
as_bytes d = option_and_then (λ digits. result_ok (decode_of digits)) (as_str d)

-- a partition value: null, true or false, a whole number, a text, or bytes as in {"hex":"00ff"}
unfoldable pub as_cell : Data → Option Cell
as_cell json.null = Some cell.Null
as_cell (json.boolean flag) = Some (cell.Bool flag)
as_cell (json.number n) = option_map cell.Whole (as_i64 n)
as_cell (json.string text) = Some (cell.Text text)
as_cell (json.array ds) = None
as_cell (json.object ms) = option_map cell.Bytes (option_and_then as_bytes (get (codes "hex") (json.object ms)))

-- what is read of each item, from left to right, behind what stands in front
abbrev pub each_behind : {A : Type 0} → (Data → Result A ChangeFault) → Items → List A → Result (List A) ChangeFault
each_behind read json.no_items front = Ok front
each_behind read (json.item d ds) front = read d >>= λ x. each_behind read ds (front ++ x ∷ [])

abbrev pub each : {A : Type 0} → (Data → Result A ChangeFault) → Items → Result (List A) ChangeFault
each read items = each_behind read items []

-- ---- a file

-- its partition values
unfoldable pub tuple_in : Data → Result (List Cell) ChangeFault
tuple_in d = needed as_array member.Partition d >>= each (λ item. asked member.Partition (as_cell item))

-- what is said of each file, as of a data file that names no other
unfoldable pub file_of : Data → Result NewFile ChangeFault
file_of d = do
  path ← needed as_str member.Path d
  format ← needed as_format member.Format d
  spec_id ← needed as_int member.SpecId d
  tuple ← tuple_in d
  record_count ← needed as_long member.RecordCount d
  file_size ← needed as_long member.FileSize d
  Ok (record {
    content = content.Data;
    path = path;
    format = format;
    spec_id = spec_id;
    tuple = tuple;
    record_count = record_count;
    file_size = file_size;
    equality_ids = [];
    referenced = None;
  })

-- the places of deleted rows, or the values of deleted rows
abbrev pub as_delete_content : List ℕ → Option FileContent
as_delete_content text =
    if bytes_eq text (codes "position") then Some content.PositionDeletes
    else (if bytes_eq text (codes "equality") then Some content.EqualityDeletes else None)

unfoldable pub content_in : Data → Result FileContent ChangeFault
content_in d = needed as_str member.Content d >>= λ text. asked member.Content (as_delete_content text)

-- the ids of the columns whose values it deletes by; where the member is left out or null there are none
abbrev pub ids_of : Option Data → Result (List ℤ) ChangeFault
ids_of None = Ok []
ids_of (Some d) = asked member.EqualityIds (as_array d) >>= each (λ item. asked member.EqualityIds (as_int item))

unfoldable pub ids_in : Data → Result (List ℤ) ChangeFault
ids_in d = ids_of (option_and_then not_null (get (member_name member.EqualityIds) d))

-- the one data file that a file names as the one that it is about; where the member is left out or null it names none
abbrev pub name_of : Option Data → Result (Option (List ℕ)) ChangeFault
name_of None = Ok None
name_of (Some d) = asked member.ReferencedDataFile (as_str d) >>= λ path. Ok (Some path)

unfoldable pub referenced_in : Data → Result (Option (List ℕ)) ChangeFault
referenced_in d = name_of (option_and_then not_null (get (member_name member.ReferencedDataFile) d))

-- a data file: that it may name no other is for the commit to say
unfoldable pub data_file_of : Data → Result NewFile ChangeFault
data_file_of d = do
  file ← file_of d
  referenced ← referenced_in d
  Ok (record file { referenced = referenced })

-- a delete file: what it deletes by stands in front of the name
unfoldable pub delete_file_of : Data → Result NewFile ChangeFault
delete_file_of d = do
  file ← file_of d
  content ← content_in d
  ids ← ids_in d
  referenced ← referenced_in d
  Ok (record file { content = content; equality_ids = ids; referenced = referenced })

abbrev pub new_file_of : FileKind → Data → Result NewFile ChangeFault
new_file_of file_kind.Data d = data_file_of d
new_file_of file_kind.Deletes d = delete_file_of d

-- ---- the change

-- an append has no delete files
abbrev pub allowed : ChangeKind → Items → Result Unit ChangeFault
allowed kind.Append json.no_items = Ok tt
allowed kind.Append (json.item d ds) = Err (Bad member.Deletes)
allowed kind.RowDelta ds = Ok tt

-- the change of an object
unfoldable pub change_in : ChangeKind → Data → Result Change ChangeFault
change_in asked_for d = do
  data_objects ← needed as_objects member.Data d
  delete_objects ← needed as_objects member.Deletes d
  _ ← allowed asked_for delete_objects
  files ← each (new_file_of file_kind.Data) data_objects
  deletes ← each (new_file_of file_kind.Deletes) delete_objects
  Ok (record { files = files; deletes = deletes })

abbrev pub or_not_json : {A : Type 0} → Option A → Result A ChangeFault
or_not_json None = Err NotJson
or_not_json (Some x) = Ok x

-- the JSON of a text in UTF-8
unfoldable pub text_json : List ℕ → Result Data ChangeFault
text_json bytes = if is_utf8 bytes then or_not_json (read bytes) else Err NotJson

abbrev pub if_object : Data → Result Data ChangeFault
if_object d = if is_some (as_object d) then Ok d else Err NotJson

-- the JSON object of a text in UTF-8
abbrev pub json_of : List ℕ → Result Data ChangeFault
json_of bytes = text_json bytes >>= if_object

-- the change that a file says, or its first fault
unfoldable pub change_of : ChangeKind → List ℕ → Result Change ChangeFault
change_of asked_for bytes = json_of bytes >>= change_in asked_for
