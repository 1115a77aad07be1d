-- What a client reads off a plan's JSON of each file: all members that a file has.
use Rattle.std.specs.Prelude.{ℕ, ℤ, pos, List, [], ◌++◌, codes, map, Option, Some, None, option_map, option_and_then}
use Rattle.std.specs.Prelude.{if◌then◌else◌}
use Rattle.std.specs.Str.{bytes_eq}
use Rattle.serde_json.specs.Data.{unsigned, negative, Data, number, Items}
use Rattle.serde_json.specs.Find.{get, get_item}
use Rattle.ice_value.specs.declared.file_content.FileContent.{FileContent}
use Rattle.ice_value.specs.declared.file_content.FileContent.TheVariants as content
use Rattle.ice_value.specs.declared.file_format.FileFormat.{FileFormat}
use Rattle.ice_value.specs.Formats.{format_named}
use Rattle.ice_manifest_reading.specs.declared.data_file.DataFile.{DataFile}
use Rattle.ice_manifest_reading.specs.declared.entry.Entry.{Entry}
use Rattle.ice_state.specs.Lines.{OwnedLine}
use Rattle.icescan_json.specs.declared.types.SpecTypes.{SpecTypes}
use Rattle.icescan_json.specs.Types.{types_of}
use Rattle.icescan_json.specs.Values.{cells_json}
use Rattle.icescan_json.specs.Told.{by_key, text_in, items_in, each_item}

-- what is said of a file, each member where it is there and of its kind
pub record ToldFile : Type 0 where
  pub content : Option FileContent
  pub path : Option (List ℕ)
  pub format : Option FileFormat
  pub spec_id : Option ℤ
  -- the partition values, each as JSON has values of its type
  pub partition : Items
  pub file_size : Option ℤ
  pub record_count : Option ℤ
  pub sequence_number : Option ℤ
  pub equality_ids : Option (List ℤ)
  pub referenced : Option (List ℕ)

-- a whole number, where the value is one
abbrev pub number_in : Data → Option ℤ
number_in (number (unsigned n)) = Some (pos n)
number_in (number (negative z)) = Some z
number_in _ = None

-- the content that has this name
abbrev pub content_named : List ℕ → Option FileContent
content_named name =
    if bytes_eq name (codes "data") then Some content.Data
    else if bytes_eq name (codes "position-deletes") then Some content.PositionDeletes
    else if bytes_eq name (codes "equality-deletes") then Some content.EqualityDeletes
    else None

abbrev pub text_at : List ℕ → Data → Option (List ℕ)
text_at key file = option_and_then text_in (get key file)

abbrev pub number_at : List ℕ → Data → Option ℤ
number_at key file = option_and_then number_in (get key file)

abbrev pub file_in : Data → ToldFile
file_in file = record {
  content = option_and_then content_named (text_at (codes "content") file);
  path = text_at (codes "file-path") file;
  format = option_and_then format_named (text_at (codes "file-format") file);
  spec_id = number_at (codes "spec-id") file;
  partition = items_in (get (codes "partition") file);
  file_size = number_at (codes "file-size-in-bytes") file;
  record_count = number_at (codes "record-count") file;
  sequence_number = number_at (codes "sequence-number") file;
  equality_ids = each_item number_in (items_in (get (codes "equality-ids") file));
  referenced = text_at (codes "referenced-data-file") file;
}

-- the delete file that a reference names
abbrev pub delete_in : Items → Data → Option ToldFile
delete_in deletes (number (unsigned n)) = option_map file_in (get_item n deletes)
delete_in deletes _ = None

-- what is said of a task: its data file, the delete files that its references name, and its filter, where it has one
pub record ToldTask : Type 0 where
  pub file : ToldFile
  pub deletes : List ToldFile
  pub residual : Option Data

abbrev pub task_in : Items → Data → Option ToldTask
task_in deletes task = option_and_then (λ file. option_map (λ named.
    record { file = file_in file; deletes = named; residual = get (codes "residual-filter") task })
    (each_item (delete_in deletes) (items_in (get (codes "delete-file-references") task))))
    (get (codes "data-file") task)

-- what the whole answer says
abbrev pub told_whole : Data → Option (List ToldTask)
told_whole plan = each_item (task_in (items_in (get (codes "delete-files") plan)))
    (items_in (get (codes "file-scan-tasks") plan))

-- ---- the same of a plan

-- the columns of equality deletes; other files have none
abbrev pub ids_of : DataFile → FileContent → List ℤ
ids_of f content.EqualityDeletes = f.equality_ids
ids_of f _ = []

-- the data file that position deletes are about; other files name none
abbrev pub referenced_of : DataFile → FileContent → Option (List ℕ)
referenced_of f content.PositionDeletes = f.referenced
referenced_of f _ = None

-- a file, with what such a file has of its kind
abbrev pub file_as : FileContent → List SpecTypes → Entry → ToldFile
file_as kind types x = record {
  content = Some x.file.content;
  path = Some x.file.path;
  format = x.file.format;
  spec_id = Some x.spec_id;
  partition = cells_json (types_of types x.spec_id) x.file.tuple;
  file_size = Some x.file.file_size;
  record_count = Some x.file.record_count;
  sequence_number = Some (pos x.sequence_number);
  equality_ids = Some (ids_of x.file kind);
  referenced = referenced_of x.file kind;
}

abbrev pub delete_of : List SpecTypes → Entry → ToldFile
delete_of types d = file_as d.file.content types d

-- a data file, the delete files that apply to it, and the filter, its members in the order of their keys
abbrev pub task_of : List SpecTypes → Data → OwnedLine → ToldTask
task_of types residual l = record {
  file = file_as content.Data types l.file;
  deletes = map (delete_of types) (l.positions ++ l.equalities);
  residual = Some (by_key residual);
}
