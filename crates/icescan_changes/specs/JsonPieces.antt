-- The pieces of the lines of JSON, as they are put. No public contract cites these words. (10 is the line feed.)
use Rattle.std.specs.Prelude.{ℕ, ℤ, List, ◌++◌, codes}
use Rattle.json.specs.Print.{quoted}
use Rattle.serde_json.specs.Written.{compact_text}
use Rattle.ice_manifest_reading.specs.declared.entry.Entry.{Entry}
use Rattle.icescan_print.specs.Pieces.{named_number, named_signed}
use Rattle.icescan_changes.specs.JsonLines.{ids_json}
use Rattle.icescan_changes.specs.declared.json_lines.DeleteKind.{DeleteKind}
use Rattle.icescan_changes.specs.declared.json_lines.DeleteKind.TheVariants as deletes

-- the members of a data file that are numbers, and the end of its line
unfoldable pub data_numbers : Entry → List ℕ
data_numbers x = named_number (codes ",\"seq\":") x.sequence_number
    ++ (named_signed (codes ",\"spec\":") x.spec_id ++ (named_signed (codes ",\"rows\":") x.file.record_count
    ++ (named_signed (codes ",\"size\":") x.file.file_size ++ codes "}\n")))

-- the front of the line of a data file
unfoldable pub data_head : List ℕ
data_head = codes "{\"kind\":\"data\",\"change\":"

abbrev pub data_front : List ℕ → Entry → List ℕ
data_front became x = data_head ++ (quoted became ++ (codes ",\"path\":" ++ quoted x.file.path))

-- the front of the line of a delete file
abbrev pub kind_front : DeleteKind → List ℕ
kind_front deletes.Position = codes "{\"kind\":\"pos\",\"change\":"
kind_front deletes.Equality = codes "{\"kind\":\"eq\",\"change\":"

abbrev pub delete_front : DeleteKind → List ℕ → Entry → List ℕ
delete_front kind became d = kind_front kind ++ (quoted became ++ (codes ",\"path\":" ++ (quoted d.file.path
    ++ named_number (codes ",\"seq\":") d.sequence_number)))

-- the columns by which it deletes, and the path of the data file that it is told of
abbrev pub delete_rest : DeleteKind → List ℕ → List ℤ → List ℕ
delete_rest kind owner ids = codes ",\"ids\":" ++ (compact_text (ids_json kind ids)
    ++ (codes ",\"data\":" ++ (quoted owner ++ codes "}\n")))
