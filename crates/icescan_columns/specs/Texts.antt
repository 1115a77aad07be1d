-- The program's own text of a table's columns and partition fields. A line is words, of which the last may have spaces:
-- it is a name. (10 is the line feed, 32 the space, 92 the backslash.)
use Rattle.std.specs.Prelude.{ℕ, ◌==◌, Bool, true, false, ◌||◌, nat_lt, List, [], ◌∷◌, ◌++◌, codes, Option, Some, None}
use Rattle.std.specs.Prelude.{if◌then◌else◌}
use Rattle.std.specs.List.{flat_map, list_any}
use Rattle.serde_json.specs.Data.{Data}
use Rattle.ice_filter.specs.Texts.{column_text}
use Rattle.ice_meta.specs.declared.schema.Schema.{Schema}
use Rattle.ice_meta.specs.declared.spec.PartitionField.{PartitionField}
use Rattle.ice_meta.specs.declared.spec.Spec.{Spec}
use Rattle.ice_meta.specs.declared.table.Table.{Table}
use Rattle.icescan_columns.specs.Names.{Names}
use Rattle.icescan_columns.specs.Told.{told_columns}
use Rattle.icescan_columns.specs.declared.told.Compared.{Compared}
use Rattle.icescan_columns.specs.declared.told.Compared.TheVariants.{InOrder, ForEquality, Never}
use Rattle.icescan_columns.specs.declared.told.ToldColumn.{ToldColumn}
use Rattle.icescan_print.specs.Escaping.{escaped}
use Rattle.icescan_print.specs.Pieces.{named_path, named_signed}
use Rattle.icescan_print.specs.TableTexts.{schema_line, spec_line}

-- a byte that can't stand in a name at the end of a line: a control byte, and the backslash of escapes
abbrev pub is_broken : ℕ → Bool
is_broken b = nat_lt b 32 || (b == 92 || b == 127)

-- a name at the end of a line: as it is, or escaped as a whole where it has such a byte
abbrev pub last_text : List ℕ → List ℕ
last_text name = if list_any is_broken name then escaped name else name

-- a column as a filter writes it, with names in quotes where they need them; `-` where no filter can write it
abbrev pub name_text : Option Names → List ℕ
name_text None = codes "-"
name_text (Some names) = last_text (column_text names)

abbrev pub yes_or_no : Bool → List ℕ
yes_or_no true = codes "yes"
yes_or_no false = codes "no"

abbrev pub compared_word : Compared → List ℕ
compared_word InOrder = codes "yes"
compared_word ForEquality = codes "equality"
compared_word Never = codes "no"

-- a column's id and type; whether it is required, and how a filter may compare it
unfoldable pub kind_text : ToldColumn → List ℕ
kind_text told = named_signed (codes "column ") told.id ++ named_path (codes " type ") told.type_word

unfoldable pub answers_text : ToldColumn → List ℕ
answers_text told =
    codes " required " ++ (yes_or_no told.required ++ (codes " filter " ++ compared_word told.compared))

unfoldable pub column_line : ToldColumn → List ℕ
column_line told = kind_text told ++ (answers_text told ++ (codes " name " ++ (name_text told.names ++ 10 ∷ [])))

-- a partition field's id; the column that its values come from; the transform
unfoldable pub id_text : PartitionField → List ℕ
id_text field = named_signed (codes "field ") field.field_id

unfoldable pub source_text : PartitionField → List ℕ
source_text field = named_signed (codes " source ") field.source_id

unfoldable pub transform_text : PartitionField → List ℕ
transform_text field = named_path (codes " transform ") field.transform

unfoldable pub field_line : PartitionField → List ℕ
field_line field = id_text field ++ (source_text field ++ (transform_text field
    ++ (codes " name " ++ (last_text field.name ++ 10 ∷ []))))

-- a partition spec, and behind it its fields
unfoldable pub spec_text : Spec → List ℕ
spec_text spec = spec_line spec ++ flat_map field_line spec.fields

-- the spec of new files
unfoldable pub default_line : Table → List ℕ
default_line table = named_signed (codes "default-spec ") table.default_spec_id ++ 10 ∷ []

-- the columns of a schema of this metadata, and the partition specs of its table, in the order of the file
unfoldable pub columns_text : Data → Schema → Table → List ℕ
columns_text metadata schema table = schema_line schema ++ (flat_map column_line (told_columns metadata schema)
    ++ (default_line table ++ flat_map spec_text table.specs))
