-- What is told of a schema's columns.
use Rattle.std.specs.Prelude.{ℕ, List, map, Option, Some, None, if◌then◌else◌}
use Rattle.serde_json.specs.Data.{Data}
use Rattle.ice_filter.specs.Binding.{is_comparable, is_uuid}
use Rattle.ice_meta.specs.declared.schema.Column.{Column}
use Rattle.ice_meta.specs.declared.schema.Schema.{Schema}
use Rattle.ice_value.specs.declared.column_type.ColumnType.{ColumnType}
use Rattle.icescan_columns.specs.JsonTypes.{all_types, is_required, nested_word, schema_in, type_of}
use Rattle.icescan_columns.specs.Names.{Names, all_names, names_of}
use Rattle.icescan_columns.specs.TypeNames.{type_text}
use Rattle.icescan_columns.specs.declared.told.Compared.{Compared}
use Rattle.icescan_columns.specs.declared.told.Compared.TheVariants.{InOrder, ForEquality, Never}
use Rattle.icescan_columns.specs.declared.told.ToldColumn.{ToldColumn}

-- how a filter may compare values of a type, as binding decides it: uuids have no order, some types are not compared
abbrev pub compared_type : Option ColumnType → Compared
compared_type None = Never
compared_type (Some t) = if is_uuid t then ForEquality else if is_comparable t then InOrder else Never

-- no filter names a column to which no names lead
abbrev pub how_compared : Option Names → Column → Compared
how_compared None column = Never
how_compared (Some names) column = compared_type column.column_type

-- the word for a type: a primitive one, or one with columns inside it
abbrev pub type_word : Option ColumnType → Option Data → List ℕ
type_word (Some t) found = type_text t
type_word None found = nested_word found

-- by the JSON of the schema, and the types and the names of its columns
abbrev pub told_column : Option Data → List (Option Data) → List (Option Names) → Column → ToldColumn
told_column schema types names column = record {
  id = column.id;
  type_word = type_word column.column_type (type_of schema types column);
  required = is_required schema types column;
  compared = how_compared (names_of names column) column;
  names = names_of names column;
}

-- what is told of the columns of a schema of this metadata, in their order
abbrev pub told_columns : Data → Schema → List ToldColumn
told_columns metadata schema = let json = schema_in schema.id metadata in
    map (told_column json (all_types json schema.columns) (all_names schema.columns)) schema.columns
