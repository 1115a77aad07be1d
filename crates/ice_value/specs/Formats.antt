-- The file formats of a table and their names. Apache Iceberg table spec v2, "Manifests" (file_format: "String file
-- format name, `avro`, `orc`, or `parquet`").
use Rattle.std.specs.Prelude.{ℕ, List, [], ◌∷◌, Option, codes, find}
use Rattle.std.specs.Str.{str_eq_ignore_ascii_case}
use Rattle.ice_value.specs.declared.file_format.FileFormat.{FileFormat}
use Rattle.ice_value.specs.declared.file_format.FileFormat.TheVariants.{Avro, Orc, Parquet}

abbrev pub format_name : FileFormat → List ℕ
format_name Avro = codes "avro"
format_name Orc = codes "orc"
format_name Parquet = codes "parquet"

-- the format that a text names, in either case of ASCII's letters
unfoldable pub format_named : List ℕ → Option FileFormat
format_named text =
    find (λ format. str_eq_ignore_ascii_case (format_name format) text) (Avro ∷ Orc ∷ Parquet ∷ [])
