use Rattle.std.proofs.Common.{◌≡◌, Some, refl}
use Rattle.ice_value.specs.declared.file_format.FileFormat.{FileFormat}
use Rattle.ice_value.specs.declared.file_format.FileFormat.TheVariants.{Avro, Orc, Parquet}
use Rattle.ice_value.specs.Formats.{format_name, format_named}
use Rattle.ice_value.proofs.file_format.names_of_formats.Goals as goal

named : (format : FileFormat) → format_named (format_name format) ≡ Some format
unfolding format_named
named Avro = refl
named Orc = refl
named Parquet = refl

pub returns : goal.returns
returns c = named
