-- What a writer was given, and what its file has.
-- Avro 1.11.1 specification, 'Object Container Files'.
use Rattle.std.specs.Prelude.{◌≡◌, ℕ, ◌<◌, ◌^◌, List, ◌++◌, length, Some, None, Ok}
use Rattle.std.specs.List.{AllByRecursion}
use Rattle.avro_schema.specs.Tree.{Tree}
use Rattle.avro_schema.specs.Texts.{schema_of}
use Rattle.avro_file.specs.declared.writer.Writer.{Writer}
use Rattle.avro_file.specs.Value.{Value, values_of}
use Rattle.avro_file.specs.Spelling.{Spells}
use Rattle.avro_file.specs.Header.{Property, schema_key, codec_key, last_under, AreProperties}
use Rattle.avro_file.specs.Files.{magic, IsUncompressed}
use Rattle.avro_file.specs.Writing.{header_bytes, all_written}
use Rattle.avro_file.specs.Counted.{IsCounted}

-- which data a type has: those that some bytes spell
abbrev pub IsOf : Tree → Value → Type 0
IsOf s v = (bytes : List ℕ) × Spells s v bytes

abbrev pub AreOf : Tree → List Value → Type 0
AreOf s vs = AllByRecursion (IsOf s) vs

-- a file begins with these metadata
abbrev pub HasMetadata : List Property → List ℕ → Type 0
HasMetadata ps bytes = (front : List ℕ) × (rest : List ℕ) × AreProperties ps front × (bytes ≡ magic ++ (front ++ rest))

-- magic number, metadata that name the schema, and marker
abbrev pub IsHeader : List Property → Tree → List ℕ → List ℕ → Type 0
IsHeader ps s sync bytes =
    (text : List ℕ) × (front : List ℕ) × AreProperties ps front × (last_under schema_key None ps ≡ Some text)
    × (schema_of text ≡ Ok s) × IsUncompressed (last_under codec_key None ps)
    × (length sync ≡ 16) × (bytes ≡ magic ++ (front ++ sync))

-- a writer of a file of this schema with these metadata, to which these data were pushed, as they lay in memory
unfoldable pub WasGiven : Writer → List Property → Tree → List Value → Type 0
WasGiven w ps s vs = IsHeader ps s w.sync w.header.items × (w.count ≡ length vs) × (w.count < 2 ^ 63)
    × (w.content.items ≡ all_written (values_of vs)) × AllByRecursion IsCounted vs

-- a writer of a file with these metadata and this marker, to which these data were pushed
unfoldable pub WillWrite : Writer → List Property → List ℕ → List Value → Type 0
WillWrite w ps sync vs = (w.header.items ≡ header_bytes ps sync) × (w.sync ≡ sync) × (w.count ≡ length vs)
    × (w.content.items ≡ all_written (values_of vs))
