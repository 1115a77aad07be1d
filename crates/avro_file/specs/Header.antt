-- The header of a file: its metadata and its marker.
-- Avro 1.11.1 specification, 'Object Container Files': the file metadata are a map from text to bytes, of which the
-- keys `avro.schema` and `avro.codec` are used; behind them stands the 16-byte sync marker.
use Rattle.std.specs.Prelude.{◌≡◌, ℕ, suc, ◌-◌, ◌^◌, List, [], ◌∷◌, ◌++◌, length, Option, Some, None, Result, Ok}
use Rattle.std.specs.Prelude.{if◌then◌else◌, codes}
use Rattle.std.specs.Str.{IsUtf8, bytes_eq}
use Rattle.contract_words.specs.Outcome.{◌>>=◌}
use Rattle.avro_file_parts.specs.declared.refusal.Refusal.{Refusal}
use Rattle.avro_file_parts.specs.Parts.{Position, Read, run_at, bytes_at, string_at}
use Rattle.avro_file.specs.Reading.{blocks_at}
use Rattle.avro_file.specs.Spelling.{IsRun, AreBlocks}

-- a key, and the bytes under it
abbrev pub Property : Type 0
Property = List ℕ × List ℕ

abbrev pub schema_key : List ℕ
schema_key = codes "avro.schema"

abbrev pub codec_key : List ℕ
codec_key = codes "avro.codec"

-- the last bytes under a key, or else what was found before
abbrev pub last_under : List ℕ → Option (List ℕ) → List Property → Option (List ℕ)
last_under key found [] = found
last_under key found (p ∷ ps) = last_under key (if bytes_eq p.0 key then Some p.1 else found) ps

-- what a reader wants of the metadata
pub record Wanted : Type 0 where
  pub schema : Option (List ℕ)
  pub codec : Option (List ℕ)

abbrev pub wanted_with : Wanted → List Property → Wanted
wanted_with w ps = record { schema = last_under schema_key w.schema ps; codec = last_under codec_key w.codec ps }

abbrev pub none_wanted : Wanted
none_wanted = record { schema = None; codec = None }

-- ---- reading

unfoldable pub property_at : Position → Read Property
property_at p = do
  key ← string_at p.bytes
  content ← bytes_at key.1
  Ok ((key.0, content.0), record { bytes = content.1; left = p.left })

-- The blocks of the metadata. There may be more items than any file can have.
unfoldable pub properties_at : List ℕ → Read (List Property)
properties_at bytes = blocks_at property_at (suc (length bytes)) (record { bytes = bytes; left = 2 ^ 64 - 1 })

-- what is wanted, with the properties that are read
abbrev pub wanted_at : Wanted → Read (List Property) → Read Wanted
wanted_at w read = read >>= λ x. Ok (wanted_with w x.0, x.1)

unfoldable pub metadata_at : List ℕ → Result (Wanted × List ℕ) Refusal
metadata_at bytes = do
  x ← wanted_at none_wanted (properties_at bytes)
  Ok (x.0, x.1.bytes)

pub record FileHeader : Type 0 where
  pub wanted : Wanted
  pub sync : List ℕ
  pub rest : List ℕ

unfoldable pub header_at : List ℕ → Result FileHeader Refusal
header_at bytes = do
  x ← metadata_at bytes
  marker ← run_at 16 x.1
  Ok (record { wanted = x.0; sync = marker.0; rest = marker.1 })

-- ---- spelling

abbrev pub IsProperty : Property → List ℕ → Type 0
IsProperty p bytes = (front : List ℕ) × (back : List ℕ) × IsUtf8 p.0 × IsRun p.0 front × IsRun p.1 back
    × (bytes ≡ front ++ back)

abbrev pub AreProperties : List Property → List ℕ → Type 0
AreProperties ps bytes = (blocks : ℕ) × AreBlocks IsProperty blocks ps bytes
