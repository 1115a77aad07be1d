-- What a file holds, and what its reader will give.
-- Avro 1.11.1 specification, 'Object Container Files' and 'Required Codecs'.
use Rattle.std.specs.Prelude.{◌≡◌, ℕ, List, [], ◌∷◌, ◌++◌, length, take, drop, Option, Some, None, Result, Ok, Err}
use Rattle.std.specs.Prelude.{nat_lt, if◌then◌else◌, codes}
use Rattle.std.specs.Str.{bytes_eq}
use Rattle.contract_words.specs.Outcome.{◌>>=◌}
use Rattle.avro_schema.specs.Tree.{Tree}
use Rattle.avro_schema.specs.View.{tree}
use Rattle.avro_schema.specs.Texts.{schema_of}
use Rattle.avro_file_parts.specs.declared.refusal.Refusal.{Refusal}
use Rattle.avro_file.specs.declared.fault.AvroFault.{AvroFault}
use Rattle.avro_file.specs.declared.fault.AvroFault.TheVariants.{NotAvro, Codec, Schema}
use Rattle.avro_file.specs.declared.container.Container.{Container}
use Rattle.avro_file.specs.declared.container.Objects.{Objects}
use Rattle.avro_file.specs.declared.object.Object.{Object}
use Rattle.avro_file.specs.Value.{Value}
use Rattle.avro_file.specs.Where.{file_position_of}
use Rattle.avro_file.specs.Blocks.{fault_of, refused, Run, run_from, StandsAt}
use Rattle.avro_file.specs.Holding.{Holds}
use Rattle.avro_file.specs.Header.{Property, schema_key, codec_key, last_under, FileHeader, header_at, AreProperties}
use Rattle.avro_file.specs.Ahead.{Ahead, running, refusing}

-- `Obj` and a version
abbrev pub magic : List ℕ
magic = 79 ∷ 98 ∷ 106 ∷ 1 ∷ []

-- the codec that does not compress
abbrev pub null_codec : List ℕ
null_codec = codes "null"

-- ---- what a reader shows

-- what an object is, which lies at the front of its bytes
abbrev pub Shows : Object → Value → Type 0
Shows o v = StandsAt (tree o.schema.now) o.bytes.now v

abbrev pub ahead_of : ℕ → Option Refusal → Run → Ahead
ahead_of total (Some e) r = refusing (fault_of total e)
ahead_of total None r = running r.found r.ending

abbrev pub tree_of : Container → Tree
tree_of c = tree c.named.schema

-- what the objects of a file are, from the first on
abbrev pub at_start : Container → Ahead
at_start c = ahead_of c.total None
    (run_from (tree_of c) c.sync.now c.total (record { count = 0; block = []; bytes = c.rest.now }))

abbrev pub type_of : Objects → Tree
type_of o = tree o.schema.now

-- what is still to come
abbrev pub ahead : Objects → Ahead
ahead o = ahead_of o.total o.refused (run_from (tree o.schema.now) o.sync.now o.total (file_position_of o.spot))

-- a file that was opened: the tree of its schema, and what its objects will be
pub record Opened : Type 0 where
  pub schema : Tree
  pub ahead : Ahead

abbrev pub opened : Container → Opened
opened c = record { schema = tree_of c; ahead = at_start c }

-- a reader that will give these data, up to the end of the file
abbrev pub reader_of : Tree → List Value → Opened
reader_of s vs = record { schema = s; ahead = running vs None }

-- ---- what opening a file gives

unfoldable pub begun_at : List ℕ → Result FileHeader AvroFault
begun_at bytes =
    if nat_lt (length bytes) 4 then Err NotAvro else (
    if bytes_eq (take 4 bytes) magic then refused (fault_of (length bytes)) (header_at (drop 4 bytes)) else Err NotAvro
    )

-- metadata that name no schema are no file's
abbrev pub schema_text : Option (List ℕ) → Result (List ℕ) AvroFault
schema_text (Some text) = Ok text
schema_text None = Err NotAvro

-- no codec, or the one that does not compress
abbrev pub uncompressed : Option (List ℕ) → Result (Unit {0}) AvroFault
uncompressed None = Ok tt
uncompressed (Some name) = if bytes_eq name null_codec then Ok tt else Err (Codec name)

-- The header, the schema's text, the codec, the schema. The data are those of the blocks.
unfoldable pub opened_at : List ℕ → Result Opened AvroFault
opened_at bytes = do
  header ← begun_at bytes
  text ← schema_text header.wanted.schema
  codec ← uncompressed header.wanted.codec
  s ← refused Schema (schema_of text)
  Ok (record {
    schema = s;
    ahead = ahead_of (length bytes) None (run_from s header.sync (length bytes)
        (record { count = 0; block = []; bytes = header.rest }));
  })

-- the header is whole and names a schema
abbrev pub HasHeader : List ℕ → Type 0
HasHeader bytes = (header : FileHeader) × (text : List ℕ) × (begun_at bytes ≡ Ok header)
    × (header.wanted.schema ≡ Some text)

-- one call of next
abbrev pub Next : {X : Type 0} → (X → Value → Type 0) → Ahead → Result (Option X) AvroFault → Ahead → Type 0
Next Shows (refusing e) result new = (result ≡ Err e) × (new ≡ refusing e)
Next Shows (running vs ending) (Ok None) new = (vs ≡ []) × (ending ≡ None) × (new ≡ running vs ending)
Next Shows (running vs ending) (Ok (Some x)) new = (v : Value) × (ws : List Value) × Shows x v × (vs ≡ v ∷ ws)
    × (new ≡ running ws ending)
Next Shows (running vs ending) (Err e) new = (vs ≡ []) × (ending ≡ Some e) × (new ≡ refusing e)

-- ---- what a file holds

abbrev pub IsUncompressed : Option (List ℕ) → Type 0
IsUncompressed None = Unit {0}
IsUncompressed (Some name) = name ≡ null_codec

-- magic number, metadata, marker and blocks; of equal keys the last counts
abbrev pub HoldsFile : Tree → List Value → List ℕ → Type 0
HoldsFile s vs bytes =
    (properties : List Property) × (text : List ℕ) × (front : List ℕ) × (sync : List ℕ) × (rest : List ℕ)
    × AreProperties properties front × (last_under schema_key None properties ≡ Some text) × (schema_of text ≡ Ok s)
    × IsUncompressed (last_under codec_key None properties)
    × (length sync ≡ 16) × Holds s sync vs rest × (bytes ≡ magic ++ (front ++ (sync ++ rest)))
