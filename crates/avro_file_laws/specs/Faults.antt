-- Where a file is at fault, and how: everything before the first part that cannot be read is spelled, and the bytes
-- behind hold no such part.
-- Avro 1.11.1 specification, 'Object Container Files'. Which faults there are is the product's own.
use Rattle.std.specs.Prelude.{◌≡◌, ◌≢◌, ℕ, ◌+◌, ◌<◌, ◌≤◌, pos, List, [], ◌++◌, length, Some, None, Err, ◌⊎◌}
use Rattle.avro_schema.specs.declared.fault.SchemaFault.{SchemaFault}
use Rattle.avro_schema.specs.Tree.{Tree}
use Rattle.avro_schema.specs.Texts.{schema_of}
use Rattle.avro_file_parts.specs.Number.{IsLong}
use Rattle.avro_file.specs.declared.fault.AvroFault.{AvroFault}
use Rattle.avro_file.specs.declared.fault.AvroFault.TheVariants.{NotAvro, Codec, Truncated, BlockSize, Schema}
use Rattle.avro_file.specs.Value.{Value}
use Rattle.avro_file.specs.Spelling.{AreJoined, Spells}
use Rattle.avro_file.specs.Blocks.{max_items}
use Rattle.avro_file.specs.Holding.{Holds, AreWithinLimits}
use Rattle.avro_file.specs.Header.{Property, schema_key, codec_key, last_under, IsProperty, AreProperties}
use Rattle.avro_file.specs.Files.{magic, null_codec, IsUncompressed}
use Rattle.avro_file.specs.Writers.{IsHeader}
use Rattle.avro_file_laws.specs.Parts.{Part, a_long, some_bytes, a_block_number, the_marker, EndsIn, IsWrong}
use Rattle.avro_file_laws.specs.Coming.{Coming, ComesInRun, ComesInEntry, ComesInBlocks, Comes}

-- These bytes, which begin at the offset, are at fault: behind some of them comes a part at which the bytes end, and
-- `Truncated` is told with the offset of its first byte; or what stands there is no such part.
abbrev pub IsAtFault : Coming → ℕ → List ℕ → AvroFault → Type 0
IsAtFault Comes offset bytes f =
    (items : ℕ) × (part : Part) × (front : List ℕ) × (rest : List ℕ) × Comes items front part
    × ((EndsIn part rest × (f ≡ Truncated (offset + length front))) ⊎ IsWrong items part rest f)
    × (bytes ≡ front ++ rest)

-- ---- the header

-- a key and the bytes under it
abbrev pub ComesInProperty : Coming
ComesInProperty = ComesInEntry (ComesInRun some_bytes)

-- in the metadata, or behind them in the marker
abbrev pub ComesInHeader : Coming
ComesInHeader items bytes part =
    ((blocks : ℕ) × ComesInBlocks a_long IsProperty (λ ps. 0) ComesInProperty blocks items bytes part)
    ⊎ ((ps : List Property) × AreProperties ps bytes × (part ≡ some_bytes 16))

-- what is at fault with these metadata: they name no schema, or a codec that compresses, or the schema is at fault
abbrev pub AreRefused : List Property → AvroFault → Type 0
AreRefused ps f =
    ((last_under schema_key None ps ≡ None) × (f ≡ NotAvro))
    ⊎ ((text : List ℕ) × (last_under schema_key None ps ≡ Some text)
    × (((name : List ℕ) × (last_under codec_key None ps ≡ Some name) × (name ≢ null_codec) × (f ≡ Codec name))
    ⊎ ((e : SchemaFault) × IsUncompressed (last_under codec_key None ps) × (schema_of text ≡ Err e) × (f ≡ Schema e))))

-- No file opens: its bytes begin otherwise, or a part of the header cannot be read, or the whole header is refused.
abbrev pub IsNoFile : List ℕ → AvroFault → Type 0
IsNoFile bytes f =
    (((rest : List ℕ) → bytes ≢ magic ++ rest) × (f ≡ NotAvro))
    ⊎ (((rest : List ℕ) × IsAtFault ComesInHeader 4 rest f × (bytes ≡ magic ++ rest))
    ⊎ ((ps : List Property) × (front : List ℕ) × (sync : List ℕ) × (rest : List ℕ) × AreProperties ps front
    × (length sync ≡ 16) × AreRefused ps f × (bytes ≡ magic ++ (front ++ (sync ++ rest)))))

-- ---- blocks

-- a block's count, size, content and marker
abbrev pub ComesInHead : List ℕ → Coming
ComesInHead sync items bytes part =
    ((bytes ≡ []) × (part ≡ a_block_number))
    ⊎ (((n : ℕ) × IsLong bytes (pos n) × (part ≡ a_block_number))
    ⊎ ((n : ℕ) × (len : ℕ) × (count : List ℕ) × (size : List ℕ) × IsLong count (pos n) × IsLong size (pos len)
    × (((bytes ≡ count ++ size) × (part ≡ some_bytes len))
    ⊎ ((content : List ℕ) × (length content ≡ len) × (bytes ≡ count ++ (size ++ content)) × (part ≡ the_marker sync)))))

-- An object is at fault, of which these bytes are left in its block: they end before a part does, or what stands there
-- is no such part. No more items were counted before it than an object may have.
abbrev pub IsObjectAtFault : Tree → List ℕ → AvroFault → Type 0
IsObjectAtFault s bytes f =
    (items : ℕ) × (part : Part) × (front : List ℕ) × (rest : List ℕ) × Comes s items front part × (items ≤ max_items)
    × ((EndsIn part rest × (f ≡ BlockSize)) ⊎ IsWrong items part rest f) × (bytes ≡ front ++ rest)

-- A whole block begins with these data, and behind them is at fault: an object that it counts, or bytes are left
-- behind all of them.
abbrev pub IsBlockAtFault : Tree → List ℕ → List Value → List ℕ → AvroFault → Type 0
IsBlockAtFault s sync vs bytes f =
    (count : ℕ) × (number : List ℕ) × (size : List ℕ) × (body : List ℕ) × (others : List ℕ) × (rest : List ℕ)
    × IsLong number (pos count) × IsLong size (pos (length (body ++ others))) × AreJoined (Spells s) vs body
    × (bytes ≡ number ++ (size ++ ((body ++ others) ++ (sync ++ rest))))
    × (((length vs < count) × IsObjectAtFault s others f)
    ⊎ ((length vs ≡ count) × (others ≢ []) × (f ≡ BlockSize)))

-- Behind whole blocks, which hold the first data, a block's head is at fault, or a block behind the other data.
abbrev pub FaultFollows : Tree → List Value → List ℕ → AvroFault → Type 0
FaultFollows s vs bytes f =
    (ps : List Property) × (sync : List ℕ) × (header : List ℕ) × (here : List Value) × (after : List Value)
    × (front : List ℕ) × (rest : List ℕ) × IsHeader ps s sync header × Holds s sync here front
    × AreWithinLimits vs × (vs ≡ here ++ after)
    × (((after ≡ []) × (rest ≢ []) × IsAtFault (ComesInHead sync) (length header + length front) rest f)
    ⊎ IsBlockAtFault s sync after rest f) × (bytes ≡ header ++ (front ++ rest))
