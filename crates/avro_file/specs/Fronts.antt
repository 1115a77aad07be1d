-- Files that do not end well: the data before a fault, and what is left of a file whose end was cut off.
-- Avro 1.11.1 specification, 'Object Container Files': file data blocks.
use Rattle.std.specs.Prelude.{◌≡◌, ℕ, ◌<◌, ◌≤◌, pos, List, [], ◌++◌, length, Some, Ok, Err, ◌⊎◌}
use Rattle.avro_schema.specs.Tree.{Tree}
use Rattle.avro_file.specs.declared.fault.AvroFault.TheVariants.{NotAvro, Truncated}
use Rattle.avro_file_parts.specs.Number.{IsLong}
use Rattle.avro_file.specs.Value.{Value}
use Rattle.avro_file.specs.Spelling.{AreJoined, Spells}
use Rattle.avro_file.specs.Holding.{Holds}
use Rattle.avro_file.specs.Header.{Property}
use Rattle.avro_file.specs.Ahead.{running}
use Rattle.avro_file.specs.Files.{opened_at, HoldsFile}
use Rattle.avro_file.specs.Writers.{IsHeader}

-- A block stands at the front, its size and marker right, and its content begins with these data: no more than it
-- counts.
abbrev pub BlockBegins : Tree → List ℕ → List Value → List ℕ → Type 0
BlockBegins s sync vs bytes =
    (count : ℕ) × (number : List ℕ) × (size : List ℕ) × (body : List ℕ) × (others : List ℕ) × (rest : List ℕ)
    × IsLong number (pos count) × (length vs ≤ count) × IsLong size (pos (length (body ++ others)))
    × AreJoined (Spells s) vs body
    × (bytes ≡ number ++ (size ++ ((body ++ others) ++ (sync ++ rest))))

-- the bytes hold these data in whole blocks and in the front of the next one
abbrev pub FrontHolds : Tree → List ℕ → List Value → List ℕ → Type 0
FrontHolds s sync vs bytes =
    (here : List Value) × (after : List Value) × (front : List ℕ) × (rest : List ℕ) × Holds s sync here front
    × ((after ≡ []) ⊎ BlockBegins s sync after rest) × (vs ≡ here ++ after) × (bytes ≡ front ++ rest)

-- a front of the file holds these data
abbrev pub FrontHoldsFile : Tree → List Value → List ℕ → Type 0
FrontHoldsFile s vs bytes =
    (ps : List Property) × (sync : List ℕ) × (header : List ℕ) × (rest : List ℕ) × IsHeader ps s sync header
    × FrontHolds s sync vs rest × (bytes ≡ header ++ rest)

-- ---- files whose end was cut off

-- the header is refused, in a number, run of bytes or marker that begins within the bytes
abbrev pub HeaderEnds : List ℕ → Type 0
HeaderEnds bytes = (offset : ℕ) × (offset ≤ length bytes) × (opened_at bytes ≡ Err (Truncated offset))

-- these data come, and then a block is refused, of which a number, the content or the marker begins within the bytes
abbrev pub BlockEnds : Tree → List Value → List ℕ → Type 0
BlockEnds s vs bytes = (offset : ℕ) × (offset ≤ length bytes)
    × (opened_at bytes ≡ Ok (record { schema = s; ahead = running vs (Some (Truncated offset)) }))

-- What is left of a file that held these data: it does not begin as one, or is refused as cut, or first gives a front
-- of the data, or holds a front of them.
abbrev pub IsCutFile : Tree → List Value → List ℕ → Type 0
IsCutFile s vs bytes =
    ((length bytes < 4) × (opened_at bytes ≡ Err NotAvro))
    ⊎ (HeaderEnds bytes ⊎ ((front : List Value) × (back : List Value) × (vs ≡ front ++ back)
    × (BlockEnds s front bytes ⊎ HoldsFile s front bytes)))
