-- Which data a file's blocks hold.
-- Avro 1.11.1 specification, 'Object Container Files': file data blocks.
use Rattle.std.specs.Prelude.{◌≡◌, ℕ, zero, suc, ◌≤◌, pos, List, [], ◌++◌, length}
use Rattle.std.specs.List.{AllByRecursion}
use Rattle.avro_file_parts.specs.Number.{IsLong}
use Rattle.avro_schema.specs.Tree.{Tree}
use Rattle.avro_file.specs.Value.{Value}
use Rattle.avro_file.specs.Spelling.{AreJoined, Spells, item_count}
use Rattle.avro_file.specs.Blocks.{max_items}

-- so many blocks: each is the count of its objects, the length of their joined spellings, these, and the marker
abbrev pub HoldsBlocks : Tree → List ℕ → ℕ → List Value → List ℕ → Type 0
HoldsBlocks s sync zero vs bytes = (vs ≡ []) × (bytes ≡ [])
HoldsBlocks s sync (suc blocks) vs bytes =
    (here : List Value) × (after : List Value) × (count : List ℕ) × (size : List ℕ) × (body : List ℕ) × (rest : List ℕ)
    × IsLong count (pos (length here)) × IsLong size (pos (length body)) × AreJoined (Spells s) here body
    × HoldsBlocks s sync blocks after rest × (vs ≡ here ++ after)
    × (bytes ≡ count ++ (size ++ (body ++ (sync ++ rest))))

abbrev pub Holds : Tree → List ℕ → List Value → List ℕ → Type 0
Holds s sync vs bytes = (blocks : ℕ) × HoldsBlocks s sync blocks vs bytes

-- no object has more items than are read
abbrev pub AreWithinLimits : List Value → Type 0
AreWithinLimits vs = AllByRecursion (λ v. item_count v ≤ max_items) vs
