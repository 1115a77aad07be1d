-- Reading the blocks of a file from left to right, with the data before the first fault.
-- Avro 1.11.1 specification, 'Object Container Files': a file data block is a count of objects, a size in bytes,
-- the serialized objects and the file's 16-byte sync marker.
use Rattle.std.specs.Prelude.{◌≡◌, ◌≢◌, ℕ, zero, suc, ◌-◌, List, [], ◌∷◌, length, Option, Some, None}
use Rattle.std.specs.Prelude.{Result, Ok, Err}
use Rattle.contract_words.specs.Outcome.{◌>>=◌}
use Rattle.avro_schema.specs.Tree.{Tree}
use Rattle.avro_file_parts.specs.declared.refusal.Refusal.{Refusal}
use Rattle.avro_file_parts.specs.declared.refusal.Refusal.TheVariants as refusal
use Rattle.avro_file_parts.specs.declared.refusal.Refusal.TheVariants.{BadSync, BlockSize}
use Rattle.avro_file.specs.declared.fault.AvroFault.{AvroFault}
use Rattle.avro_file.specs.declared.fault.AvroFault.TheVariants as fault
use Rattle.avro_file.specs.Value.{Value}
use Rattle.avro_file_parts.specs.Heads.{BlockHead, head_at}
use Rattle.avro_file.specs.Reading.{datum_at}

-- what a refusal is called, in a file of so many bytes
abbrev pub fault_of : ℕ → Refusal → AvroFault
fault_of total (refusal.Short left) = fault.Truncated (total - left)
fault_of total refusal.BadNumber = fault.BadNumber
fault_of total refusal.BadUnion = fault.BadUnion
fault_of total refusal.BadUtf8 = fault.BadUtf8
fault_of total refusal.BadBoolean = fault.BadBoolean
fault_of total refusal.TooManyItems = fault.TooManyItems
fault_of total refusal.BadSync = fault.BadSync
fault_of total refusal.BlockSize = fault.BlockSize
fault_of total refusal.Memory = fault.Memory

-- a refusal that is met in an object, which may not pass its block's end
abbrev pub inside : Refusal → Refusal
inside (refusal.Short left) = BlockSize
inside refusal.BadNumber = refusal.BadNumber
inside refusal.BadUnion = refusal.BadUnion
inside refusal.BadUtf8 = refusal.BadUtf8
inside refusal.BadBoolean = refusal.BadBoolean
inside refusal.TooManyItems = refusal.TooManyItems
inside refusal.BadSync = BadSync
inside refusal.BlockSize = BlockSize
inside refusal.Memory = refusal.Memory

-- the same reading, with its refusal seen otherwise
abbrev pub refused : {A E F : Type 0} → (E → F) → Result A E → Result A F
refused f (Ok x) = Ok x
refused f (Err e) = Err (f e)

-- the most items of one object's arrays and maps
abbrev pub max_items : ℕ
max_items = 16777216

unfoldable pub object_at : Tree → List ℕ → Result (Value × List ℕ) Refusal
object_at s block = do
  x ← refused inside (datum_at s (record { bytes = block; left = max_items }))
  Ok (x.0, x.1.bytes)

-- the data that come, and the fault that ends them, or none at the end of the file
pub record Run : Type 0 where
  pub found : List Value
  pub ending : Option AvroFault

abbrev pub at_end : Run
at_end = record { found = []; ending = None }

abbrev pub stopped : AvroFault → Run
stopped f = record { found = []; ending = Some f }

abbrev pub preceded : Value → Run → Run
preceded v r = record { found = v ∷ r.found; ending = r.ending }

abbrev pub object_then : ℕ → (List ℕ → Run) → Result (Value × List ℕ) Refusal → Run
object_then total others (Ok x) = preceded x.0 (others x.1)
object_then total others (Err e) = stopped (fault_of total e)

-- so many objects, which fill their block, and what comes after the block
unfoldable pub objects_run : Tree → ℕ → Run → ℕ → List ℕ → Run
objects_run s total after zero [] = after
objects_run s total after zero (b ∷ block) = stopped fault.BlockSize
objects_run s total after (suc n) block = object_then total (objects_run s total after n) (object_at s block)

abbrev pub head_then : Tree → ℕ → (List ℕ → Run) → Result BlockHead Refusal → Run
head_then s total others (Ok h) = objects_run s total (others h.rest) h.count h.content
head_then s total others (Err e) = stopped (fault_of total e)

-- The number bounds the blocks. As many as there are bytes are always enough.
unfoldable pub blocks_run : Tree → List ℕ → ℕ → ℕ → List ℕ → Run
blocks_run s sync total turns [] = at_end
blocks_run s sync total zero (b ∷ bytes) = stopped fault.BlockSize
blocks_run s sync total (suc turns) (b ∷ bytes) =
    head_then s total (blocks_run s sync total turns) (head_at sync (b ∷ bytes))

-- where a reader of objects stands: so many are still in the block, then come its bytes, then other blocks
pub record FilePosition : Type 0 where
  pub count : ℕ
  pub block : List ℕ
  pub bytes : List ℕ

unfoldable pub run_from : Tree → List ℕ → ℕ → FilePosition → Run
run_from s sync total p = objects_run s total (blocks_run s sync total (length p.bytes) p.bytes) p.count p.block

-- an object is read at the front of these bytes
abbrev pub StandsAt : Tree → List ℕ → Value → Type 0
StandsAt s block v = (rest : List ℕ) × (object_at s block ≡ Ok (v, rest))

-- Over the blocks to the next object, whatever its type: where a reader then stands, or how the run ends.
abbrev pub Enters : {X : Type 0} → (X → FilePosition) → List ℕ → FilePosition → Result (Option X) Refusal → Type 0
Enters see sync p (Ok None) = (s : Tree) (total : ℕ) → run_from s sync total p ≡ at_end
Enters see sync p (Ok (Some x)) = ((see x).count ≢ 0)
    × ((s : Tree) (total : ℕ) → run_from s sync total p ≡ run_from s sync total (see x))
Enters see sync p (Err e) = (s : Tree) (total : ℕ) → run_from s sync total p ≡ stopped (fault_of total e)

-- one step of the run, whatever the length of the file: the next of the data, or how it ends
abbrev pub Steps : {X : Type 0} → (X → List ℕ × FilePosition) → Tree → List ℕ → FilePosition
    → Result (Option X) Refusal → Type 0
Steps see s sync p (Ok None) = (total : ℕ) → run_from s sync total p ≡ at_end
Steps see s sync p (Ok (Some x)) = (v : Value) × StandsAt s (see x).0 v
    × ((total : ℕ) → run_from s sync total p ≡ preceded v (run_from s sync total (see x).1))
Steps see s sync p (Err e) = (total : ℕ) → run_from s sync total p ≡ stopped (fault_of total e)
