-- The head of a block: how many objects it has, its bytes, and the file's marker behind them.
-- Avro 1.11.1 specification, 'Object Container Files': a file data block is a count of objects, a size in bytes,
-- the serialized objects and the file's 16-byte sync marker.
use Rattle.std.specs.Prelude.{ℕ, ℤ, pos, negsuc, List, Result, Ok, Err, if◌then◌else◌}
use Rattle.std.specs.Str.{bytes_eq}
use Rattle.contract_words.specs.Outcome.{◌>>=◌}
use Rattle.avro_file_parts.specs.declared.refusal.Refusal.{Refusal}
use Rattle.avro_file_parts.specs.declared.refusal.Refusal.TheVariants.{BadSync, BlockSize}
use Rattle.avro_file_parts.specs.declared.head.Head.{Head}
use Rattle.avro_file_parts.specs.Number.{long_at}
use Rattle.avro_file_parts.specs.Parts.{run_at}

pub record BlockHead : Type 0 where
  pub count : ℕ
  pub content : List ℕ
  pub rest : List ℕ

-- a number that may not be negative
abbrev pub natural_of : ℤ → Result ℕ Refusal
natural_of (pos n) = Ok n
natural_of (negsuc n) = Err BlockSize

-- A block's count, size, content and marker. Each is checked before the next is read.
unfoldable pub head_at : List ℕ → List ℕ → Result BlockHead Refusal
head_at sync bytes = do
  count ← long_at bytes
  n ← natural_of count.0
  size ← long_at count.1
  len ← natural_of size.0
  content ← run_at len size.1
  marker ← run_at 16 content.1
  if bytes_eq marker.0 sync then Ok (record { count = n; content = content.0; rest = marker.1 }) else Err BadSync

-- what is read of a head
abbrev pub head_of_block : Head → BlockHead
head_of_block h = record { count = h.count; content = h.content.now; rest = h.rest.now }
