-- The bytes that a writer gives a value: numbers in the fewest groups, arrays and maps in one block of a positive
-- count. Avro 1.11.1 specification, 'Binary Encoding', 'Primitive Types' and 'Complex Types'.
use Rattle.std.specs.Prelude.{ℕ, zero, suc, ◌+◌, ◌*◌, ◌/◌, ◌%◌, Bool, ℤ, pos, negsuc, List, [], ◌∷◌, ◌++◌, length}
use Rattle.std.specs.Prelude.{nat_lt, if◌then◌else◌}
use Rattle.std.specs.Ordering.{is_lt, nat_cmp}
use Rattle.std.specs.Cmp.Lexicographic.{slice_cmp}
use Rattle.contract_words.specs.Sorting.{sorted}
use Rattle.avro_file.specs.Value.{Value, nothing, truth, small, whole, single, twice, symbol, text, run, raw, fields}
use Rattle.avro_file.specs.Value.{items, entries, chosen, Values, no_values, value, values_of, Entries, no_entries}
use Rattle.avro_file.specs.Value.{entry}
use Rattle.avro_file.specs.Spelling.{bit, values_len, entries_len}
use Rattle.avro_file.specs.Header.{Property, schema_key, codec_key}
use Rattle.avro_file.specs.Files.{magic, null_codec}

-- groups of seven bits, lowest first, so many at most
unfoldable pub groups_of : ℕ → ℕ → List ℕ
groups_of zero n = []
groups_of (suc turns) n = if nat_lt n 128 then n ∷ [] else (n % 128 + 128) ∷ groups_of turns (n / 128)

-- 0, -1, 1, -2, 2 .. as 0, 1, 2, 3, 4 ..
abbrev pub unsigned_of : ℤ → ℕ
unsigned_of (pos n) = 2 * n
unsigned_of (negsuc n) = 2 * n + 1

abbrev pub long_bytes : ℤ → List ℕ
long_bytes z = groups_of 10 (unsigned_of z)

-- a length, and that many bytes
abbrev pub run_bytes : List ℕ → List ℕ
run_bytes s = long_bytes (pos (length s)) ++ s

-- one block of so many items, and the empty one that ends them
abbrev pub block_bytes : ℕ → List ℕ → List ℕ
block_bytes zero body = 0 ∷ []
block_bytes (suc n) body = long_bytes (pos (suc n)) ++ (body ++ 0 ∷ [])

unfoldable mutual
  pub written : Value → List ℕ
  written nothing = []
  written (truth b) = bit b ∷ []
  written (small z) = long_bytes z
  written (whole z) = long_bytes z
  written (single s) = s
  written (twice s) = s
  written (text s) = run_bytes s
  written (run s) = run_bytes s
  written (raw s) = s
  written (symbol k) = long_bytes (pos k)
  written (fields vs) = all_written vs
  written (items vs) = block_bytes (values_len vs) (all_written vs)
  written (entries es) = block_bytes (entries_len es) (entries_written es)
  written (chosen n v) = long_bytes (pos n) ++ written v

  pub all_written : Values → List ℕ
  all_written no_values = []
  all_written (value v vs) = written v ++ all_written vs

  pub entries_written : Entries → List ℕ
  entries_written no_entries = []
  entries_written (entry k v es) = (run_bytes k ++ written v) ++ entries_written es

-- ---- metadata

abbrev pub properties_written : List Property → List ℕ
properties_written [] = []
properties_written (p ∷ ps) = (run_bytes p.0 ++ run_bytes p.1) ++ properties_written ps

-- by the bytes of their keys
abbrev pub key_before : Property → Property → Bool
key_before p q = is_lt (slice_cmp nat_cmp p.0 q.0)

-- the metadata of a file of this schema, with what else it has; equal keys as they stood
abbrev pub in_order : List ℕ → List Property → List Property
in_order schema ps = sorted key_before (ps ++ (codec_key, null_codec) ∷ (schema_key, schema) ∷ [])

-- ---- files

-- the magic number, the metadata and the marker
abbrev pub header_bytes : List Property → List ℕ → List ℕ
header_bytes ps sync = magic ++ (block_bytes (length ps) (properties_written ps) ++ sync)

-- all data in one block: how many, the length of their bytes, these, and the marker; where there are none, no block
abbrev pub blocks_bytes : List ℕ → List Value → List ℕ
blocks_bytes sync [] = []
blocks_bytes sync (v ∷ vs) =
    long_bytes (pos (length (v ∷ vs))) ++ (run_bytes (all_written (values_of (v ∷ vs))) ++ sync)

-- the bytes of a file with these metadata, this marker and these data
unfoldable pub file_bytes : List Property → List ℕ → List Value → List ℕ
file_bytes ps sync vs = header_bytes ps sync ++ blocks_bytes sync vs
