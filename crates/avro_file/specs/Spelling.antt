-- Which bytes spell a value under a schema.
-- Avro 1.11.1 specification, 'Binary Encoding', 'Primitive Types' and 'Complex Types'. Numbers may have more groups
-- than they need, and the byte size behind a negative count is not compared.
use Rattle.std.specs.Prelude.{◌≡◌, ℕ, zero, suc, ◌+◌, ◌<◌, ℤ, pos, negsuc, Bool, true, false, List, [], ◌∷◌, ◌++◌}
use Rattle.std.specs.Prelude.{length, nat_lt, ◌||◌, ◌⊎◌}
use Rattle.std.specs.Str.{IsUtf8}
use Rattle.avro_file_parts.specs.Number.{IsLong, IsInt}
use Rattle.avro_schema.specs.Tree.{Tree, null, boolean, int, long, float, double, symbols, octets, string, fixed}
use Rattle.avro_schema.specs.Tree.{structure, array, map, union, Fields, no_fields, field, Branches, no_branches}
use Rattle.avro_schema.specs.Tree.{branch}
use Rattle.avro_file.specs.Value.{Value, nothing, truth, small, whole, single, twice, symbol, text, run, raw, fields}
use Rattle.avro_file.specs.Value.{items, entries, chosen, Values, no_values, value, values_of, Entries, no_entries}
use Rattle.avro_file.specs.Value.{entry, Pair, entries_of}

-- a length, and that many bytes
abbrev pub IsRun : List ℕ → List ℕ → Type 0
IsRun s bytes = (front : List ℕ) × IsLong front (pos (length s)) × (bytes ≡ front ++ s)

abbrev pub bit : Bool → ℕ
bit false = 0
bit true = 1

-- values whose spellings, by Spells, are joined
abbrev pub AreJoined : {A : Type 0} → (A → List ℕ → Type 0) → List A → List ℕ → Type 0
AreJoined spells [] bytes = bytes ≡ []
AreJoined spells (v ∷ vs) bytes = (front : List ℕ) × (back : List ℕ) × spells v front × AreJoined spells vs back
    × (bytes ≡ front ++ back)

-- The count of a block. A negative one stands for its absolute value, and a size follows it that may be any.
abbrev pub IsCount : ℕ → List ℕ → Type 0
IsCount n bytes = IsLong bytes (pos n) ⊎ ((less : ℕ) × (n ≡ suc less) × (size : ℤ) × (front : List ℕ) × (back : List ℕ)
    × IsLong front (negsuc less) × IsLong back size × (bytes ≡ front ++ back))

-- a text and a value
abbrev pub IsEntry : (Value → List ℕ → Type 0) → Pair → List ℕ → Type 0
IsEntry spells e bytes = (front : List ℕ) × (back : List ℕ) × IsUtf8 e.0 × IsRun e.0 front × spells e.1 back
    × (bytes ≡ front ++ back)

-- so many blocks, none of them empty, and an empty one
abbrev pub AreBlocks : {A : Type 0} → (A → List ℕ → Type 0) → ℕ → List A → List ℕ → Type 0
AreBlocks spells zero vs bytes = (vs ≡ []) × IsLong bytes (pos 0)
AreBlocks {A} spells (suc blocks) vs bytes =
    (here : List A) × (after : List A) × (count : List ℕ) × (body : List ℕ) × (rest : List ℕ) × (0 < length here)
    × IsCount (length here) count × AreJoined spells here body × AreBlocks spells blocks after rest
    × (vs ≡ here ++ after) × (bytes ≡ count ++ (body ++ rest))

-- a branch's position, and a value of that branch
abbrev pub IsChosen : (ℕ → Value → List ℕ → Type 0) → Value → List ℕ → Type 0
IsChosen spells v bytes = (n : ℕ) × (w : Value) × (front : List ℕ) × (back : List ℕ) × (v ≡ chosen n w)
    × IsLong front (pos n) × spells n w back × (bytes ≡ front ++ back)

abbrev mutual
  pub Spells : Tree → Value → List ℕ → Type 0
  Spells null v bytes = (v ≡ nothing) × (bytes ≡ [])
  Spells boolean v bytes = (b : Bool) × (v ≡ truth b) × (bytes ≡ bit b ∷ [])
  Spells long v bytes = (z : ℤ) × (v ≡ whole z) × IsLong bytes z
  Spells int v bytes = (z : ℤ) × (v ≡ small z) × IsInt bytes z
  Spells float v bytes = (v ≡ single bytes) × (length bytes ≡ 4)
  Spells double v bytes = (v ≡ twice bytes) × (length bytes ≡ 8)
  Spells (symbols n) v bytes = (k : ℕ) × (v ≡ symbol k) × (k < n) × IsInt bytes (pos k)
  Spells (octets kind) v bytes = (s : List ℕ) × (v ≡ run s) × IsRun s bytes
  Spells string v bytes = (s : List ℕ) × (v ≡ text s) × IsUtf8 s × IsRun s bytes
  Spells (fixed n kind) v bytes = (v ≡ raw bytes) × (length bytes ≡ n)
  Spells (structure fs) v bytes = (vs : List Value) × (v ≡ fields (values_of vs)) × SpellsFields fs vs bytes
  Spells (array s id kind) v bytes = (vs : List Value) × (v ≡ items (values_of vs)) × (blocks : ℕ)
      × AreBlocks (Spells s) blocks vs bytes
  Spells (map s) v bytes = (es : List Pair) × (v ≡ entries (entries_of es)) × (blocks : ℕ)
      × AreBlocks (IsEntry (Spells s)) blocks es bytes
  Spells (union bs) v bytes = IsChosen (SpellsBranch bs) v bytes

  -- each field's value, joined
  pub SpellsFields : Fields → List Value → List ℕ → Type 0
  SpellsFields no_fields vs bytes = (vs ≡ []) × (bytes ≡ [])
  SpellsFields (field id s fs) vs bytes = (w : Value) × (ws : List Value) × (front : List ℕ) × (back : List ℕ)
      × (vs ≡ w ∷ ws) × Spells s w front × SpellsFields fs ws back × (bytes ≡ front ++ back)

  -- a value of the n-th branch
  pub SpellsBranch : Branches → ℕ → Value → List ℕ → Type 0
  SpellsBranch no_branches n v bytes = ⊥
  SpellsBranch (branch s bs) zero v bytes = Spells s v bytes
  SpellsBranch (branch s bs) (suc n) v bytes = SpellsBranch bs n v bytes

-- Whether each value of the schema takes a byte at least. A null takes none, and a fixed as many as its size says.
unfoldable mutual
  pub takes_bytes : Tree → Bool
  takes_bytes null = false
  takes_bytes (fixed n kind) = nat_lt 0 n
  takes_bytes (structure fs) = some_takes_bytes fs
  takes_bytes s = true

  -- a record takes a byte where one of its fields does
  pub some_takes_bytes : Fields → Bool
  some_takes_bytes no_fields = false
  some_takes_bytes (field id s fs) = takes_bytes s || some_takes_bytes fs

-- how many items the arrays and maps of a value hold, also inside one another
abbrev mutual
  pub item_count : Value → ℕ
  item_count nothing = 0
  item_count (truth b) = 0
  item_count (small z) = 0
  item_count (whole z) = 0
  item_count (single s) = 0
  item_count (twice s) = 0
  item_count (symbol k) = 0
  item_count (text s) = 0
  item_count (run s) = 0
  item_count (raw s) = 0
  item_count (fields vs) = item_counts vs
  item_count (items vs) = values_len vs + item_counts vs
  item_count (entries es) = entries_len es + entry_counts es
  item_count (chosen n v) = item_count v

  pub item_counts : Values → ℕ
  item_counts no_values = 0
  item_counts (value v vs) = item_count v + item_counts vs

  pub values_len : Values → ℕ
  values_len no_values = 0
  values_len (value v vs) = suc (values_len vs)

  pub entry_counts : Entries → ℕ
  entry_counts no_entries = 0
  entry_counts (entry k v es) = item_count v + entry_counts es

  pub entries_len : Entries → ℕ
  entries_len no_entries = 0
  entries_len (entry k v es) = suc (entries_len es)
