-- Which part of a value comes next behind bytes that spell what stands before it.
-- Avro 1.11.1 specification, 'Binary Encoding', 'Complex Types' (records, enums, arrays, maps, unions, fixed).
use Rattle.std.specs.Prelude.{◌≡◌, ℕ, zero, suc, ◌+◌, ◌<◌, pos, negsuc, List, [], ◌++◌, length, ◌⊎◌}
use Rattle.std.specs.Str.{IsUtf8}
use Rattle.avro_schema.specs.Tree.{Tree, null, boolean, int, long, float, double, symbols, octets, string, fixed}
use Rattle.avro_schema.specs.Tree.{structure, array, map, union, Fields, no_fields, field, Branches, no_branches}
use Rattle.avro_schema.specs.Tree.{branch}
use Rattle.avro_file_parts.specs.Number.{IsLong}
use Rattle.avro_file.specs.Value.{Value, values_of, entries_of}
use Rattle.avro_file.specs.Spelling.{IsRun, IsCount, AreJoined, IsEntry, Spells, item_count, item_counts, entry_counts}
use Rattle.avro_file_laws.specs.Parts.{Part, a_long, an_int, a_symbol, a_branch, a_count, a_length, some_bytes, a_text}
use Rattle.avro_file_laws.specs.Parts.{a_truth}

-- So many items are counted in these bytes, behind which this part comes.
abbrev pub Coming : Type 1
Coming = ℕ → List ℕ → Part → Type 0

-- nothing stands before it
abbrev pub IsFirst : Part → Coming
IsFirst first items bytes part = (items ≡ 0) × (bytes ≡ []) × (part ≡ first)

-- a length, and then so many bytes
abbrev pub ComesInRun : (ℕ → Part) → Coming
ComesInRun content items bytes part =
    IsFirst a_length items bytes part
    ⊎ ((n : ℕ) × (items ≡ 0) × IsLong bytes (pos n) × (part ≡ content n))

-- a text, and then another value
abbrev pub ComesInEntry : Coming → Coming
ComesInEntry Comes items bytes part =
    ComesInRun a_text items bytes part
    ⊎ ((key : List ℕ) × (front : List ℕ) × (back : List ℕ) × IsUtf8 key × IsRun key front × Comes items back part
    × (bytes ≡ front ++ back))

-- A count of items: a number, and behind a negative one a size. `first` is the kind of part that the number is.
abbrev pub ComesInCount : Part → Coming
ComesInCount first items bytes part =
    IsFirst first items bytes part
    ⊎ ((less : ℕ) × (items ≡ suc less) × IsLong bytes (negsuc less) × (part ≡ a_long))

-- in the values of a block, so many of which are counted: behind fewer of them
abbrev pub ComesInItems : {A : Type 0} → (A → List ℕ → Type 0) → (List A → ℕ) → Coming → ℕ → Coming
ComesInItems {A} spells inner Comes count items bytes part =
    (vs : List A) × (more : ℕ) × (front : List ℕ) × (back : List ℕ) × (length vs < count) × AreJoined spells vs front
    × Comes more back part × (items ≡ inner vs + more) × (bytes ≡ front ++ back)

-- Behind so many whole blocks, none of them empty. `inner` is how many items values have inside.
abbrev pub ComesInBlocks : {A : Type 0} → Part → (A → List ℕ → Type 0) → (List A → ℕ) → Coming → ℕ → Coming
ComesInBlocks first spells inner Comes zero items bytes part =
    ComesInCount first items bytes part
    ⊎ ((count : ℕ) × (more : ℕ) × (front : List ℕ) × (back : List ℕ) × IsCount count front
    × ComesInItems spells inner Comes count more back part × (items ≡ count + more) × (bytes ≡ front ++ back))
ComesInBlocks {A} first spells inner Comes (suc blocks) items bytes part =
    (here : List A) × (more : ℕ) × (count : List ℕ) × (body : List ℕ) × (rest : List ℕ) × (0 < length here)
    × IsCount (length here) count × AreJoined spells here body
    × ComesInBlocks first spells inner Comes blocks more rest part × (items ≡ (length here + inner here) + more)
    × (bytes ≡ count ++ (body ++ rest))

-- how many branches a union has
abbrev pub branch_count : Branches → ℕ
branch_count no_branches = 0
branch_count (branch s bs) = suc (branch_count bs)

-- a branch's position, and then its value
abbrev pub ComesInUnion : Part → (ℕ → Coming) → Coming
ComesInUnion first Comes items bytes part =
    IsFirst first items bytes part
    ⊎ ((n : ℕ) × (front : List ℕ) × (back : List ℕ) × IsLong front (pos n) × Comes n items back part
    × (bytes ≡ front ++ back))

abbrev mutual
  pub Comes : Tree → Coming
  Comes null items bytes part = ⊥
  Comes boolean items bytes part = IsFirst a_truth items bytes part
  Comes long items bytes part = IsFirst a_long items bytes part
  Comes int items bytes part = IsFirst an_int items bytes part
  Comes float items bytes part = IsFirst (some_bytes 4) items bytes part
  Comes double items bytes part = IsFirst (some_bytes 8) items bytes part
  Comes (symbols n) items bytes part = IsFirst (a_symbol n) items bytes part
  Comes (octets kind) items bytes part = ComesInRun some_bytes items bytes part
  Comes string items bytes part = ComesInRun a_text items bytes part
  Comes (fixed n kind) items bytes part = IsFirst (some_bytes n) items bytes part
  Comes (structure fs) items bytes part = ComesInFields fs items bytes part
  Comes (array s id kind) items bytes part = (blocks : ℕ) × ComesInBlocks a_count (Spells s)
      (λ vs. item_counts (values_of vs)) (Comes s) blocks items bytes part
  Comes (map s) items bytes part = (blocks : ℕ) × ComesInBlocks a_count (IsEntry (Spells s))
      (λ es. entry_counts (entries_of es)) (ComesInEntry (Comes s)) blocks items bytes part
  Comes (union bs) items bytes part = ComesInUnion (a_branch (branch_count bs)) (ComesInBranch bs) items bytes part

  -- in the first field, or behind its value in the others
  pub ComesInFields : Fields → Coming
  ComesInFields no_fields items bytes part = ⊥
  ComesInFields (field id s fs) items bytes part = Comes s items bytes part
      ⊎ ((v : Value) × (more : ℕ) × (front : List ℕ) × (back : List ℕ) × Spells s v front
      × ComesInFields fs more back part × (items ≡ item_count v + more) × (bytes ≡ front ++ back))

  -- in a value of the n-th branch
  pub ComesInBranch : Branches → ℕ → Coming
  ComesInBranch no_branches n items bytes part = ⊥
  ComesInBranch (branch s bs) zero items bytes part = Comes s items bytes part
  ComesInBranch (branch s bs) (suc n) items bytes part = ComesInBranch bs n items bytes part
