-- The parts of a file, each of which is read or refused as one, and how bytes do not hold one.
-- Avro 1.11.1 specification, 'Binary Encoding', 'Primitive Types' and 'Complex Types'. Which fault is told of bytes
-- that hold no part is the product's own.
use Rattle.std.specs.Prelude.{◌≡◌, ◌≢◌, ℕ, ◌+◌, ◌^◌, ◌<◌, ◌≤◌, ℤ, pos, List, [], ◌∷◌, ◌++◌, length, ◌⊎◌}
use Rattle.std.specs.List.{AllByRecursion}
use Rattle.std.specs.Str.{IsUtf8}
use Rattle.avro_file_parts.specs.Number.{IsGroups, IsLong, IsInt}
use Rattle.avro_file_parts.specs.Parts.{magnitude}
use Rattle.avro_file.specs.declared.fault.AvroFault.{AvroFault}
use Rattle.avro_file.specs.declared.fault.AvroFault.TheVariants.{BadNumber, BadUnion, BadUtf8, BadSync, BlockSize}
use Rattle.avro_file.specs.declared.fault.AvroFault.TheVariants.{BadBoolean, TooManyItems}
use Rattle.avro_file.specs.Blocks.{max_items}

pub data Part : Type 0 where
  -- a whole number of 64 bits, and one of 32 bits
  a_long : Part
  an_int : Part
  -- the position of one of so many symbols, and of one of so many branches
  a_symbol : ℕ → Part
  a_branch : ℕ → Part
  -- the count of a block of an object's items
  a_count : Part
  -- the length of a run of bytes
  a_length : Part
  -- so many bytes, and so many bytes that are a text
  some_bytes : ℕ → Part
  a_text : ℕ → Part
  -- a truth value
  a_truth : Part
  -- the count of a block's objects, or its size
  a_block_number : Part
  -- the file's marker
  the_marker : List ℕ → Part

-- each of these bytes of a number is followed by another: the last byte alone is below 128
abbrev pub GoesOn : List ℕ → Type 0
GoesOn bytes = AllByRecursion (λ b. 128 ≤ b) bytes

-- a number begins here, and the end of the bytes comes before its last byte
abbrev pub IsOpenNumber : List ℕ → Type 0
IsOpenNumber bytes = GoesOn bytes × (length bytes < 10)

-- ten bytes go on, or a number of at most ten bytes is not below the limit
abbrev pub IsNoNumber : ℕ → List ℕ → Type 0
IsNoNumber limit bytes = (front : List ℕ) × (rest : List ℕ) × ((GoesOn front × (length front ≡ 10)) ⊎ ((n : ℕ) ×
    IsGroups front n × (length front ≤ 10) × (limit ≤ n))) × (bytes ≡ front ++ rest)

-- a whole number stands first in these bytes, and it is not right
abbrev pub StandsWrong : (List ℕ → ℤ → Type 0) → (ℤ → Type 0) → List ℕ → Type 0
StandsWrong IsNumber IsRight bytes = (z : ℤ) × (front : List ℕ) × (rest : List ℕ) × IsNumber front z
    × (IsRight z → ⊥) × (bytes ≡ front ++ rest)

abbrev pub IsNatural : ℤ → Type 0
IsNatural z = (n : ℕ) × (z ≡ pos n)

-- a position among so many
abbrev pub IsPosition : ℕ → ℤ → Type 0
IsPosition count z = (n : ℕ) × (z ≡ pos n) × (n < count)

-- with these items an object has no more than are read, so many of which were counted before
abbrev pub IsFew : ℕ → ℤ → Type 0
IsFew before z = before + magnitude z ≤ max_items

-- the bytes end before the part does
abbrev pub EndsIn : Part → List ℕ → Type 0
EndsIn (some_bytes n) bytes = length bytes < n
EndsIn (a_text n) bytes = length bytes < n
EndsIn (the_marker sync) bytes = length bytes < 16
EndsIn a_truth bytes = bytes ≡ []
EndsIn a_long bytes = IsOpenNumber bytes
EndsIn an_int bytes = IsOpenNumber bytes
EndsIn (a_symbol n) bytes = IsOpenNumber bytes
EndsIn (a_branch n) bytes = IsOpenNumber bytes
EndsIn a_count bytes = IsOpenNumber bytes
EndsIn a_length bytes = IsOpenNumber bytes
EndsIn a_block_number bytes = IsOpenNumber bytes

-- What stands at the front of the bytes is not such a part, of which this fault is told. So many items of an object
-- were counted before.
abbrev pub IsWrong : ℕ → Part → List ℕ → AvroFault → Type 0
IsWrong items a_long bytes f = (f ≡ BadNumber) × IsNoNumber (2 ^ 64) bytes
IsWrong items an_int bytes f = (f ≡ BadNumber) × IsNoNumber (2 ^ 32) bytes
IsWrong items (a_symbol n) bytes f = (f ≡ BadNumber) × (IsNoNumber (2 ^ 32) bytes ⊎ StandsWrong IsInt (IsPosition n)
    bytes)
IsWrong items (a_branch n) bytes f = ((f ≡ BadNumber) × IsNoNumber (2 ^ 64) bytes)
    ⊎ ((f ≡ BadUnion) × StandsWrong IsLong (IsPosition n) bytes)
IsWrong items a_count bytes f = ((f ≡ BadNumber) × IsNoNumber (2 ^ 64) bytes)
    ⊎ ((f ≡ TooManyItems) × StandsWrong IsLong (IsFew items) bytes)
IsWrong items a_length bytes f = (f ≡ BadNumber) × (IsNoNumber (2 ^ 64) bytes ⊎ StandsWrong IsLong IsNatural bytes)
IsWrong items (some_bytes n) bytes f = ⊥
IsWrong items (a_text n) bytes f = (f ≡ BadUtf8) × (front : List ℕ) × (rest : List ℕ) × (length front ≡ n)
    × (IsUtf8 front → ⊥) × (bytes ≡ front ++ rest)
IsWrong items a_truth bytes f = (f ≡ BadBoolean) × (b : ℕ) × (rest : List ℕ) × (2 ≤ b) × (bytes ≡ b ∷ rest)
IsWrong items a_block_number bytes f = ((f ≡ BadNumber) × IsNoNumber (2 ^ 64) bytes)
    ⊎ ((f ≡ BlockSize) × StandsWrong IsLong IsNatural bytes)
IsWrong items (the_marker sync) bytes f = (f ≡ BadSync) × (front : List ℕ) × (rest : List ℕ) × (length front ≡ 16)
    × (front ≢ sync) × (bytes ≡ front ++ rest)
