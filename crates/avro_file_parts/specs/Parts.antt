-- Reading what needs no schema from left to right, with the first fault that is met: truth values, runs of bytes,
-- texts, positions, counts of items. Avro 1.11.1 specification, 'Binary Encoding', 'Primitive Types' and 'Complex
-- Types'.
use Rattle.std.specs.Prelude.{ℕ, zero, suc, ◌-◌, ℤ, pos, negsuc, List, [], ◌∷◌, length, take, drop, Bool, true}
use Rattle.std.specs.Prelude.{false, Result, Ok, Err, nat_lt, if◌then◌else◌}
use Rattle.std.specs.Str.{is_utf8}
use Rattle.contract_words.specs.Outcome.{◌>>=◌}
use Rattle.avro_file_parts.specs.declared.refusal.Refusal.{Refusal}
use Rattle.avro_file_parts.specs.declared.refusal.Refusal.TheVariants.{Short, BadNumber, BadUtf8, BadBoolean}
use Rattle.avro_file_parts.specs.declared.refusal.Refusal.TheVariants.{TooManyItems}
use Rattle.avro_file_parts.specs.Number.{long_at, int_at}

-- where a reader stands: the bytes to come, and how many items may still come in arrays and maps
pub record Position : Type 0 where
  pub bytes : List ℕ
  pub left : ℕ

-- a value and where reading goes on
abbrev pub Read : Type 0 → Type 0
Read A = Result (A × Position) Refusal

-- where reading goes on behind what was read
abbrev pub behind : {A B : Type 0} → Result (A × B) Refusal → Result B Refusal
behind read = read >>= λ x. Ok x.1

unfoldable pub boolean_at : List ℕ → Result (Bool × List ℕ) Refusal
boolean_at [] = Err (Short 0)
boolean_at (zero ∷ bytes) = Ok (false, bytes)
boolean_at (suc zero ∷ bytes) = Ok (true, bytes)
boolean_at (suc (suc b) ∷ bytes) = Err BadBoolean

-- so many bytes
unfoldable pub run_at : ℕ → List ℕ → Result (List ℕ × List ℕ) Refusal
run_at n bytes = if nat_lt (length bytes) n then Err (Short (length bytes)) else Ok (take n bytes, drop n bytes)

-- a length, and that many bytes
abbrev pub run_of : ℤ → List ℕ → Result (List ℕ × List ℕ) Refusal
run_of (pos n) bytes = run_at n bytes
run_of (negsuc n) bytes = Err BadNumber

unfoldable pub bytes_at : List ℕ → Result (List ℕ × List ℕ) Refusal
bytes_at bytes = do
  n ← long_at bytes
  run_of n.0 n.1

unfoldable pub string_at : List ℕ → Result (List ℕ × List ℕ) Refusal
string_at bytes = do
  found ← bytes_at bytes
  if is_utf8 found.0 then Ok found else Err BadUtf8

-- a position among so many symbols
abbrev pub symbol_of : ℕ → ℤ × List ℕ → Result (ℕ × List ℕ) Refusal
symbol_of n (pos k, rest) = if nat_lt k n then Ok (k, rest) else Err BadNumber
symbol_of n (negsuc k, rest) = Err BadNumber

unfoldable pub symbol_at : ℕ → List ℕ → Result (ℕ × List ℕ) Refusal
symbol_at n bytes = int_at bytes >>= symbol_of n

-- the count of a block's items
abbrev pub counted : ℤ → Position → Read ℕ
counted (pos n) p = Ok (n, record p { left = p.left - n })
counted (negsuc n) p = do
  size ← long_at p.bytes
  Ok (suc n, record { bytes = size.1; left = p.left - suc n })

abbrev pub magnitude : ℤ → ℕ
magnitude (pos n) = n
magnitude (negsuc n) = suc n

unfoldable pub count_at : Position → Read ℕ
count_at p = do
  n ← long_at p.bytes
  if nat_lt p.left (magnitude n.0) then Err TooManyItems else counted n.0 (record { bytes = n.1; left = p.left })
