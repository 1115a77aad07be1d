-- Reading values from left to right, with the first fault that is met.
-- Avro 1.11.1 specification, 'Binary Encoding', 'Primitive Types' and 'Complex Types' (records, enums, arrays, maps,
-- unions, fixed).
use Rattle.std.specs.Prelude.{ℕ, zero, suc, ℤ, pos, negsuc, List, [], length, Result, Ok, Err, ◌∷◌, ◌++◌}
use Rattle.contract_words.specs.Outcome.{◌>>=◌}
use Rattle.avro_schema.specs.Tree.{Tree, null, boolean, int, long, float, double, symbols, octets, string, fixed}
use Rattle.avro_schema.specs.Tree.{structure, array, map, union, Fields, no_fields, field, Branches, no_branches}
use Rattle.avro_schema.specs.Tree.{branch}
use Rattle.avro_file_parts.specs.declared.refusal.Refusal.{Refusal}
use Rattle.avro_file_parts.specs.declared.refusal.Refusal.TheVariants.{BadNumber, BadUnion}
use Rattle.avro_file_parts.specs.Number.{long_at, int_at}
use Rattle.avro_file_parts.specs.Parts.{Position, Read, boolean_at, run_at, bytes_at, string_at, symbol_at, count_at}
use Rattle.avro_file.specs.Value.{Value, nothing, truth, small, whole, single, twice, symbol, text, run, raw, fields}
use Rattle.avro_file.specs.Value.{items, entries, chosen, values_of, Pair, entries_of}

-- a value that holds no others, and as many items left as before
abbrev pub leaf : {A : Type 0} → (A → Value) → ℕ → Result (A × List ℕ) Refusal → Read Value
leaf make left read = read >>= λ x. Ok (make x.0, record { bytes = x.1; left = left })

-- so many values, one after the other
unfoldable pub values_at : {A : Type 0} → (Position → Read A) → ℕ → Position → Read (List A)
values_at read zero p = Ok ([], p)
values_at read (suc n) p = do
  first ← read p
  others ← values_at read n first.1
  Ok (first.0 ∷ others.0, others.1)

-- what was read before, and what is still read
abbrev pub with_front : {A : Type 0} → List A → Read (List A) → Read (List A)
with_front front read = read >>= λ x. Ok (front ++ x.0, x.1)

-- a block of so many values and the blocks after it; a block of none ends them
abbrev pub block_then : {A : Type 0} → (Position → Read A) → (Position → Read (List A)) → ℕ → Position → Read (List A)
block_then read others zero p = Ok ([], p)
block_then read others (suc n) p = do
  here ← values_at read (suc n) p
  after ← others here.1
  Ok (here.0 ++ after.0, after.1)

-- The number bounds the blocks. One more than there are bytes is always enough.
unfoldable pub blocks_at : {A : Type 0} → (Position → Read A) → ℕ → Position → Read (List A)
blocks_at read zero p = Err BadNumber
blocks_at read (suc turns) p = do
  n ← count_at p
  block_then read (blocks_at read turns) n.0 n.1

-- the branch at a position
abbrev pub chosen_by : (ℕ → Position → Read Value) → ℤ → Position → Read Value
chosen_by read (pos n) p = do
  x ← read n p
  Ok (chosen n x.0, x.1)
chosen_by read (negsuc n) p = Err BadUnion

-- schemas whose values are a number, a truth value or nothing
abbrev pub IsScalar : Tree → Type 0
IsScalar null = Unit {0}
IsScalar boolean = Unit {0}
IsScalar int = Unit {0}
IsScalar long = Unit {0}
IsScalar (symbols n) = Unit {0}
IsScalar s = ⊥

-- schemas whose values are single runs of bytes
abbrev pub IsRunOfBytes : Tree → Type 0
IsRunOfBytes float = Unit {0}
IsRunOfBytes double = Unit {0}
IsRunOfBytes (octets kind) = Unit {0}
IsRunOfBytes string = Unit {0}
IsRunOfBytes (fixed n kind) = Unit {0}
IsRunOfBytes s = ⊥

-- a key, and a value
unfoldable pub entry_at : (Position → Read Value) → Position → Read Pair
entry_at read p = do
  key ← string_at p.bytes
  x ← read (record { bytes = key.1; left = p.left })
  Ok ((key.0, x.0), x.1)

unfoldable mutual
  pub datum_at : Tree → Position → Read Value
  datum_at null p = Ok (nothing, p)
  datum_at boolean p = leaf truth p.left (boolean_at p.bytes)
  datum_at int p = leaf small p.left (int_at p.bytes)
  datum_at float p = leaf single p.left (run_at 4 p.bytes)
  datum_at double p = leaf twice p.left (run_at 8 p.bytes)
  datum_at (symbols n) p = leaf symbol p.left (symbol_at n p.bytes)
  datum_at long p = leaf whole p.left (long_at p.bytes)
  datum_at (octets kind) p = leaf run p.left (bytes_at p.bytes)
  datum_at string p = leaf text p.left (string_at p.bytes)
  datum_at (fixed n kind) p = leaf raw p.left (run_at n p.bytes)
  datum_at (structure fs) p = fields_at fs p >>= λ x. Ok (fields (values_of x.0), x.1)
  datum_at (array s id kind) p = blocks_at (datum_at s) (suc (length p.bytes)) p >>= λ x.
      Ok (items (values_of x.0), x.1)
  datum_at (map s) p = blocks_at (entry_at (datum_at s)) (suc (length p.bytes)) p >>= λ x.
      Ok (entries (entries_of x.0), x.1)
  datum_at (union bs) p = long_at p.bytes >>= λ n. chosen_by (branch_at bs) n.0 (record { bytes = n.1; left = p.left })

  pub fields_at : Fields → Position → Read (List Value)
  fields_at no_fields p = Ok ([], p)
  fields_at (field id s fs) p = datum_at s p >>= λ first. fields_at fs first.1 >>= λ others.
      Ok (first.0 ∷ others.0, others.1)

  pub branch_at : Branches → ℕ → Position → Read Value
  branch_at no_branches n p = Err BadUnion
  branch_at (branch s bs) zero p = datum_at s p
  branch_at (branch s bs) (suc n) p = branch_at bs n p
