-- Arrays of values that take no bytes.
use Rattle.std.proofs.Common.{◌≡◌, ℕ, zero, suc, Option, ℤ, List, ◌∷◌, ◌++◌, ◌+◌, length, map, replicate, Ok, Err, refl}
use Rattle.std.proofs.Common.{sym, ap}
use Rattle.std.proofs.Common.{◌∙◌}
use Rattle.std.proofs.lemmas.List.{map-append, replicate-append-replicate}
use Rattle.contract_words.specs.Outcome.{◌>>=◌}
use Rattle.avro_file_parts.specs.declared.refusal.Refusal.{Refusal}
use Rattle.avro_schema.specs.Tree.{Tree, null, array}
use Rattle.avro_file_parts.specs.Parts.{Position, Read, count_at}
use Rattle.avro_file.specs.Value.{Value, nothing, items, values_of}
use Rattle.avro_file.specs.Reading.{with_front, values_at, block_then, blocks_at, datum_at}
use Rattle.avro_file.proofs.Paired.{array_read, array_fails}

-- the type has this value alone, which takes nothing
abbrev pub IsAlways : Tree → Value → Type 0
IsAlways s v = (p : Position) → datum_at s p ≡ Ok (v, p)

pub null_is : IsAlways null nothing
unfolding datum_at
null_is p = refl

-- so many of them are so many times the value
pub same_values : (s : Tree) (v : Value) → IsAlways s v → (n : ℕ) (p : Position)
    → values_at (datum_at s) n p ≡ Ok (replicate n v, p)
unfolding values_at
same_values s v is zero p = refl
same_values s v is (suc n) p = rw (is p, same_values s v is n p) refl

-- a block of nulls behind others
pub more_nulls : (total n : ℕ) (p : Position)
    → with_front (replicate total nothing) (values_at (datum_at null) n p) ≡ Ok (replicate (total + n) nothing, p)
more_nulls total n p = rw (same_values null nothing null_is n p)
    (ap (λ (vs : List Value). Ok (vs, p)) (replicate-append-replicate total n nothing))

-- ---- what is read of nulls, with another value for each

abbrev all_as : Value → List Value → List Value
all_as v vs = map (λ _. v) vs

abbrev read_as : Value → Read (List Value) → Read (List Value)
read_as v read = read >>= λ x. Ok (all_as v x.0, x.1)

nulls_as : (v : Value) (n : ℕ) → all_as v (replicate n nothing) ≡ replicate n v
nulls_as v zero = refl
nulls_as v (suc n) = ap (λ (vs : List Value). v ∷ vs) (nulls_as v n)

behind_nulls : (v : Value) (n : ℕ) (read : Read (List Value))
    → (read_as v read >>= λ x. Ok (replicate n v ++ x.0, x.1))
    ≡ read_as v (read >>= λ x. Ok (replicate n nothing ++ x.0, x.1))
behind_nulls v n (Ok x) = ap (λ (vs : List Value). Ok (vs, x.1)) (sym (map-append (λ _. v) (replicate n nothing) x.0
    ∙ ap (λ (vs : List Value). vs ++ all_as v x.0) (nulls_as v n)))
behind_nulls v n (Err f) = refl

module _ (s : Tree) (v : Value) (is : IsAlways s v) where
  block_as : (turns : ℕ)
      → ((p : Position) → blocks_at (datum_at s) turns p ≡ read_as v (blocks_at (datum_at null) turns p))
      → (n : ℕ) (p : Position) → block_then (datum_at s) (blocks_at (datum_at s) turns) n p ≡ read_as v
      (block_then (datum_at null) (blocks_at (datum_at null) turns) n p)
  block_as turns same zero p = refl
  block_as turns same (suc n) p =
      rw (same_values s v is (suc n) p, same_values null nothing null_is (suc n) p, same p)
      (behind_nulls v (suc n) (blocks_at (datum_at null) turns p))

  counted_as : (turns : ℕ)
      → ((p : Position) → blocks_at (datum_at s) turns p ≡ read_as v (blocks_at (datum_at null) turns p))
      → (read : Read ℕ) → (read >>= λ n. block_then (datum_at s) (blocks_at (datum_at s) turns) n.0 n.1) ≡ read_as v
      (read >>= λ n. block_then (datum_at null) (blocks_at (datum_at null) turns) n.0 n.1)
  counted_as turns same (Ok n) = block_as turns same n.0 n.1
  counted_as turns same (Err f) = refl

  blocks_as : (turns : ℕ) (p : Position)
      → blocks_at (datum_at s) turns p ≡ read_as v (blocks_at (datum_at null) turns p)
  unfolding blocks_at
  blocks_as zero p = refl
  blocks_as (suc turns) p = counted_as turns (blocks_as turns) (count_at p)

  -- an array by such a type is so many times the value as there are nulls in one of nulls
  pub repeated_read : (id : Option ℤ) (kind : _) (p : Position) (n : ℕ) (q : Position)
      → blocks_at (datum_at null) (suc (length p.bytes)) p ≡ Ok (replicate n nothing, q)
      → datum_at (array s id kind) p ≡ Ok (items (values_of (replicate n v)), q)
  repeated_read id kind p n q h = array_read s id kind p (replicate n v) q (blocks_as (suc (length p.bytes)) p ∙ rw h
      (ap (λ (vs : List Value). Ok (vs, q)) (nulls_as v n)))

  -- it fails where that fails
  pub repeated_fails : (e : Refusal) (id : Option ℤ) (kind : _) (p : Position)
      → blocks_at (datum_at null) (suc (length p.bytes)) p ≡ Err e → datum_at (array s id kind) p ≡ Err e
  repeated_fails f id kind p h = array_fails f s id kind p (blocks_as (suc (length p.bytes)) p ∙ rw h refl)
