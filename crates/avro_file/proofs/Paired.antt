-- Records of an int and another value, as they are read.
use Rattle.std.proofs.Common.{◌≡◌, ℕ, suc, ℤ, Option, List, ◌∷◌, [], ◌≤◌, ◌<◌, length, drop, get_or, Ok, Err, refl, ap}
use Rattle.std.proofs.Common.{arith, rules, Vec, Box, Global, IfSome, take, replicate, ◌+◌, ◌-◌, ◌/◌, ◌%◌, ◌^◌}
use denote.Ref.{Bor}
use Rattle.avro_schema.specs.declared.schema.BytesKind.TheVariants.{Plain}
use Rattle.avro_schema.specs.declared.schema.Field.{Field}
use Rattle.avro_schema.specs.View.{tree}
use Rattle.avro_schema.specs.Tree.{Tree, long, octets, array, no_fields, field}
use Rattle.avro_file_parts.specs.declared.refusal.Refusal.{Refusal}
use Rattle.avro_file.specs.declared.datum.Datum as datum
use Rattle.avro_file.specs.declared.datum.ItemCount.{ItemCount}
use Rattle.avro_file.specs.declared.pairs.Second.TheVariants as Second
use Rattle.avro_file_parts.specs.Number.{number_at, long_at, int_at}
use Rattle.avro_file.specs.Value.{Value, nothing, whole, run, items, chosen, values_of}
use Rattle.avro_file.specs.View.{view, pair_with, long_pairs, bytes_pairs}
use Rattle.avro_file_parts.specs.Parts.{Position, bytes_at}
use Rattle.avro_file.specs.Reading.{blocks_at, datum_at}
use Rattle.avro_file.specs.Pairs.{pair, IsPair}
use Rattle.avro_file.specs.Ending.{standing, Ends, EndsWith, EndsCounted}
use Rattle.avro_file.proofs.Behind.{behind_ok, behind_is}
use Rattle.avro_file.proofs.Places.{short_int, bytes_found, bytes_end_there, some_weaker}
use Rattle.avro_file_parts.proofs.NumberPlaces.{one_group}
use Rattle.avro_file.proofs.Views.{field_trees}

-- ---- one pair

pub key_fails : (e : Refusal) (s : Tree) (p : Position) → int_at p.bytes ≡ Err e → datum_at (pair s) p ≡ Err e
unfolding datum_at
key_fails f s p h = rw h refl

pub long_read : (p : Position) (k : ℤ) (rest : List ℕ) (z : ℤ) (after : List ℕ) → int_at p.bytes ≡ Ok (k, rest)
    → long_at rest ≡ Ok (z, after) → datum_at (pair long) p ≡ Ok (
      pair_with k (whole z),
      record {
        bytes = after;
        left = p.left;
      },
    )
unfolding datum_at
long_read p k rest z after h g = rw (h, g) refl

pub long_fails : (e : Refusal) (p : Position) (k : ℤ) (rest : List ℕ) → int_at p.bytes ≡ Ok (k, rest)
    → long_at rest ≡ Err e → datum_at (pair long) p ≡ Err e
unfolding datum_at
long_fails f p k rest h g = rw (h, g) refl

pub bytes_read : (p : Position) (k : ℤ) (rest s after : List ℕ) → int_at p.bytes ≡ Ok (k, rest)
    → bytes_at rest ≡ Ok (s, after) → datum_at (pair (octets Plain)) p ≡ Ok (
      pair_with k (run s),
      record
          { bytes = after; left = p.left },
    )
unfolding datum_at
bytes_read p k rest s after h g = rw (h, g) refl

pub bytes_fails : (e : Refusal) (p : Position) (k : ℤ) (rest : List ℕ) → int_at p.bytes ≡ Ok (k, rest)
    → bytes_at rest ≡ Err e → datum_at (pair (octets Plain)) p ≡ Err e
unfolding datum_at
bytes_fails f p k rest h g = rw (h, g) refl

-- ---- the ids of a record's fields, and what its bytes stand for, do not matter

pub as_long_pair : (t : Tree) → IsPair t Second.Long → datum_at t ≡ datum_at (pair long)
unfolding datum_at
as_long_pair t (a, b, s, is, same) = rw (same, is) refl

pub as_bytes_pair : (t : Tree) → IsPair t Second.Bytes → datum_at t ≡ datum_at (pair (octets Plain))
unfolding datum_at
as_bytes_pair t (a, b, s, (kind, is), same) = rw (same, is) refl

-- ---- a whole array

pub array_read : (s : Tree) (id : Option ℤ) (kind : _) (p : Position) (vs : List Value) (q : Position)
    → blocks_at (datum_at s) (suc (length p.bytes)) p ≡ Ok (vs, q)
    → datum_at (array s id kind) p ≡ Ok (items (values_of vs), q)
unfolding datum_at
array_read s id kind p vs q h = rw h refl

pub array_fails : (e : Refusal) (s : Tree) (id : Option ℤ) (kind : _) (p : Position)
    → blocks_at (datum_at s) (suc (length p.bytes)) p ≡ Err e → datum_at (array s id kind) p ≡ Err e
unfolding datum_at
array_fails f s id kind p h = rw h refl

pub view-LongPairs : (v : Vec (ℤ × ℤ) Global) → view (datum.LongPairs v) ≡ items (values_of (long_pairs v.items))
view-LongPairs v = search (rules, datum.the_lemmas)

pub view-BytesPairs : (v : Vec (ℤ × Bor (List ℕ)) Global)
    → view (datum.BytesPairs v) ≡ items (values_of (bytes_pairs v.items))
view-BytesPairs v = search (rules, datum.the_lemmas)

pub view-Repeated : (n : ItemCount) (b : Box datum.Datum Global)
    → view (datum.Repeated n b) ≡ items (values_of (replicate n.number (view b.value)))
view-Repeated n b = search (rules, datum.the_lemmas)

pub long_pairs_len : (ps : List (ℤ × ℤ)) → length (long_pairs ps) ≡ length ps
long_pairs_len [] = refl
long_pairs_len (p ∷ ps) = ap suc (long_pairs_len ps)

pub bytes_pairs_len : (ps : List (ℤ × Bor (List ℕ))) → length (bytes_pairs ps) ≡ length ps
bytes_pairs_len [] = refl
bytes_pairs_len (p ∷ ps) = ap suc (bytes_pairs_len ps)

pub view-Null : view datum.Null ≡ nothing
view-Null = search (rules, datum.the_lemmas)

pub view-NullBranch : (n : ℕ) → view (datum.NullBranch n) ≡ chosen n nothing
view-NullBranch n = search (rules, datum.the_lemmas)

-- ---- a record of two fields

pub two_fields : (fs : List Field) (f g : Field) (s t : Tree) → 2 ≤ length fs → length fs < 3 → f ≡ get_or fs 0 f
    → g ≡ get_or fs 1 g → tree f.schema ≡ s → tree g.schema ≡ t → field_trees fs ≡ field f.id s (field g.id t no_fields)
two_fields [] f g s t ge lt a b h k = absurd (omega arith)
two_fields (x ∷ []) f g s t ge lt a b h k = absurd (omega arith)
two_fields (x ∷ y ∷ []) f g s t ge lt a b h k =
    let first : f ≡ x = a in
    let second : g ≡ y = b in
    rw (← h, ← k, first, second) refl
two_fields (x ∷ y ∷ z ∷ fs) f g s t ge lt a b h k = absurd (omega arith)

-- ---- where a pair ends

pub long_pair_ends : (bytes : List ℕ) (at mid end left : ℕ) → Ends int_at bytes at mid → Ends long_at bytes mid end
    → (v : Value) × (datum_at (pair long) (standing bytes at left) ≡ Ok (v, standing bytes end left))
long_pair_ends bytes at mid end left k z =
    let key = behind_ok _ _ k.2 in
    let number = behind_ok _ _ z.2 in (
      pair_with key.0 (whole number.0),
      long_read (standing bytes at left) key.0 (drop mid bytes) number.0
          (drop end bytes) key.1 number.1,
    )

pub bytes_pair_ends : (bytes : List ℕ) (at mid end left : ℕ) → Ends int_at bytes at mid → Ends bytes_at bytes mid end
    → (v : Value) × (datum_at (pair (octets Plain)) (standing bytes at left) ≡ Ok (v, standing bytes end left))
bytes_pair_ends bytes at mid end left k z =
    let key = behind_ok _ _ k.2 in
    let content = behind_ok _ _ z.2 in (
      pair_with key.0 (run content.0),
      bytes_read (standing bytes at left) key.0 (drop mid bytes) content.0
          (drop end bytes) key.1 content.1,
    )

-- the same, not by its value
pub bytes_pair_somewhere : (bytes : List ℕ) (at mid : ℕ) (o : Option ℕ) → Ends int_at bytes at mid
    → IfSome o (λ end. Ends bytes_at bytes mid end)
    → IfSome o (λ end. (left : ℕ) → EndsCounted (datum_at (pair (octets Plain))) bytes at left end left)
bytes_pair_somewhere bytes at mid o k h = some_weaker o _ _
    (λ end z left. let v = bytes_pair_ends bytes at mid end left k z in
    (z.1, behind_is (datum_at (pair (octets Plain)) (standing bytes at left)) v.0 (standing bytes end left) v.1)) h

-- a key and a length of one group each
pub short_bytes_pair : (bytes : List ℕ) (at end left : ℕ) → at + 1 < length bytes → get_or bytes at 0 < 128
    → get_or bytes (at + 1) 0 < 128 → get_or bytes (at + 1) 0 % 2 ≡ 0
    → get_or bytes (at + 1) 0 / 2 ≤ length bytes - at - 2 → end ≡ at + 2 + get_or bytes (at + 1) 0 / 2
    → EndsCounted (datum_at (pair (octets Plain))) bytes at left end left
short_bytes_pair bytes at end left lt key short is fits e =
    let number : EndsWith (number_at (2 ^ 64)) bytes (at + 1) (get_or bytes (at + 1) 0) (at + 1 + 1) =
    (omega arith, omega (arith, lt), one_group bytes (at + 1) lt short) in
    let len = get_or bytes (at + 1) 0 in
    let run = bytes_end_there bytes (at + 1) (take (at + 1 + 1 + len / 2 - (at + 1 + 1)) (drop (at + 1 + 1) bytes))
    (at + 1 + 1 + len / 2) (bytes_found bytes (at + 1) (get_or bytes (at + 1) 0) (at + 1 + 1)
    number is (omega (arith, fits))) in
    let first = short_int bytes at (omega (arith, lt)) key in
    let here : at + 1 + 1 + get_or bytes (at + 1) 0 / 2 ≡ end = omega (arith, e) in
    let v = bytes_pair_ends bytes at (at + 1) end left first (rw here at run) in (
      omega (arith, (rw here at run).1),
      behind_is (datum_at (pair (octets Plain)) (standing bytes at left)) v.0
          (standing bytes end left) v.1,
    )
