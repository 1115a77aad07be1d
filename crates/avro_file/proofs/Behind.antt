-- Where reading goes on behind values, without them.
use Rattle.std.proofs.Common.{◌≡◌, ℕ, zero, suc, ◌+◌, ◌<◌, ◌≤◌, ℤ, pos, Bool, true, false, ltb, List, [], ◌∷◌, ◌++◌}
use Rattle.std.proofs.Common.{length, get_or, drop, Option, Result, Ok, Err, refl, ap, subst, ◌∙◌, ◌||◌, add-one}
use Rattle.std.proofs.Common.{drop-cons, arith}
use Rattle.std.proofs.lemmas.Bool.{le-ltb, ltb-false}
use Rattle.std.proofs.Math.ListN.{drop_of_length-le}
use Rattle.contract_words.specs.Outcome.{◌>>=◌}
use Rattle.avro_file_parts.specs.declared.refusal.Refusal.{Refusal}
use Rattle.avro_schema.specs.Tree.{Tree, null, boolean, int, long, float, double, symbols, octets, string, fixed}
use Rattle.avro_schema.specs.Tree.{structure, array, map, union, Fields, no_fields, field}
use Rattle.avro_schema.specs.declared.schema.Field.{Field}
use Rattle.avro_schema.specs.View.{tree}
use Rattle.avro_file_parts.specs.Exact.{IsRead}
use Rattle.avro_file.specs.Value.{Value, Pair, nothing, raw, fields, items, entries, chosen, values_of, entries_of}
use Rattle.avro_file_parts.specs.Parts.{Position, Read, behind, run_at}
use Rattle.avro_file.specs.Reading.{with_front, values_at, blocks_at, entry_at}
use Rattle.avro_file.specs.Reading.{datum_at, fields_at, chosen_by}
use Rattle.avro_file.specs.Spelling.{takes_bytes, some_takes_bytes}
use Rattle.avro_file.specs.Blocks.{inside, max_items, object_at}
use Rattle.avro_file.proofs.Steps.{ok_is}
use Rattle.avro_file.proofs.Views.{field_trees}
use Rattle.avro_file.proofs.Loop.{front_of_ok, front_of_err}

-- one reading for another
pub same_read : {X Y E : Type 0} (view : X → Y) (r : Result X E) (a b : Result Y E) → a ≡ b → IsRead view r a
    → IsRead view r b
same_read {X} {Y} {E} view r a b e = subst (λ (y : Result Y E). IsRead view r y) e

pub behind_ok : {A B : Type 0} (read : Result (A × B) Refusal) (q : B) → behind read ≡ Ok q
    → (x : A) × (read ≡ Ok (x, q))
behind_ok {A} {B} (Ok x) q e = (x.0, ap (λ (y : B). Ok (x.0, y)) (ok_is x.1 q e))
behind_ok (Err f) q e = absurd cc

pub behind_err : {A B : Type 0} (read : Result (A × B) Refusal) (f : Refusal) → behind read ≡ Err f → read ≡ Err f
behind_err (Ok x) f e = absurd cc
behind_err (Err g) f e = cc

pub behind_is : {A B : Type 0} (read : Result (A × B) Refusal) (x : A) (q : B) → read ≡ Ok (x, q) → behind read ≡ Ok q
behind_is read x q e = rw e refl

pub behind_fails : {A B : Type 0} (read : Result (A × B) Refusal) (f : Refusal) → read ≡ Err f → behind read ≡ Err f
behind_fails read f e = rw e refl

-- ---- several values

-- what is behind the rest, once the front was read
pub behind_all : {A : Type 0} (front : List A) (read : Read (List A)) (q : Position)
    → with_front [] read ≡ Ok (front, q) → behind read ≡ Ok q
behind_all front read q e = let r = front_of_ok [] read front q e in behind_is read r.0 q r.1

pub behind_none : {A : Type 0} (read : Read (List A)) (f : Refusal) → with_front [] read ≡ Err f → behind read ≡ Err f
behind_none read f e = behind_fails read f (front_of_err [] read f e)

front_read : {A : Type 0} (front vs : List A) (read : Read (List A)) (q : Position) → read ≡ Ok (vs, q)
    → with_front front read ≡ Ok (front ++ vs, q)
front_read front vs read q e = rw e refl

pub in_front : {A : Type 0} (front : List A) (read : Read (List A)) (q : Position) → behind read ≡ Ok q
    → (vs : List A) × (with_front front read ≡ Ok (front ++ vs, q))
in_front {A} front read q e = let r = behind_ok read q e in (r.0, front_read front r.0 read q r.1)

pub none_in : {A : Type 0} (front : List A) (read : Read (List A)) (f : Refusal) → behind read ≡ Err f
    → with_front front read ≡ Err f
none_in front read f e = rw (behind_err read f e) refl

-- ---- values that hold others

pub behind_made : {A B : Type 0} (make : A → B) (read : Read A)
    → behind (read >>= λ x. Ok (make x.0, x.1)) ≡ behind read
behind_made make (Ok x) = refl
behind_made make (Err f) = refl

pub structure_ends : (fs : Fields) (p : Position) → behind (datum_at (structure fs) p) ≡ behind (fields_at fs p)
unfolding datum_at
structure_ends fs p = behind_made (λ (vs : List Value). fields (values_of vs)) (fields_at fs p)

pub array_ends : (s : Tree) (id : Option ℤ) (kind : _) (p : Position)
    → behind (datum_at (array s id kind) p) ≡ behind (blocks_at (datum_at s) (suc (length p.bytes)) p)
unfolding datum_at
array_ends s id kind p = behind_made (λ (vs : List Value). items (values_of vs))
    (blocks_at (datum_at s) (suc (length p.bytes)) p)

pub map_ends : (s : Tree) (p : Position) → behind (datum_at (map s) p) ≡ behind (blocks_at (entry_at (datum_at s))
    (suc (length p.bytes)) p)
unfolding datum_at
map_ends s p = behind_made (λ (es : List Pair). entries (entries_of es)) (blocks_at (entry_at (datum_at s))
    (suc (length p.bytes)) p)

pub chosen_ends : (read : ℕ → Position → Read Value) (n : ℕ) (p : Position)
    → behind (chosen_by read (pos n) p) ≡ behind (read n p)
chosen_ends read n p = behind_made (chosen n) (read n p)

-- ---- values without bytes

neither : (a b : Bool) → (a || b) ≡ false → (a ≡ false) × (b ≡ false)
neither true b e = absurd cc
neither false b e = (refl, e)

no_bytes : (n : ℕ) (bytes : List ℕ) → ltb 0 n ≡ false → run_at n bytes ≡ Ok ([], bytes)
unfolding run_at
no_bytes zero bytes e = let none : ltb (length bytes) 0 ≡ false = le-ltb _ _ (omega arith) in rw none refl
no_bytes (suc n) bytes e = absurd (omega (arith, ltb-false _ _ e))

mutual
  unfolding datum_at fields_at takes_bytes some_takes_bytes

  -- it is the same wherever it is read
  pub steady_value : (s : Tree) → takes_bytes s ≡ false → (v : Value) × ((p : Position) → datum_at s p ≡ Ok (v, p))
  steady_value null e = (nothing, λ p. refl)
  steady_value boolean e = absurd cc
  steady_value int e = absurd cc
  steady_value long e = absurd cc
  steady_value float e = absurd cc
  steady_value double e = absurd cc
  steady_value (octets kind) e = absurd cc
  steady_value string e = absurd cc
  steady_value (fixed n kind) e = (raw [], λ p. rw (no_bytes n p.bytes e) refl)
  steady_value (symbols n) e = absurd cc
  steady_value (structure fs) e = let vs = steady_fields fs e in (fields (values_of vs.0), λ p. rw (vs.1 p) refl)
  steady_value (array s id kind) e = absurd cc
  steady_value (map s) e = absurd cc
  steady_value (union bs) e = absurd cc

  steady_fields : (fs : Fields) → some_takes_bytes fs ≡ false
      → (vs : List Value) × ((p : Position) → fields_at fs p ≡ Ok (vs, p))
  steady_fields no_fields e = ([], λ p. refl)
  steady_fields (field id s fs) e =
      let both = neither (takes_bytes s) (some_takes_bytes fs) e in
      let first = steady_value s both.0 in
      let others = steady_fields fs both.1 in
      (first.0 ∷ others.0, λ p. rw (first.1 p, others.1 p) refl)

pub empty_value : (s : Tree) (p : Position) → takes_bytes s ≡ false → (v : Value) × (datum_at s p ≡ Ok (v, p))
empty_value s p e = let v = steady_value s e in (v.0, v.1 p)

-- any number of them ends where it begins
pub empty_values : (s : Tree) (n : ℕ) (p : Position) → takes_bytes s ≡ false
    → behind (values_at (datum_at s) n p) ≡ Ok p
unfolding values_at
empty_values s zero p e = refl
empty_values s (suc n) p e =
    let first = empty_value s p e in
    let others = behind_ok (values_at (datum_at s) n p) p (empty_values s n p e) in
    rw (first.1, others.1) refl

pub takes_structure : (fs : Fields) → takes_bytes (structure fs) ≡ some_takes_bytes fs
unfolding takes_bytes
takes_structure fs = refl

takes_first : (id : Option ℤ) (s : Tree) (fs : Fields)
    → some_takes_bytes (field id s fs) ≡ (takes_bytes s || some_takes_bytes fs)
unfolding some_takes_bytes
takes_first id s fs = refl

takes_none : some_takes_bytes no_fields ≡ false
unfolding some_takes_bytes
takes_none = refl

field_next : (fs : List Field) (i : ℕ) (f : Field) → i < length fs → f ≡ get_or fs i f
    → some_takes_bytes (field_trees (drop i fs)) ≡ (takes_bytes (tree f.schema) || some_takes_bytes
    (field_trees (drop (i + 1) fs)))
field_next fs i f lt is =
    let k : drop i fs ≡ f ∷ drop (i + 1) fs = drop-cons fs i f lt ∙ rw (← is, add-one) refl in
    rw k (takes_first f.id (tree f.schema) (field_trees (drop (i + 1) fs)))

pub field_takes : (fs : List Field) (i : ℕ) (f : Field) → i < length fs → f ≡ get_or fs i f
    → takes_bytes (tree f.schema) ≡ true → some_takes_bytes (field_trees (drop i fs)) ≡ true
field_takes fs i f lt is e = field_next fs i f lt is ∙ rw e refl

pub field_takes_none : (fs : List Field) (i : ℕ) (f : Field) → i < length fs → f ≡ get_or fs i f
    → takes_bytes (tree f.schema) ≡ false → some_takes_bytes (field_trees (drop i fs)) ≡ some_takes_bytes
    (field_trees (drop (i + 1) fs))
field_takes_none fs i f lt is e = field_next fs i f lt is ∙ rw e refl

pub fields_over : (fs : List Field) (i : ℕ) → length fs ≤ i → some_takes_bytes (field_trees (drop i fs)) ≡ false
fields_over fs i le = let k : drop i fs ≡ [] = drop_of_length-le fs le in rw k takes_none

-- ---- objects

pub object_ends : (s : Tree) (block : List ℕ) (q : Position)
    → behind (datum_at s (record { bytes = block; left = max_items })) ≡ Ok q → behind (object_at s block) ≡ Ok q.bytes
unfolding object_at
object_ends s block q e = let r = behind_ok (datum_at s (record { bytes = block; left = max_items })) q e in rw r.1 refl

pub object_fails : (s : Tree) (block : List ℕ) (f : Refusal)
    → behind (datum_at s (record { bytes = block; left = max_items })) ≡ Err f
    → behind (object_at s block) ≡ Err (inside f)
unfolding object_at
object_fails s block f e = rw (behind_err (datum_at s (record { bytes = block; left = max_items })) f e) refl
