-- What is read of a value, taken apart.
use Rattle.std.proofs.Common.{◌≡◌, ℕ, suc, ◌-◌, ◌≤◌, ℤ, pos, negsuc, Bool, true, false, List, [], ◌∷◌, length, Option}
use Rattle.std.proofs.Common.{Result, Ok, Err, refl, sym, ap, subst, ◌∙◌, arith}
use Rattle.contract_words.specs.Outcome.{◌>>=◌}
use Rattle.avro_schema.specs.Tree.{Tree, null, boolean, int, long, float, double, symbols, octets, string, fixed}
use Rattle.avro_schema.specs.Tree.{structure, array, map, union, Fields, no_fields, field, Branches}
use Rattle.avro_file_parts.specs.declared.refusal.Refusal.{Refusal}
use Rattle.avro_file_parts.specs.Parts.{Position, Read, boolean_at, run_at, bytes_at, string_at, symbol_at}
use Rattle.avro_file_parts.specs.Number.{long_at, int_at}
use Rattle.avro_file.specs.Value.{Value, nothing, truth, small, whole, single, twice, symbol, text, run, raw, fields}
use Rattle.avro_file.specs.Value.{items, entries, chosen, values_of, entries_of, Pair}
use Rattle.avro_file.specs.Spelling.{item_count}
use Rattle.avro_file.specs.Reading.{leaf, blocks_at, entry_at, datum_at, fields_at, branch_at, chosen_by}
use Rattle.avro_file.specs.Blocks.{inside, refused, max_items, object_at, StandsAt}
use Rattle.avro_file.proofs.Steps.{bind_ok, ok_is}
use Rattle.avro_file.proofs.Taken.{datum_takes}
use Rattle.avro_file.proofs.Again.{datum_again}
use Rattle.avro_file_picked.specs.Finding.{has_null_only}

-- a value that is not null
abbrev pub is_something : Value → Bool
is_something nothing = false
is_something v = true

abbrev made_of : {A : Type 0} → (A → Value) → (A → Position) → A → Read Value
made_of make rest x = Ok (make x, rest x)

made_something : {A : Type 0} (r : Result A Refusal) (make : A → Value) (rest : A → Position) (v : Value) (q : Position)
    → ((x : A) → is_something (make x) ≡ true) → (r >>= made_of make rest) ≡ Ok (v, q)
    → is_something v ≡ true
made_something {A} (Ok x) make rest v q some e =
    let same : make x ≡ v = ap (λ (y : Value × Position). y.0) (ok_is (make x, rest x) (v, q) e) in
    subst (λ (w : Value). is_something w ≡ true) same (some x)
made_something (Err f) make rest v q some e = absurd cc

leaf_something : {A : Type 0} (make : A → Value) (left : ℕ) (r : Result (A × List ℕ) Refusal) (v : Value) (q : Position)
    → ((x : A) → is_something (make x) ≡ true)
    → leaf make left r ≡ Ok (v, q) → is_something v ≡ true
leaf_something {A} make left r v q some e =
    made_something r (λ (x : A × List ℕ). make x.0) (λ (x : A × List ℕ). record { bytes = x.1; left = left }) v q
    (λ x. some x.0) e

chosen_something : (read : ℕ → Position → Read Value) (z : ℤ) (p : Position) (v : Value) (q : Position)
    → chosen_by read z p ≡ Ok (v, q) → is_something v ≡ true
chosen_something read (pos n) p v q e =
    made_something (read n p) (λ (x : Value × Position). chosen n x.0) (λ (x : Value × Position). x.1) v q (λ x. refl) e
chosen_something read (negsuc n) p v q e = absurd cc

-- what is read by a type whose values are not null is not null
pub datum_something : (s : Tree) (p : Position) (v : Value) (q : Position) → has_null_only s ≡ false
    → datum_at s p ≡ Ok (v, q) → is_something v ≡ true
unfolding datum_at
datum_something null p v q is e = absurd cc
datum_something boolean p v q is e = leaf_something truth p.left (boolean_at p.bytes) v q (λ x. refl) e
datum_something int p v q is e = leaf_something small p.left (int_at p.bytes) v q (λ x. refl) e
datum_something long p v q is e = leaf_something whole p.left (long_at p.bytes) v q (λ x. refl) e
datum_something float p v q is e = leaf_something single p.left (run_at 4 p.bytes) v q (λ x. refl) e
datum_something double p v q is e = leaf_something twice p.left (run_at 8 p.bytes) v q (λ x. refl) e
datum_something (symbols n) p v q is e = leaf_something symbol p.left (symbol_at n p.bytes) v q (λ x. refl) e
datum_something (octets kind) p v q is e = leaf_something run p.left (bytes_at p.bytes) v q (λ x. refl) e
datum_something string p v q is e = leaf_something text p.left (string_at p.bytes) v q (λ x. refl) e
datum_something (fixed n kind) p v q is e = leaf_something raw p.left (run_at n p.bytes) v q (λ x. refl) e
datum_something (structure fs) p v q is e =
    made_something (fields_at fs p) (λ (x : List Value × Position). fields (values_of x.0))
    (λ (x : List Value × Position). x.1) v q (λ x. refl) e
datum_something (array s id kind) p v q is e =
    made_something (blocks_at (datum_at s) (suc (length p.bytes)) p)
    (λ (x : List Value × Position). items (values_of x.0)) (λ (x : List Value × Position). x.1) v q (λ x. refl) e
datum_something (map s) p v q is e =
    made_something (blocks_at (entry_at (datum_at s)) (suc (length p.bytes)) p)
    (λ (x : List Pair × Position). entries (entries_of x.0)) (λ (x : List Pair × Position). x.1) v q (λ x. refl) e
datum_something (union bs) p v q is e =
    let n = bind_ok (long_at p.bytes) (λ n. chosen_by (branch_at bs) n.0 (record { bytes = n.1; left = p.left })) (v, q)
    e in
    chosen_something (branch_at bs) n.0.0 (record { bytes = n.0.1; left = p.left }) v q n.2

-- with more items to come the same value is read
pub stands : (s : Tree) (p : Position) (v : Value) (q : Position) → p.left ≤ max_items → datum_at s p ≡ Ok (v, q)
    → StandsAt s p.bytes v
unfolding object_at
stands s p v q le e =
    let t = datum_takes s p (v, q) e in
    let r : Position = record { bytes = q.bytes; left = max_items - item_count v } in
    let more : Position = record { bytes = p.bytes; left = max_items } in
    let found : datum_at s more ≡ Ok (v, r) = datum_again s v t.front more r t.spelled t.parts
    (omega (arith, t.left, le)) in
    (q.bytes, rw found refl)

abbrev without_count : Value × Position → Result (Value × List ℕ) Refusal
without_count x = Ok (x.0, x.1.bytes)

object_read : (r : Read Value) (v : Value) (rest : List ℕ) → (refused inside r >>= without_count) ≡ Ok (v, rest)
    → (q : Position) × (r ≡ Ok (v, q))
object_read (Ok x) v rest e =
    (x.1, ap (λ (y : Value × List ℕ). Ok (y.0, x.1)) (ok_is (x.0, x.1.bytes) (v, rest) e))
object_read (Err f) v rest e = absurd cc

-- the other way
pub stood : (s : Tree) (bytes : List ℕ) (v : Value) → StandsAt s bytes v
    → (q : Position) × (datum_at s (record { bytes = bytes; left = max_items }) ≡ Ok (v, q))
unfolding object_at
stood s bytes v is = object_read (datum_at s (record { bytes = bytes; left = max_items })) v is.0 is.1

-- no fewer items are left in front of a value than behind it
pub fewer_left : (s : Tree) (p : Position) (v : Value) (q : Position) → datum_at s p ≡ Ok (v, q) → q.left ≤ p.left
fewer_left s p v q e = let t = datum_takes s p (v, q) e in omega (arith, t.left)

-- ---- records

-- the first field and the others
pub record First (own : Option ℤ) (t : Tree) (fs : Fields) (p : Position) (vs : List Value)
    (q : Position) : Type 0 where
  pub first : Value
  pub others : List Value
  pub between : Position
  pub is : vs ≡ first ∷ others
  pub read : datum_at t p ≡ Ok (first, between)
  pub more : fields_at fs between ≡ Ok (others, q)

pub first_read : (own : Option ℤ) (t : Tree) (fs : Fields) (p : Position) (vs : List Value) (q : Position)
    → fields_at (field own t fs) p ≡ Ok (vs, q) → First own t fs p vs q
unfolding fields_at
first_read own t fs p vs q e =
    let a = bind_ok (datum_at t p) (λ first. fields_at fs first.1 >>= λ others. Ok (first.0 ∷ others.0, others.1))
    (vs, q) e in
    let b = bind_ok (fields_at fs a.0.1) (λ others. Ok (a.0.0 ∷ others.0, others.1)) (vs, q) a.2 in
    let same = ok_is (a.0.0 ∷ b.0.0, b.0.1) (vs, q) b.2 in
    record {
      first = a.0.0;
      others = b.0.0;
      between = a.0.1;
      is = sym (ap (λ (y : List Value × Position). y.0) same);
      read = a.1;
      more = b.1 ∙ ap (λ (y : List Value × Position). Ok (b.0.0, y.1)) same;
    }

pub none_read : (p : Position) (vs : List Value) (q : Position) → fields_at no_fields p ≡ Ok (vs, q) → vs ≡ []
unfolding fields_at
none_read p vs q e = sym (ap (λ (y : List Value × Position). y.0) (ok_is ([], p) (vs, q) e))

pub structure_taken : (fs : Fields) (p : Position) (v : Value) (q : Position) → datum_at (structure fs) p ≡ Ok (v, q)
    → (vs : List Value) × (fields_at fs p ≡ Ok (vs, q)) × (v ≡ fields (values_of vs))
unfolding datum_at
structure_taken fs p v q e =
    let a = bind_ok (fields_at fs p) (λ x. Ok (fields (values_of x.0), x.1)) (v, q) e in
    let same = ok_is (fields (values_of a.0.0), a.0.1) (v, q) a.2 in (
      a.0.0,
      a.1 ∙ ap (λ (y : Value × Position). Ok (a.0.0, y.1)) same,
      sym (ap (λ (y : Value × Position). y.0) same),
    )

-- ---- unions

pub union_taken : (bs : Branches) (p : Position) (v : Value) (q : Position) (z : ℤ) (rest : List ℕ)
    → long_at p.bytes ≡ Ok (z, rest) → datum_at (union bs) p ≡ Ok (v, q)
    → chosen_by (branch_at bs) z (record { bytes = rest; left = p.left }) ≡ Ok (v, q)
unfolding datum_at
union_taken bs p v q z rest e f =
    let one : datum_at (union bs) p ≡ chosen_by (branch_at bs) z (record { bytes = rest; left = p.left }) = rw e refl in
    sym one ∙ f

pub union_fails : (bs : Branches) (p : Position) (v : Value) (q : Position) (f : Refusal) → long_at p.bytes ≡ Err f
    → datum_at (union bs) p ≡ Ok (v, q) → ⊥
unfolding datum_at
union_fails bs p v q f e g =
    let one : datum_at (union bs) p ≡ Err f = rw e refl in
    absurd cc

pub chosen_taken : (read : ℕ → Position → Read Value) (n : ℕ) (p : Position) (v : Value) (q : Position)
    → chosen_by read (pos n) p ≡ Ok (v, q) → (w : Value) × (read n p ≡ Ok (w, q)) × (v ≡ chosen n w)
chosen_taken read n p v q e =
    let a = bind_ok (read n p) (λ x. Ok (chosen n x.0, x.1)) (v, q) e in
    let same = ok_is (chosen n a.0.0, a.0.1) (v, q) a.2 in (
      a.0.0,
      a.1 ∙ ap (λ (y : Value × Position). Ok (a.0.0, y.1)) same,
      sym (ap (λ (y : Value × Position). y.0) same),
    )
