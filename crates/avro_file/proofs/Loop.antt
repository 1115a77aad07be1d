-- Reading values one after the other, as the loops do.
use Rattle.std.proofs.Common.{◌≡◌, ◌≢◌, ℕ, zero, suc, ℤ, pos, negsuc, inl, inr, ◌-◌, ◌+◌, ◌≤◌, ◌<◌, List, [], ◌∷◌, ◌++◌}
use Rattle.std.proofs.Common.{length, get_or, drop, Ok, Err, refl, sym, ap, ◌∙◌, append_assoc, add-one, drop-cons}
use Rattle.std.proofs.Common.{arith}
use Rattle.std.proofs.lemmas.List.{append-nil, length-append}
use Rattle.std.proofs.Math.ListN.{drop_of_length-le}
use Rattle.avro_file_parts.specs.declared.refusal.Refusal.{Refusal}
use Rattle.avro_schema.specs.declared.schema.Field.{Field}
use Rattle.contract_words.specs.Outcome.{◌>>=◌}
use Rattle.avro_file_parts.specs.Number.{IsGroups, IsLong}
use Rattle.avro_file.specs.Spelling.{IsCount}
use Rattle.avro_file.specs.Value.{Value}
use Rattle.avro_schema.specs.View.{tree}
use Rattle.avro_file_parts.specs.Parts.{Position, Read, count_at}
use Rattle.avro_file.specs.Reading.{with_front, values_at, blocks_at, datum_at, fields_at}
use Rattle.avro_file.proofs.Steps.{ok_is}
use Rattle.avro_file.proofs.Views.{field_trees}
use Rattle.avro_file.proofs.Taken.{Each, count_takes, values_take}

regroup : {A : Type 0} (front : List A) (v : A) (read : Read (List A))
    → with_front front (read >>= λ x. Ok (v ∷ x.0, x.1)) ≡ with_front (front ++ v ∷ []) read
regroup {A} front v (Ok x) = ap (λ (vs : List A). Ok (vs, x.1)) (simp append_assoc)
regroup {A} front v (Err f) = refl

regroup_all : {A : Type 0} (front here : List A) (read : Read (List A))
    → with_front front (read >>= λ x. Ok (here ++ x.0, x.1)) ≡ with_front (front ++ here) read
regroup_all {A} front here (Ok x) = ap (λ (vs : List A). Ok (vs, x.1)) (simp append_assoc)
regroup_all {A} front here (Err f) = refl

-- ---- the values of a block

pub values_on : {A : Type 0} (read : Position → Read A) (front : List A) (count i : ℕ) (p : Position) (v : A)
    (q : Position) (total : Read (List A)) → i < count → read p ≡ Ok (v, q)
    → with_front front (values_at read (count - i) p) ≡ total
    → with_front (front ++ v ∷ []) (values_at read (count - (i + 1)) q) ≡ total
unfolding values_at
values_on {A} read front count i p v q total lt h so_far =
    let k : count - i ≡ suc (count - (i + 1)) = omega arith in
    let one : with_front front (values_at read (count - i) p) ≡ with_front (front ++ v ∷ [])
    (values_at read (count - (i + 1)) q) = rw (k, h) (regroup front v (values_at read (count - (i + 1)) q)) in
    sym one ∙ so_far

pub values_fail : {A : Type 0} (e : Refusal) (read : Position → Read A) (front : List A) (count i : ℕ) (p : Position)
    (total : Read (List A)) → i < count → read p ≡ Err e
    → with_front front (values_at read (count - i) p) ≡ total → total ≡ Err e
unfolding values_at
values_fail {A} f read front count i p total lt h so_far =
    let k : count - i ≡ suc (count - (i + 1)) = omega arith in
    let one : with_front front (values_at read (count - i) p) ≡ Err f = rw (k, h) refl in
    sym so_far ∙ one

pub values_done : {A : Type 0} (read : Position → Read A) (front : List A) (count i : ℕ) (p : Position)
    (total : Read (List A)) → count ≤ i → with_front front (values_at read (count - i) p) ≡ total
    → total ≡ Ok (front, p)
unfolding values_at
values_done {A} read front count i p total le so_far =
    let k : count - i ≡ 0 = omega arith in
    let one : with_front front (values_at read (count - i) p) ≡ Ok (front, p) = rw k (ap (λ (vs : List A). Ok (vs, p))
    (append-nil front)) in
    sym so_far ∙ one

-- ---- the fields of a record

pub fields_on : (fs : List Field) (i : ℕ) (f : Field) (front : List Value) (p : Position) (v : Value) (q : Position)
    (total : Read (List Value)) → i < length fs → f ≡ get_or fs i f → datum_at (tree f.schema) p ≡ Ok (v, q)
    → with_front front (fields_at (field_trees (drop i fs)) p) ≡ total
    → with_front (front ++ v ∷ []) (fields_at (field_trees (drop (i + 1) fs)) q) ≡ total
unfolding fields_at
fields_on fs i f front p v q total lt is h so_far =
    let k : drop i fs ≡ f ∷ drop (i + 1) fs = drop-cons fs i f lt ∙ rw (← is, add-one) refl in
    let one : with_front front (fields_at (field_trees (drop i fs)) p) ≡ with_front (front ++ v ∷ [])
    (fields_at (field_trees (drop (i + 1) fs)) q) =
    rw (k, h) (regroup front v (fields_at (field_trees (drop (i + 1) fs)) q)) in
    sym one ∙ so_far

pub fields_fail : (e : Refusal) (fs : List Field) (i : ℕ) (f : Field) (front : List Value) (p : Position)
    (total : Read (List Value)) → i < length fs → f ≡ get_or fs i f → datum_at (tree f.schema) p ≡ Err e
    → with_front front (fields_at (field_trees (drop i fs)) p) ≡ total → total ≡ Err e
unfolding fields_at
fields_fail g fs i f front p total lt is h so_far =
    let k : drop i fs ≡ f ∷ drop (i + 1) fs = drop-cons fs i f lt ∙ rw (← is, add-one) refl in
    let one : with_front front (fields_at (field_trees (drop i fs)) p) ≡ Err g = rw (k, h) refl in
    sym so_far ∙ one

pub fields_done : (fs : List Field) (i : ℕ) (front : List Value) (p : Position) (total : Read (List Value))
    → length fs ≤ i → with_front front (fields_at (field_trees (drop i fs)) p) ≡ total → total ≡ Ok (front, p)
unfolding fields_at
fields_done fs i front p total le so_far =
    let k : drop i fs ≡ [] = drop_of_length-le fs le in
    let one : with_front front (fields_at (field_trees (drop i fs)) p) ≡ Ok (front, p) =
    rw k (ap (λ (vs : List Value). Ok (vs, p)) (append-nil front)) in
    sym so_far ∙ one

-- ---- the blocks of an array

pub blocks_done : {A : Type 0} (read : Position → Read A) (front : List A) (turns : ℕ) (p q : Position) (n : ℕ)
    (total : Read (List A)) → 0 < turns → n ≡ 0 → count_at p ≡ Ok (n, q)
    → with_front front (blocks_at read turns p) ≡ total → total ≡ Ok (front, q)
unfolding blocks_at
blocks_done {A} read front zero p q n total lt none h so_far = absurd (omega arith)
blocks_done {A} read front (suc turns) p q n total lt none h so_far =
    let one : with_front front (blocks_at read (suc turns) p) ≡ Ok (front, q) = rw (h, none)
    (ap (λ (vs : List A). Ok (vs, q)) (append-nil front)) in
    sym so_far ∙ one

pub count_fails : {A : Type 0} (e : Refusal) (read : Position → Read A) (front : List A) (turns : ℕ) (p : Position)
    (total : Read (List A)) → 0 < turns → count_at p ≡ Err e → with_front front (blocks_at read turns p) ≡ total
    → total ≡ Err e
unfolding blocks_at
count_fails {A} e read front zero p total lt h so_far = absurd (omega arith)
count_fails {A} f read front (suc turns) p total lt h so_far =
    let one : with_front front (blocks_at read (suc turns) p) ≡ Err f = rw h refl in
    sym so_far ∙ one

pub front_of_err : {A : Type 0} (front : List A) (read : Read (List A)) (f : Refusal) → with_front front read ≡ Err f
    → read ≡ Err f
front_of_err {A} front (Ok x) f e = absurd cc
front_of_err {A} front (Err g) f e = e

pub front_of_ok : {A : Type 0} (front : List A) (read : Read (List A)) (vs : List A) (q : Position)
    → with_front front read ≡ Ok (vs, q) → (here : List A) × (read ≡ Ok (here, q)) × (vs ≡ front ++ here)
front_of_ok {A} front (Ok x) vs q e =
    let same = ok_is (front ++ x.0, x.1) (vs, q) e in
    (x.0, ap (λ (y : List A × Position). Ok (x.0, y.1)) same, sym (ap (λ (y : List A × Position). y.0) same))
front_of_ok {A} front (Err g) vs q e = absurd cc

pub block_fails : {A : Type 0} (e : Refusal) (read : Position → Read A) (front : List A) (turns : ℕ) (p q : Position)
    (n : ℕ) (total : Read (List A)) → 0 < turns → n ≢ 0 → count_at p ≡ Ok (n, q)
    → with_front front (values_at read n q) ≡ Err e
    → with_front front (blocks_at read turns p) ≡ total → total ≡ Err e
unfolding blocks_at
block_fails {A} e read front zero p q n total lt some h g so_far = absurd (omega arith)
block_fails {A} e read front (suc turns) p q zero total lt some h g so_far = absurd (some refl)
block_fails {A} f read front (suc turns) p q (suc n) total lt some h g so_far =
    let one : with_front front (blocks_at read (suc turns) p) ≡ Err f =
    rw (h, front_of_err front (values_at read (suc n) q) f g) refl in
    sym so_far ∙ one

-- what is left to read after a block
pub record GoesOn {A : Type 0} (read : Position → Read A) (turns : ℕ) (front : List A) (q : Position)
    (total : Read (List A)) : Type 0 where
  pub fewer : ℕ
  pub one_less : turns ≡ suc fewer
  pub so_far : with_front front (blocks_at read fewer q) ≡ total

block_read : {A : Type 0} (read : Position → Read A) (front : List A) (turns : ℕ) (p q : Position) (n : ℕ)
    (here vs : List A) (r : Position) → count_at p ≡ Ok (suc n, q) → values_at read (suc n) q ≡ Ok (here, r)
    → vs ≡ front ++ here
    → with_front front (blocks_at read (suc turns) p) ≡ with_front vs (blocks_at read turns r)
unfolding blocks_at
block_read {A} read front turns p q n here vs r h g is = rw (h, g, is) (regroup_all front here (blocks_at read turns r))

pub blocks_on : {A : Type 0} (read : Position → Read A) (front : List A) (turns : ℕ) (p q : Position) (n : ℕ)
    (vs : List A) (r : Position) (total : Read (List A)) → 0 < turns → n ≢ 0 → count_at p ≡ Ok (n, q)
    → with_front front (values_at read n q) ≡ Ok (vs, r)
    → with_front front (blocks_at read turns p) ≡ total → GoesOn read turns vs r total
unfolding blocks_at
blocks_on {A} read front zero p q n vs r total lt some h g so_far = absurd (omega arith)
blocks_on {A} read front (suc turns) p q zero vs r total lt some h g so_far = absurd (some refl)
blocks_on {A} read front (suc turns) p q (suc n) vs r total lt some h g so_far =
    let found = front_of_ok front (values_at read (suc n) q) vs r g in
    record {
      fewer = turns;
      one_less = refl;
      so_far = sym (block_read read front turns p q n found.0 vs r h found.1
          found.2) ∙ so_far;
    }

groups_len : (bytes : List ℕ) (n : ℕ) → IsGroups bytes n → 0 < length bytes
groups_len [] n is = absurd is
groups_len (b ∷ bytes) n is = omega arith

pub long_len : (bytes : List ℕ) (z : ℤ) → IsLong bytes z → 0 < length bytes
long_len bytes z is = groups_len bytes is.0 is.1.0

-- a count takes some bytes
pub count_len : (n : ℕ) (bytes : List ℕ) → IsCount n bytes → 0 < length bytes
count_len n bytes (inl is) = long_len bytes (pos n) is
count_len n bytes (inr is) = let h = long_len is.3 (negsuc is.0) is.5 in
    omega (arith, ap length is.7, length-append is.3 is.4)

-- a block takes some bytes
pub shorter : {A : Type 0} (read : Position → Read A) (P : A → List ℕ → Type 0) (cost : A → ℕ) → Each read P cost
    → (front : List A) (p q : Position) (n : ℕ) (vs : List A) (r : Position) → count_at p ≡ Ok (n, q)
    → with_front front (values_at read n q) ≡ Ok (vs, r) → length r.bytes < length p.bytes
shorter read P cost each front p q n vs r h g =
    let c = count_takes p (n, q) h in
    let here = front_of_ok front (values_at read n q) vs r g in
    let v = values_take read P cost each n q (here.0, r) here.1 in
    omega (
      arith,
      ap length c.parts,
      ap length v.0.parts,
      length-append c.front q.bytes,
      length-append v.0.front
          r.bytes,
      count_len n c.front c.spelled,
    )
