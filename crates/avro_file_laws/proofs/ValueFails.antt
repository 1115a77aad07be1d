-- A value stops where a part of it comes that the bytes do not hold.
use Rattle.std.proofs.Common.{◌≡◌, ℕ, zero, suc, ◌+◌, ◌-◌, ◌≤◌, ℤ, pos, negsuc, ltb, List, ◌++◌, length, Result, Ok}
use Rattle.std.proofs.Common.{Err, inl, inr, refl, sym, ap, subst, ◌∙◌, append_assoc, arith}
use Rattle.std.proofs.lemmas.Bool.{ltb-true, ltb-false}
use Rattle.contract_words.specs.Outcome.{◌>>=◌}
use Rattle.avro_schema.specs.Tree.{Tree, null, boolean, int, long, float, double, symbols, octets, string, fixed}
use Rattle.avro_schema.specs.Tree.{structure, array, map, union, Fields, no_fields, field, Branches, no_branches}
use Rattle.avro_schema.specs.Tree.{branch}
use Rattle.avro_file_parts.specs.declared.refusal.Refusal.{Refusal}
use Rattle.avro_file_parts.specs.declared.refusal.Refusal.TheVariants as refusal
use Rattle.avro_file_parts.specs.Number.{IsLong, long_at, int_at}
use Rattle.avro_file_parts.specs.Parts.{Position, Read, boolean_at, run_at, bytes_at, string_at, symbol_at}
use Rattle.avro_file.specs.declared.fault.AvroFault.TheVariants as fault
use Rattle.avro_file.specs.Value.{Value, truth, small, whole, single, twice, symbol, text, run, raw, values_of, Pair}
use Rattle.avro_file.specs.Value.{entries_of}
use Rattle.avro_file.specs.Reading.{leaf, entry_at, chosen_by, datum_at, fields_at, branch_at}
use Rattle.avro_file.specs.Spelling.{IsEntry, Spells, item_count, item_counts, entry_counts}
use Rattle.avro_file.specs.Blocks.{max_items}
use Rattle.avro_file.proofs.Taken.{entry_cost}
use Rattle.avro_file.proofs.Again.{long_again, datum_again}
use Rattle.avro_file_laws.specs.Parts.{Part, a_long, an_int, a_symbol, a_branch, a_count, a_truth, some_bytes}
use Rattle.avro_file_laws.specs.Parts.{StandsWrong}
use Rattle.avro_file_laws.specs.Parts.{IsPosition}
use Rattle.avro_file_laws.specs.Coming.{Comes, ComesInEntry, ComesInFields, ComesInBranch, ComesInUnion, IsFirst}
use Rattle.avro_file_laws.specs.Coming.{branch_count}
use Rattle.avro_file_laws.proofs.Numbers.{which_way, long_fails, int_fails}
use Rattle.avro_file_laws.proofs.Bad.{Bad, long_is_bad, int_is_bad, refusal_is, run_fails, truth_fails, symbol_fails}
use Rattle.avro_file_laws.proofs.Bad.{bytes_fail, string_comes, first_is_bad, Found}
use Rattle.avro_file_laws.proofs.Stopped.{ComesInSome}
use Rattle.avro_file_laws.proofs.ValueStops.{values_inner, entries_inner, seen_in}
use Rattle.avro_file_laws.proofs.Failing.{Fails, items_fail, some_block_fails, entry_again, entry_fails}

leaf_fails : {A : Type 0} (make : A → Value) (left : ℕ) (read : Result (A × List ℕ) Refusal) (e : Refusal)
    → read ≡ Err e → leaf make left read ≡ Err e
leaf_fails make left read e h = rw h refl

-- the part that is the whole value
whole_part : (first : Part) (base : ℕ) (bytes : List ℕ) (e : Refusal) → Found (IsFirst first) base max_items bytes e
    → Bad base first bytes e
whole_part first base bytes e f = first_is_bad first base f.items f.part f.front f.rest bytes e f.comes f.bad f.parts

-- ---- unions

abbrev union_at : Branches → Position → Read Value
union_at bs p = long_at p.bytes >>= λ n. chosen_by (branch_at bs) n.0 (record { bytes = n.1; left = p.left })

position_stops : (bs : Branches) (p : Position) (e : Refusal) → long_at p.bytes ≡ Err e → union_at bs p ≡ Err e
position_stops bs p e h = rw h refl

no_branch : (bs : Branches) (n : ℕ) (p : Position) → branch_count bs ≤ n → branch_at bs n p ≡ Err refusal.BadUnion
unfolding branch_at
no_branch no_branches n p le = refl
no_branch (branch s bs) zero p le = absurd (omega (arith, le))
no_branch (branch s bs) (suc n) p le = no_branch bs n p (omega (arith, le))

chosen_wrong : (bs : Branches) (z : ℤ) (p : Position) → (IsPosition (branch_count bs) z → ⊥)
    → chosen_by (branch_at bs) z p ≡ Err refusal.BadUnion
chosen_wrong bs (pos n) p not =
    elim (which_way (ltb n (branch_count bs))) [
      | inl g ↦ absurd (not (n, refl, ltb-true _ _ g))
      | inr g ↦ rw (no_branch bs n p (ltb-false _ _ g)) refl
    ]
chosen_wrong bs (negsuc n) p not = refl

union_wrong : (bs : Branches) (p : Position) → StandsWrong IsLong (IsPosition (branch_count bs)) p.bytes
    → union_at bs p ≡ Err refusal.BadUnion
union_wrong bs p h = rw (h.5, long_again h.1 h.0 h.2 h.3) (chosen_wrong bs h.0 (record { bytes = h.2; left = p.left })
    h.4)

position_fails : (bs : Branches) (base : ℕ) (p : Position) (e : Refusal)
    → Bad base (a_branch (branch_count bs)) p.bytes e
    → union_at bs p ≡ Err e
position_fails bs base p e (inl h) = position_stops bs p e (long_fails p.bytes e (inl h))
position_fails bs base p e (inr h) =
    elim h.2 [
      | inl k ↦ position_stops bs p e (long_fails p.bytes e (inr (
        refusal_is e refusal.BadNumber h.0 fault.BadNumber h.1 k.0 refl,
        k.1,
      )))
      | inr k ↦ union_wrong bs p k.1 ∙ ap (λ (y : Refusal). Err y)
          (sym (refusal_is e refusal.BadUnion h.0 fault.BadUnion h.1 k.0 refl))
    ]

branch_fails : (bs : Branches) (n : ℕ) (p : Position) (front after : List ℕ) (e : Refusal) → IsLong front (pos n)
    → p.bytes ≡ front ++ after → branch_at bs n (record { bytes = after; left = p.left }) ≡ Err e
    → union_at bs p ≡ Err e
branch_fails bs n p front after e is parts h = rw (parts, long_again front (pos n) after is, h) refl

in_union_fails : (bs : Branches) (items base : ℕ) (part : Part) (front rest : List ℕ) (p : Position) (e : Refusal)
    → ((n : ℕ) → Fails (branch_at bs n) (ComesInBranch bs n) max_items e) → base + p.left ≡ max_items
    → ComesInUnion (a_branch (branch_count bs)) (ComesInBranch bs) items front part → base + items ≤ max_items
    → Bad (base + items) part rest e → p.bytes ≡ front ++ rest → union_at bs p ≡ Err e
in_union_fails bs items base part front rest p e fails total (inl is) few bad parts = position_fails bs base p e
    (first_is_bad (a_branch (branch_count bs)) base items part front rest p.bytes e is bad parts)
in_union_fails bs items base part front rest p e fails total (inr is) few bad parts =
    let all : p.bytes ≡ is.1 ++ (is.2 ++ rest) = parts ∙ ap (λ (t : List ℕ). t ++ rest) is.5 ∙ append_assoc is.1 is.2
    rest in
    let f : Found (ComesInBranch bs is.0) base max_items (is.2 ++ rest) e = record {
      items = items;
      part = part;
      front = is.2;
      rest = rest;
      comes = is.4;
      few = few;
      bad = bad;
      parts = refl;
    } in
    branch_fails bs is.0 p is.1 (is.2 ++ rest) e is.3 all (fails is.0 base (record {
      bytes = is.2 ++ rest;
      left = p.left;
    }) total f)

-- ---- records

first_field_fails : (id : _) (s : Tree) (fs : Fields) (p : Position) (e : Refusal) → datum_at s p ≡ Err e
    → fields_at (field id s fs) p ≡ Err e
unfolding fields_at
first_field_fails id s fs p e h = rw h refl

later_field_fails : (id : _) (s : Tree) (fs : Fields) (p q : Position) (v : Value) (e : Refusal)
    → datum_at s p ≡ Ok (v, q) → fields_at fs q ≡ Err e → fields_at (field id s fs) p ≡ Err e
unfolding fields_at
later_field_fails id s fs p q v e h k = rw (h, k) refl

in_fields_fails : (id : _) (s : Tree) (fs : Fields) (items base : ℕ) (part : Part) (front rest : List ℕ) (p : Position)
    (e : Refusal) → Fails (datum_at s) (Comes s) max_items e → Fails (fields_at fs) (ComesInFields fs) max_items e
    → base + p.left ≡ max_items → ComesInFields (field id s fs) items front part → base + items ≤ max_items
    → Bad (base + items) part rest e → p.bytes ≡ front ++ rest → fields_at (field id s fs) p ≡ Err e
in_fields_fails id s fs items base part front rest p e first others total (inl is) few bad parts =
    let f : Found (Comes s) base max_items p.bytes e = record {
      items = items;
      part = part;
      front = front;
      rest = rest;
      comes = is;
      few = few;
      bad = bad;
      parts = parts;
    } in
    first_field_fails id s fs p e (first base p total f)
in_fields_fails id s fs items base part front rest p e first others total (inr is) few bad parts =
    let cost = item_count is.0 in
    let q : Position = record { bytes = is.3 ++ rest; left = p.left - cost } in
    let enough : cost ≤ p.left = omega (arith, few, total, is.6) in
    let all : p.bytes ≡ is.2 ++ q.bytes = parts ∙ ap (λ (t : List ℕ). t ++ rest) is.7 ∙ append_assoc is.2 is.3 rest in
    let read : datum_at s p ≡ Ok (is.0, q) = datum_again s is.0 is.2 p q is.4 all (omega (arith, enough)) in
    let sums : base + items ≡ (base + cost) + is.1 = omega (arith, is.6) in
    let f : Found (ComesInFields fs) (base + cost) max_items q.bytes e = record {
      items = is.1;
      part = part;
      front = is.3;
      rest = rest;
      comes = is.5;
      few = omega (arith, few, sums);
      bad = subst (λ (k : ℕ). Bad k part rest e) sums bad;
      parts = refl;
    } in
    later_field_fails id s fs p q is.0 e read (others (base + cost) q (omega (arith, total, enough)) f)

-- ---- every schema

mutual
  unfolding datum_at fields_at branch_at

  pub datum_fails : (s : Tree) (e : Refusal) → Fails (datum_at s) (Comes s) max_items e
  datum_fails null e base p total f = absurd f.comes
  datum_fails boolean e base p total f = leaf_fails truth p.left (boolean_at p.bytes) e
      (truth_fails base p.bytes e (whole_part a_truth base p.bytes e f))
  datum_fails long e base p total f = leaf_fails whole p.left (long_at p.bytes) e
      (long_fails p.bytes e (long_is_bad base p.bytes e (whole_part a_long base p.bytes e f)))
  datum_fails int e base p total f = leaf_fails small p.left (int_at p.bytes) e
      (int_fails p.bytes e (int_is_bad base p.bytes e (whole_part an_int base p.bytes e f)))
  datum_fails float e base p total f = leaf_fails single p.left (run_at 4 p.bytes) e
      (run_fails base 4 p.bytes e (whole_part (some_bytes 4) base p.bytes e f))
  datum_fails double e base p total f = leaf_fails twice p.left (run_at 8 p.bytes) e
      (run_fails base 8 p.bytes e (whole_part (some_bytes 8) base p.bytes e f))
  datum_fails (symbols n) e base p total f = leaf_fails symbol p.left (symbol_at n p.bytes) e
      (symbol_fails base n p.bytes e (whole_part (a_symbol n) base p.bytes e f))
  datum_fails (octets kind) e base p total f = leaf_fails run p.left (bytes_at p.bytes) e
      (bytes_fail base max_items p.bytes e f)
  datum_fails string e base p total f = leaf_fails text p.left (string_at p.bytes) e
      (string_comes base f.items f.part f.front f.rest p.bytes e f.comes f.bad f.parts)
  datum_fails (fixed n kind) e base p total f = leaf_fails raw p.left (run_at n p.bytes) e
      (run_fails base n p.bytes e (whole_part (some_bytes n) base p.bytes e f))
  datum_fails (structure fs) e base p total f = rw (fields_fail fs e base p total
      (seen_in (Comes (structure fs)) (ComesInFields fs) base max_items p.bytes e (λ k front part is. is) f)) refl
  datum_fails (array s id kind) e base p total f =
      rw (some_block_fails Value (datum_at s) (Spells s) item_count (λ vs. item_counts (values_of vs)) (Comes s)
      max_items e (datum_again s) values_inner (datum_fails s e) a_count (items_fail e) (suc (length p.bytes)) base p
      (omega arith) total (seen_in (Comes (array s id kind)) (ComesInSome a_count (Spells s)
      (λ vs. item_counts (values_of vs)) (Comes s)) base max_items p.bytes e (λ k front part is. is) f)) refl
  datum_fails (map s) e base p total f =
      rw (some_block_fails Pair (entry_at (datum_at s)) (IsEntry (Spells s)) entry_cost
      (λ es. entry_counts (entries_of es)) (ComesInEntry (Comes s)) max_items e (entry_again (datum_at s) (Spells s)
      (datum_again s)) entries_inner (entry_fails (datum_at s) (Comes s) max_items e (datum_fails s e)) a_count
      (items_fail e) (suc (length p.bytes)) base p (omega arith) total (seen_in (Comes (map s))
      (ComesInSome a_count (IsEntry (Spells s)) (λ es. entry_counts (entries_of es)) (ComesInEntry (Comes s))) base
      max_items p.bytes e (λ k front part is. is) f)) refl
  datum_fails (union bs) e base p total f = in_union_fails bs f.items base f.part f.front f.rest p e
      (λ n. branch_fail bs n e) total f.comes f.few f.bad f.parts

  fields_fail : (fs : Fields) (e : Refusal) → Fails (fields_at fs) (ComesInFields fs) max_items e
  fields_fail no_fields e base p total f = absurd f.comes
  fields_fail (field id s fs) e base p total f = in_fields_fails id s fs f.items base f.part f.front f.rest p e
      (datum_fails s e) (fields_fail fs e) total f.comes f.few f.bad f.parts

  branch_fail : (bs : Branches) (n : ℕ) (e : Refusal) → Fails (branch_at bs n) (ComesInBranch bs n) max_items e
  branch_fail no_branches n e base p total f = absurd f.comes
  branch_fail (branch s bs) zero e base p total f = datum_fails s e base p total f
  branch_fail (branch s bs) (suc n) e base p total f = branch_fail bs n e base p total (seen_in
      (ComesInBranch (branch s bs) (suc n)) (ComesInBranch bs n) base max_items p.bytes e (λ k front part is. is) f)
