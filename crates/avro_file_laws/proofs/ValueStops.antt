-- Where reading stops in a value.
use Rattle.std.proofs.Common.{◌≡◌, ℕ, zero, suc, ◌+◌, ◌^◌, ◌≤◌, ℤ, pos, negsuc, List, ◌∷◌, ◌++◌, length, Result, Ok}
use Rattle.std.proofs.Common.{Err, ◌⊎◌, inl, inr, refl, sym, subst, arith}
use Rattle.contract_words.specs.Outcome.{◌>>=◌}
use Rattle.avro_schema.specs.Tree.{Tree, null, boolean, int, long, float, double, symbols, octets, string, fixed}
use Rattle.avro_schema.specs.Tree.{structure, array, map, union, Fields, no_fields, field, Branches, no_branches}
use Rattle.avro_schema.specs.Tree.{branch}
use Rattle.avro_file_parts.specs.declared.refusal.Refusal.{Refusal}
use Rattle.avro_file_parts.specs.declared.refusal.Refusal.TheVariants as refusal
use Rattle.avro_file_parts.specs.Number.{IsLong, long_at, int_at}
use Rattle.avro_file_parts.specs.Parts.{Position, boolean_at, run_at, bytes_at, string_at, symbol_at}
use Rattle.avro_file.specs.declared.fault.AvroFault.TheVariants as fault
use Rattle.avro_file.specs.Value.{Value, truth, small, whole, single, twice, symbol, text, run, raw, chosen, values_of}
use Rattle.avro_file.specs.Value.{fields, items, entries, Pair, entries_of}
use Rattle.avro_file.specs.Reading.{leaf, blocks_at, entry_at, chosen_by, datum_at, fields_at, branch_at}
use Rattle.avro_file.specs.Spelling.{IsEntry, Spells, item_count, item_counts, entry_counts}
use Rattle.avro_file.specs.Blocks.{max_items}
use Rattle.avro_file.proofs.Steps.{joined}
use Rattle.avro_file.proofs.Taken.{long_takes, counts, entry_cost, entries_held, fields_held, entry_takes}
use Rattle.avro_file.proofs.Taken.{entries_len-entries_of, datum_takes}
use Rattle.avro_file_laws.specs.Parts.{Part, a_long, an_int, a_symbol, a_branch, a_count, a_truth, some_bytes}
use Rattle.avro_file_laws.specs.Parts.{IsPosition}
use Rattle.avro_file_laws.specs.Coming.{Coming, Comes, ComesInEntry, ComesInFields, ComesInBranch, IsFirst}
use Rattle.avro_file_laws.specs.Coming.{branch_count}
use Rattle.avro_file_laws.proofs.Numbers.{err_is, bind_err, NumberErr, long_err, int_err}
use Rattle.avro_file_laws.proofs.Bad.{Bad, bad_long, bad_int, run_err, truth_err, symbol_err, bytes_err, string_err}
use Rattle.avro_file_laws.proofs.Bad.{Found}
use Rattle.avro_file_laws.proofs.Bad.{first_found}
use Rattle.avro_file_laws.proofs.Stopped.{Stops, ComesInSome, items_found, blocks_stop, entry_stops}

pub values_inner : (vs : List Value) → item_counts (values_of vs) ≡ counts item_count vs
values_inner vs = sym (fields_held vs)

pub entries_inner : (es : List Pair) → entry_counts (entries_of es) ≡ counts entry_cost es
entries_inner es = omega (arith, entries_held es, entries_len-entries_of es)

-- the same place, seen as one in something that holds it
pub seen_in : (C D : Coming) (base most : ℕ) (bytes : List ℕ) (e : Refusal)
    → ((k : ℕ) (front : List ℕ) (part : Part) → C k front part → D k front part) → Found C base most bytes e
    → Found D base most bytes e
seen_in C D base most bytes e inside f = record {
  items = f.items;
  part = f.part;
  front = f.front;
  rest = f.rest;
  comes = inside f.items f.front f.part f.comes;
  few = f.few;
  bad = f.bad;
  parts = f.parts;
}

-- the same place, behind what was read before
behind_front : (C D : Coming) (base more most : ℕ) (bytes front after : List ℕ) (e : Refusal) → bytes ≡ front ++ after
    → ((k : ℕ) (back : List ℕ) (part : Part) → C k back part → D (more + k) (front ++ back) part)
    → Found C (base + more) most after e → Found D base most bytes e
behind_front C D base more most bytes front after e parts inside f =
    let sums : (base + more) + f.items ≡ base + (more + f.items) = omega arith in
    record {
      items = more + f.items;
      part = f.part;
      front = front ++ f.front;
      rest = f.rest;
      comes = inside f.items f.front f.part f.comes;
      few = omega (arith, f.few);
      bad = subst (λ (k : ℕ). Bad k f.part f.rest e) sums f.bad;
      parts = joined bytes front after f.front f.rest parts f.parts;
    }

leaf_err : {A : Type 0} (make : A → Value) (left : ℕ) (read : Result (A × List ℕ) Refusal) (e : Refusal)
    → leaf make left read ≡ Err e → read ≡ Err e
leaf_err {A} make left read e h =
    elim (bind_err read (λ x. Ok (make x.0, record { bytes = x.1; left = left })) e h) [
      | inl g ↦ g
      | inr g ↦ absurd (let m = g.2 in cc)
    ]

fixed_found : (n base : ℕ) (p : Position) (e : Refusal) → base + p.left ≡ max_items → run_at n p.bytes ≡ Err e
    → Found (IsFirst (some_bytes n)) base max_items p.bytes e
fixed_found n base p e total h = first_found (some_bytes n) base max_items p.bytes e (omega (arith, total))
    (inl (run_err base n p.bytes e h))

-- ---- unions

bad_branch : (base count : ℕ) (bytes : List ℕ) (e : Refusal) → NumberErr (2 ^ 64) bytes e
    → Bad base (a_branch count) bytes e
bad_branch base count bytes e (inl h) = inl h
bad_branch base count bytes e (inr h) = inr (fault.BadNumber, h.0, inl (refl, h.1))

position_found : (bs : Branches) (base : ℕ) (p : Position) (e : Refusal) → base + p.left ≡ max_items
    → Bad base (a_branch (branch_count bs)) p.bytes e → Found (Comes (union bs)) base max_items p.bytes e
position_found bs base p e total bad = seen_in (IsFirst (a_branch (branch_count bs))) (Comes (union bs)) base max_items
    p.bytes e (λ k front part is. inl is) (first_found (a_branch (branch_count bs)) base max_items p.bytes e
    (omega (arith, total)) bad)

-- no branch stands there
no_branch : (bs : Branches) (base : ℕ) (p : Position) (e : Refusal) (z : ℤ) (front rest : List ℕ)
    → base + p.left ≡ max_items → IsLong front z → p.bytes ≡ front ++ rest → (IsPosition (branch_count bs) z → ⊥)
    → e ≡ refusal.BadUnion → Found (Comes (union bs)) base max_items p.bytes e
no_branch bs base p e z front rest total is parts not same = position_found bs base p e total
    (inr (fault.BadUnion, same, inr (refl, (z, front, rest, is, not, parts))))

pos_is : (k m : ℕ) → pos k ≡ pos m → k ≡ m
pos_is k m e = cc

no_pos : (k m : ℕ) → negsuc k ≡ pos m → ⊥
no_pos k m e = absurd cc

abbrev BranchStops : Branches → ℕ → ℕ → Position → Refusal → Type 0
BranchStops bs n base p e = Found (ComesInBranch bs n) base max_items p.bytes e
    ⊎ ((branch_count bs ≤ n) × (e ≡ refusal.BadUnion))

union_stops : (bs : Branches) (n base : ℕ) (p : Position) (front after : List ℕ) (e : Refusal)
    → base + p.left ≡ max_items → IsLong front (pos n) → p.bytes ≡ front ++ after
    → BranchStops bs n base (record { bytes = after; left = p.left }) e
    → Found (Comes (union bs)) base max_items p.bytes e
union_stops bs n base p front after e total is parts (inl f) = record {
  items = f.items;
  part = f.part;
  front = front ++ f.front;
  rest = f.rest;
  comes = inr (n, front, f.front, is, f.comes, refl);
  few = f.few;
  bad = f.bad;
  parts = joined p.bytes front after f.front f.rest parts f.parts;
}
union_stops bs n base p front after e total is parts (inr h) = no_branch bs base p e (pos n) front after total is parts
    (λ g. omega (arith, pos_is n g.0 g.1, g.2, h.0)) h.1

chosen_stops : (bs : Branches) (z : ℤ) (base : ℕ) (p : Position) (front after : List ℕ) (e : Refusal)
    → ((n : ℕ) → branch_at bs n (record { bytes = after; left = p.left }) ≡ Err e
    → BranchStops bs n base (record { bytes = after; left = p.left }) e)
    → base + p.left ≡ max_items → IsLong front z → p.bytes ≡ front ++ after
    → chosen_by (branch_at bs) z (record { bytes = after; left = p.left }) ≡ Err e
    → Found (Comes (union bs)) base max_items p.bytes e
chosen_stops bs (pos n) base p front after e stops total is parts h =
    elim (bind_err (branch_at bs n (record { bytes = after; left = p.left })) (λ x. Ok (chosen n x.0, x.1)) e h) [
      | inl g ↦ union_stops bs n base p front after e total is parts (stops n g)
      | inr g ↦ absurd (let m = g.2 in cc)
    ]
chosen_stops bs (negsuc n) base p front after e stops total is parts h = no_branch bs base p e (negsuc n) front after
    total is parts (λ g. no_pos n g.0 g.1) (sym (err_is {A = Value × Position} refusal.BadUnion e h))

-- ---- every schema

mutual
  unfolding datum_at fields_at branch_at

  pub datum_stops : (s : Tree) (e : Refusal) → Stops (datum_at s) (Comes s) max_items e
  datum_stops null e base p total h = absurd (let m = h in cc)
  datum_stops boolean e base p total h = first_found a_truth base max_items p.bytes e (omega (arith, total))
      (truth_err base p.bytes e (leaf_err truth p.left (boolean_at p.bytes) e h))
  datum_stops long e base p total h = first_found a_long base max_items p.bytes e (omega (arith, total))
      (bad_long base p.bytes e (long_err p.bytes e (leaf_err whole p.left (long_at p.bytes) e h)))
  datum_stops int e base p total h = first_found an_int base max_items p.bytes e (omega (arith, total))
      (bad_int base p.bytes e (int_err p.bytes e (leaf_err small p.left (int_at p.bytes) e h)))
  datum_stops float e base p total h = fixed_found 4 base p e total (leaf_err single p.left (run_at 4 p.bytes) e h)
  datum_stops double e base p total h = fixed_found 8 base p e total (leaf_err twice p.left (run_at 8 p.bytes) e h)
  datum_stops (symbols n) e base p total h = first_found (a_symbol n) base max_items p.bytes e (omega (arith, total))
      (symbol_err base n p.bytes e (leaf_err symbol p.left (symbol_at n p.bytes) e h))
  datum_stops (octets kind) e base p total h = bytes_err base max_items (omega (arith, total)) p.bytes e
      (leaf_err run p.left (bytes_at p.bytes) e h)
  datum_stops string e base p total h = string_err base max_items (omega (arith, total)) p.bytes e
      (leaf_err text p.left (string_at p.bytes) e h)
  datum_stops (fixed n kind) e base p total h = fixed_found n base p e total (leaf_err raw p.left (run_at n p.bytes) e
      h)
  datum_stops (structure fs) e base p total h =
      elim (bind_err (fields_at fs p) (λ x. Ok (fields (values_of x.0), x.1)) e h) [
        | inl g ↦ seen_in (ComesInFields fs) (Comes (structure fs)) base max_items p.bytes e (λ k front part is. is)
            (fields_stops fs e base p total g)
        | inr g ↦ absurd (let m = g.2 in cc)
      ]
  datum_stops (array s id kind) e base p total h =
      elim (bind_err (blocks_at (datum_at s) (suc (length p.bytes)) p) (λ x. Ok (items (values_of x.0), x.1)) e h) [
        | inl g ↦ seen_in (ComesInSome a_count (Spells s) (λ vs. item_counts (values_of vs)) (Comes s))
            (Comes (array s id kind)) base max_items p.bytes e (λ k front part is. is)
            (blocks_stop Value (datum_at s) (Spells s) item_count (λ vs. item_counts (values_of vs)) (Comes s) max_items
            e (datum_takes s) values_inner (datum_stops s e) a_count (λ b q. items_found b q e) (suc (length p.bytes))
            base p (omega arith) total g)
        | inr g ↦ absurd (let m = g.2 in cc)
      ]
  datum_stops (map s) e base p total h =
      elim (bind_err (blocks_at (entry_at (datum_at s)) (suc (length p.bytes)) p) (λ x. Ok
      (entries (entries_of x.0), x.1)) e h) [
        | inl g ↦ seen_in (ComesInSome a_count (IsEntry (Spells s)) (λ es. entry_counts (entries_of es))
            (ComesInEntry (Comes s))) (Comes (map s)) base max_items p.bytes e (λ k front part is. is)
            (blocks_stop Pair (entry_at (datum_at s)) (IsEntry (Spells s)) entry_cost
            (λ es. entry_counts (entries_of es)) (ComesInEntry (Comes s)) max_items e
            (entry_takes (datum_at s) (Spells s) (datum_takes s)) entries_inner
            (entry_stops (datum_at s) (Comes s) max_items e (datum_stops s e)) a_count (λ b q. items_found b q e)
            (suc (length p.bytes)) base p (omega arith) total g)
        | inr g ↦ absurd (let m = g.2 in cc)
      ]
  datum_stops (union bs) e base p total h =
      elim (bind_err (long_at p.bytes) (λ n. chosen_by (branch_at bs) n.0 (record { bytes = n.1; left = p.left })) e
      h) [
        | inl g ↦ position_found bs base p e total (bad_branch base (branch_count bs) p.bytes e (long_err p.bytes e g))
        | inr g ↦
            let t = long_takes p.bytes g.0 g.1 in
            chosen_stops bs g.0.0 base p t.front g.0.1 e
            (λ n k. branch_stops bs n e base (record { bytes = g.0.1; left = p.left }) total k) total t.spelled t.parts
            g.2
      ]

  fields_stops : (fs : Fields) (e : Refusal) → Stops (fields_at fs) (ComesInFields fs) max_items e
  fields_stops no_fields e base p total h = absurd (let m = h in cc)
  fields_stops (field id s fs) e base p total h =
      elim (bind_err (datum_at s p) (λ first. fields_at fs first.1 >>= λ others. Ok
      (first.0 ∷ others.0, others.1)) e h) [
        | inl g ↦ seen_in (Comes s) (ComesInFields (field id s fs)) base max_items p.bytes e (λ k front part is. inl is)
            (datum_stops s e base p total g)
        | inr g ↦
            let t = datum_takes s p g.0 g.1 in
            elim (bind_err (fields_at fs g.0.1) (λ others. Ok (g.0.0 ∷ others.0, others.1)) e g.2) [
              | inl k ↦ behind_front (ComesInFields fs) (ComesInFields (field id s fs)) base (item_count g.0.0)
                  max_items p.bytes t.front g.0.1.bytes e t.parts
                  (λ m back part is. inr (g.0.0, m, t.front, back, t.spelled, is, refl, refl))
                  (fields_stops fs e (base + item_count g.0.0) g.0.1 (omega (arith, total, t.left)) k)
              | inr k ↦ absurd (let m = k.2 in cc)
            ]
      ]

  branch_stops : (bs : Branches) (n : ℕ) (e : Refusal) (base : ℕ) (p : Position) → base + p.left ≡ max_items
      → branch_at bs n p ≡ Err e → BranchStops bs n base p e
  branch_stops no_branches n e base p total h =
      inr (omega arith, sym (err_is {A = Value × Position} refusal.BadUnion e h))
  branch_stops (branch s bs) zero e base p total h = inl (datum_stops s e base p total h)
  branch_stops (branch s bs) (suc n) e base p total h =
      elim (branch_stops bs n e base p total h) [
        | inl f ↦ inl f
        | inr g ↦ inr (omega (arith, g.0), g.1)
      ]
