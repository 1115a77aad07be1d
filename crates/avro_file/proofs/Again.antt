-- What is spelled so is read, and nothing else is.
use Rattle.std.proofs.Common.{◌≡◌, ℕ, zero, suc, ◌+◌, ◌-◌, ◌^◌, ◌<◌, ◌≤◌, ℤ, pos, negsuc, Bool, true, false, ltb, List}
use Rattle.std.proofs.Common.{[], ◌∷◌, ◌++◌, length, Result, Ok, inl, inr, refl, sym, ap, ◌∙◌, append_assoc, arith}
use Rattle.std.specs.Str.{IsUtf8}
use Rattle.std.proofs.lemmas.Bool.{lt-ltb, le-ltb}
use Rattle.std.proofs.lemmas.List.{take_at, drop_at, length-append}
use Rattle.std.proofs.lemmas.Str.{is_utf8-from_IsUtf8}
use Rattle.avro_file_parts.specs.declared.refusal.Refusal.{Refusal}
use Rattle.contract_words.specs.Outcome.{◌>>=◌}
use Rattle.avro_file_parts.specs.Number.{IsGroups, IsNumber, IsLong, IsInt, int_at, groups_at, number_at, long_at}
use Rattle.avro_schema.specs.Tree.{Tree, null, boolean, int, long, float, double, symbols, octets, string, fixed}
use Rattle.avro_schema.specs.Tree.{structure, array, map, union, Fields, no_fields, field, Branches, no_branches}
use Rattle.avro_schema.specs.Tree.{branch}
use Rattle.avro_file.specs.Value.{Value, nothing, truth, small, whole, single, twice, symbol, text, run, raw}
use Rattle.avro_file_parts.specs.Parts.{Position, Read, boolean_at, run_at, bytes_at, string_at, symbol_at, count_at}
use Rattle.avro_file.specs.Reading.{leaf}
use Rattle.avro_file.specs.Reading.{values_at, block_then, blocks_at, chosen_by, entry_at, datum_at, fields_at}
use Rattle.avro_file.specs.Reading.{branch_at}
use Rattle.avro_file.specs.Spelling.{IsRun, bit, AreJoined, IsCount, AreBlocks, IsEntry, IsChosen, Spells, SpellsFields}
use Rattle.avro_file.specs.Spelling.{SpellsBranch, item_count}
use Rattle.avro_file.proofs.Taken.{counts, counts-append, items_held, entry_cost, entries_held, fields_held}
use Rattle.avro_file.proofs.Loop.{count_len}

-- ---- numbers

groups_again : (turns : ℕ) (bytes : List ℕ) (n : ℕ) (rest : List ℕ) → IsGroups bytes n → length bytes ≤ turns
    → groups_at turns (bytes ++ rest) ≡ Ok (n, rest)
unfolding groups_at
groups_again zero [] n rest is le = absurd is
groups_again zero (b ∷ bytes) n rest is le = absurd (omega arith)
groups_again (suc turns) [] n rest is le = absurd is
groups_again (suc turns) (b ∷ bytes) n rest (inl is) le = rw (lt-ltb _ _ is.0, is.1, is.2) refl
groups_again (suc turns) (b ∷ bytes) n rest (inr is) le = rw (
  le-ltb _ _ is.0,
  groups_again turns bytes is.1 rest is.3
      (omega arith),
  is.2,
) refl

number_again : (limit : ℕ) (bytes : List ℕ) (n : ℕ) (rest : List ℕ) → IsNumber limit bytes n
    → number_at limit (bytes ++ rest) ≡ Ok (n, rest)
unfolding number_at
number_again limit bytes n rest is = rw (groups_again 10 bytes n rest is.0 is.1, lt-ltb _ _ is.2) refl

pub long_again : (bytes : List ℕ) (z : ℤ) (rest : List ℕ) → IsLong bytes z → long_at (bytes ++ rest) ≡ Ok (z, rest)
unfolding long_at
long_again bytes z rest is = rw (number_again (2 ^ 64) bytes is.0 rest is.1, is.2) refl

int_again : (bytes : List ℕ) (z : ℤ) (rest : List ℕ) → IsInt bytes z → int_at (bytes ++ rest) ≡ Ok (z, rest)
unfolding int_at
int_again bytes z rest is = rw (number_again (2 ^ 32) bytes is.0 rest is.1, is.2) refl

symbol_again : (n k : ℕ) (bytes rest : List ℕ) → k < n → IsInt bytes (pos k)
    → symbol_at n (bytes ++ rest) ≡ Ok (k, rest)
unfolding symbol_at
symbol_again n k bytes rest lt is = rw (int_again bytes (pos k) rest is, lt-ltb _ _ lt) refl

-- ---- values that hold no others

boolean_again : (b : Bool) (rest : List ℕ) → boolean_at (bit b ∷ rest) ≡ Ok (b, rest)
unfolding boolean_at
boolean_again true rest = refl
boolean_again false rest = refl

pub run_again : (s rest : List ℕ) → run_at (length s) (s ++ rest) ≡ Ok (s, rest)
unfolding run_at
run_again s rest =
    let enough : ltb (length (s ++ rest)) (length s) ≡ false = le-ltb _ _ (omega (arith, length-append s rest)) in
    rw (enough, take_at s rest (length s) refl, drop_at s rest (length s) refl) refl

pub bytes_again : (s bytes rest : List ℕ) → IsRun s bytes → bytes_at (bytes ++ rest) ≡ Ok (s, rest)
unfolding bytes_at
bytes_again s bytes rest is =
    let regrouped : bytes ++ rest ≡ is.0 ++ (s ++ rest) = ap (λ (t : List ℕ). t ++ rest) is.2 ∙ append_assoc is.0 s
    rest in
    rw (regrouped, long_again is.0 (pos (length s)) (s ++ rest) is.1) (run_again s rest)

pub string_again : (s bytes rest : List ℕ) → IsUtf8 s → IsRun s bytes → string_at (bytes ++ rest) ≡ Ok (s, rest)
unfolding string_at
string_again s bytes rest utf8 is = rw (bytes_again s bytes rest is, is_utf8-from_IsUtf8 s utf8) refl

-- ---- values that hold others

pub at_is : (p q : Position) → p.bytes ≡ q.bytes → p.left ≡ q.left → p ≡ q
at_is p q e f = ap (λ (b : List ℕ). record { bytes = b; left = p.left }) e ∙ ap (λ (n : ℕ). record {
  bytes = q.bytes;
  left = n;
}) f

abbrev read_as : {A : Type 0} → A → Position → Read A
read_as x q = Ok (x, q)

pub ends_at : {A : Type 0} (x : A) (p q : Position) → p.bytes ≡ q.bytes → p.left ≡ q.left → read_as x p ≡ Ok (x, q)
ends_at x p q e f = ap (read_as x) (at_is p q e f)

leaf_again : {A : Type 0} (make : A → Value) (x : A) (p q : Position) (read : Result (A × List ℕ) Refusal)
    → read ≡ Ok (x, q.bytes) → p.left ≡ q.left → leaf make p.left read ≡ Ok (make x, q)
leaf_again make x p q read e f = rw e (ends_at (make x) (record { bytes = q.bytes; left = p.left }) q refl f)

count_again : (n : ℕ) (spelt : List ℕ) (p q : Position) → IsCount n spelt → p.bytes ≡ spelt ++ q.bytes
    → p.left ≡ q.left + n → count_at p ≡ Ok (n, q)
unfolding count_at
count_again n spelt p q (inl is) e f =
    let few : ltb p.left n ≡ false = le-ltb _ _ (omega arith) in
    rw (e, long_again spelt (pos n) q.bytes is, few) (ends_at n (record { bytes = q.bytes; left = p.left - n }) q refl
    (omega arith))
count_again n spelt p q (inr is) e f =
    let less = is.0 in
    let few : ltb p.left (suc less) ≡ false = le-ltb _ _ (omega (arith, is.1)) in
    let regrouped : p.bytes ≡ is.3 ++ (is.4 ++ q.bytes) = e ∙ ap (λ (t : List ℕ). t ++ q.bytes) is.7 ∙ append_assoc is.3
    is.4 q.bytes in
    rw (regrouped, long_again is.3 (negsuc less) (is.4 ++ q.bytes) is.5, few, long_again is.4 is.2 q.bytes is.6, is.1)
    (ends_at (suc less) (record { bytes = q.bytes; left = p.left - suc less }) q refl (omega (arith, is.1)))

abbrev pub ReadsAll : {A : Type 0} → (Position → Read A) → (A → List ℕ → Type 0) → (A → ℕ) → Type 0
ReadsAll {A} read P cost = (v : A) (spelt : List ℕ) (p q : Position) → P v spelt → p.bytes ≡ spelt ++ q.bytes
    → p.left ≡ q.left + cost v → read p ≡ Ok (v, q)

values_again : {A : Type 0} (read : Position → Read A) (P : A → List ℕ → Type 0) (cost : A → ℕ) → ReadsAll read P cost
    → (vs : List A) (spelt : List ℕ) (p q : Position) → AreJoined P vs spelt → p.bytes ≡ spelt ++ q.bytes
    → p.left ≡ q.left + counts cost vs → values_at read (length vs) p ≡ Ok (vs, q)
unfolding values_at
values_again read P cost all [] spelt p q is e f = ends_at [] p q (e ∙ ap (λ (t : List ℕ). t ++ q.bytes) is)
    (omega arith)
values_again read P cost all (v ∷ vs) spelt p q is e f =
    let mid : Position = record { bytes = is.1 ++ q.bytes; left = q.left + counts cost vs } in
    let first : read p ≡ Ok (v, mid) = all v is.0 p mid is.2 (e ∙ ap (λ (t : List ℕ). t ++ q.bytes) is.4 ∙ append_assoc
    is.0 is.1 q.bytes) (omega arith) in
    rw (first, values_again read P cost all vs is.1 mid q is.3 refl refl) refl

block_then_again : {A : Type 0} (read : Position → Read A) (others : Position → Read (List A)) (n : ℕ)
    (p mid q : Position) (here after : List A) → 0 < n → values_at read n p ≡ Ok (here, mid)
    → others mid ≡ Ok (after, q) → block_then read others n p ≡ Ok (here ++ after, q)
block_then_again read others zero p mid q here after lt e f = absurd (omega arith)
block_then_again read others (suc n) p mid q here after lt e f = rw (e, f) refl

pub blocks_again : {A : Type 0} (read : Position → Read A) (P : A → List ℕ → Type 0) (cost : A → ℕ)
    → ReadsAll read P cost → (blocks turns : ℕ) (vs : List A) (spelt : List ℕ) (p q : Position) → blocks < turns
    → AreBlocks P blocks vs spelt → p.bytes ≡ spelt ++ q.bytes → p.left ≡ q.left + (length vs + counts cost vs)
    → blocks_at read turns p ≡ Ok (vs, q)
unfolding blocks_at
blocks_again read P cost all blocks zero vs spelt p q lt is e f = absurd (omega arith)
blocks_again read P cost all zero (suc turns) vs spelt p q lt is e f =
    let none : q.left + (length vs + counts cost vs) ≡ q.left + 0 = rw is.0 refl in
    rw (count_again 0 spelt p q (inl is.1) e (f ∙ none), is.0) refl
blocks_again read P cost all (suc blocks) (suc turns) vs spelt p q lt is e f =
    let here = is.0 in
    let after = is.1 in
    let mid : Position = record { bytes = is.4 ++ q.bytes; left = q.left + (length after + counts cost after) } in
    let begun : Position = record { bytes = is.3 ++ mid.bytes; left = mid.left + counts cost here } in
    let regrouped : p.bytes ≡ is.2 ++ begun.bytes = e ∙ ap (λ (t : List ℕ). t ++ q.bytes) is.10 ∙ append_assoc is.2
    (is.3 ++ is.4) q.bytes ∙ ap (λ (t : List ℕ). is.2 ++ t) (append_assoc is.3 is.4 q.bytes) in
    let total : p.left ≡ begun.left + length here = omega (
      arith,
      f,
      ap length is.9,
      ap (counts cost) is.9,
      length-append here after,
      counts-append cost here after,
    ) in
    let count = count_again (length here) is.2 p begun is.6 regrouped total in
    let block = values_again read P cost all here is.3 begun mid is.7 refl refl in
    let others = blocks_again read P cost all blocks turns after is.4 mid q (omega arith) is.8 refl refl in
    rw (count, is.9) (block_then_again read (blocks_at read turns) (length here) begun mid q here after is.5 block
    others)

-- each block takes a byte
pub few_blocks : {A : Type 0} (P : A → List ℕ → Type 0) (blocks : ℕ) (vs : List A) (spelt : List ℕ)
    → AreBlocks P blocks vs spelt → blocks < length spelt
few_blocks P zero vs spelt is = count_len 0 spelt (inl is.1)
few_blocks P (suc blocks) vs spelt is =
    omega (
      arith,
      count_len (length is.0) is.2 is.6,
      few_blocks P blocks is.1 is.4 is.8,
      ap length is.10,
      length-append
          is.2 (is.3 ++ is.4),
      length-append is.3 is.4,
    )

chosen_again : (read : ℕ → Position → Read Value) (P : ℕ → Value → List ℕ → Type 0)
    → ((n : ℕ) → ReadsAll (read n) (P n) item_count) → (v : Value) (spelt : List ℕ) (p q : Position)
    → IsChosen P v spelt → p.bytes ≡ spelt ++ q.bytes → p.left ≡ q.left + item_count v
    → (long_at p.bytes >>= λ n. chosen_by read n.0 (record { bytes = n.1; left = p.left })) ≡ Ok (v, q)
chosen_again read P all v spelt p q is e f =
    let mid : Position = record { bytes = is.3 ++ q.bytes; left = p.left } in
    let regrouped : p.bytes ≡ is.2 ++ mid.bytes = e ∙ ap (λ (t : List ℕ). t ++ q.bytes) is.7 ∙ append_assoc is.2 is.3
    q.bytes in
    let inside = all is.0 is.1 is.3 mid q is.6 refl (f ∙ ap (λ (w : Value). q.left + item_count w) is.4) in
    rw (regrouped, long_again is.2 (pos is.0) mid.bytes is.5, inside, is.4) refl

entry_again : (read : Position → Read Value) (P : Value → List ℕ → Type 0) → ReadsAll read P item_count
    → ReadsAll (entry_at read) (IsEntry P) entry_cost
unfolding entry_at
entry_again read P all e spelt p q is f g =
    let mid : Position = record { bytes = is.1 ++ q.bytes; left = p.left } in
    let regrouped : p.bytes ≡ is.0 ++ mid.bytes = f ∙ ap (λ (t : List ℕ). t ++ q.bytes) is.5 ∙ append_assoc is.0 is.1
    q.bytes in
    let inside = all e.1 is.1 mid q is.4 refl g in
    rw (regrouped, string_again e.0 is.0 mid.bytes is.2 is.3, inside) refl

-- ---- every schema

mutual
  unfolding datum_at fields_at branch_at

  pub datum_again : (s : Tree) (v : Value) (spelt : List ℕ) (p q : Position) → Spells s v spelt
      → p.bytes ≡ spelt ++ q.bytes → p.left ≡ q.left + item_count v → datum_at s p ≡ Ok (v, q)
  datum_again null v spelt p q is e f = rw is.0 (ends_at nothing p q (e ∙ ap (λ (t : List ℕ). t ++ q.bytes) is.1)
      (f ∙ rw is.0 (omega arith)))
  datum_again boolean v spelt p q is e f = rw is.1 (leaf_again truth is.0 p q (boolean_at p.bytes)
      (rw (e, is.2) (boolean_again is.0 q.bytes)) (f ∙ rw is.1 (omega arith)))
  datum_again long v spelt p q is e f = rw is.1 (leaf_again whole is.0 p q (long_at p.bytes)
      (rw e (long_again spelt is.0 q.bytes is.2)) (f ∙ rw is.1 (omega arith)))
  datum_again int v spelt p q is e f = rw is.1 (leaf_again small is.0 p q (int_at p.bytes)
      (rw e (int_again spelt is.0 q.bytes is.2)) (f ∙ rw is.1 (omega arith)))
  datum_again float v spelt p q is e f = rw is.0 (leaf_again single spelt p q (run_at 4 p.bytes)
      (rw (e, ← is.1) (run_again spelt q.bytes)) (f ∙ rw is.0 (omega arith)))
  datum_again double v spelt p q is e f = rw is.0 (leaf_again twice spelt p q (run_at 8 p.bytes)
      (rw (e, ← is.1) (run_again spelt q.bytes)) (f ∙ rw is.0 (omega arith)))
  datum_again (symbols n) v spelt p q is e f = rw is.1 (leaf_again symbol is.0 p q (symbol_at n p.bytes)
      (rw e (symbol_again n is.0 spelt q.bytes is.2 is.3)) (f ∙ rw is.1 (omega arith)))
  datum_again (octets kind) v spelt p q is e f = rw is.1 (leaf_again run is.0 p q (bytes_at p.bytes)
      (rw e (bytes_again is.0 spelt q.bytes is.2)) (f ∙ rw is.1 (omega arith)))
  datum_again string v spelt p q is e f = rw is.1 (leaf_again text is.0 p q (string_at p.bytes)
      (rw e (string_again is.0 spelt q.bytes is.2 is.3)) (f ∙ rw is.1 (omega arith)))
  datum_again (fixed n kind) v spelt p q is e f = rw is.0 (leaf_again raw spelt p q (run_at n p.bytes)
      (rw (e, ← is.1) (run_again spelt q.bytes)) (f ∙ rw is.0 (omega arith)))
  datum_again (structure fs) v spelt p q is e f = rw (
    is.1,
    fields_again fs is.0 spelt p q is.2 e
        (f ∙ rw is.1 (ap (λ (n : ℕ). q.left + n) (sym (fields_held is.0)))),
  ) refl
  datum_again (array s id kind) v spelt p q is e f =
      let total : p.left ≡ q.left + (length is.0 + counts item_count is.0) = f ∙ rw is.1 (ap (λ (n : ℕ). q.left + n)
      (sym (items_held is.0))) in
      let few : is.2 < suc (length p.bytes) = omega (
        arith,
        few_blocks (Spells s) is.2 is.0 spelt is.3,
        ap length e,
        length-append spelt q.bytes,
      ) in
      rw (
        is.1,
        blocks_again (datum_at s) (Spells s) item_count (datum_again s) is.2 (suc (length p.bytes)) is.0 spelt p
            q few is.3 e total,
      ) refl
  datum_again (map s) v spelt p q is e f =
      let total : p.left ≡ q.left + (length is.0 + counts entry_cost is.0) = f ∙ rw is.1 (ap (λ (n : ℕ). q.left + n)
      (sym (entries_held is.0))) in
      let few : is.2 < suc (length p.bytes) = omega (
        arith,
        few_blocks (IsEntry (Spells s)) is.2 is.0 spelt is.3,
        ap
            length e,
        length-append spelt q.bytes,
      ) in
      rw (
        is.1,
        blocks_again (entry_at (datum_at s)) (IsEntry (Spells s)) entry_cost (entry_again (datum_at s)
            (Spells s) (datum_again s)) is.2 (suc (length p.bytes)) is.0 spelt p q few is.3 e total,
      ) refl
  datum_again (union bs) v spelt p q is e f = chosen_again (branch_at bs) (SpellsBranch bs) (branch_again bs) v spelt p
      q is e f

  pub fields_again : (fs : Fields) (vs : List Value) (spelt : List ℕ) (p q : Position) → SpellsFields fs vs spelt
      → p.bytes ≡ spelt ++ q.bytes → p.left ≡ q.left + counts item_count vs → fields_at fs p ≡ Ok (vs, q)
  fields_again no_fields vs spelt p q is e f = rw is.0 (ends_at [] p q (e ∙ ap (λ (t : List ℕ). t ++ q.bytes) is.1)
      (f ∙ rw is.0 (omega arith)))
  fields_again (field id s fs) vs spelt p q is e f =
      let mid : Position = record { bytes = is.3 ++ q.bytes; left = q.left + counts item_count is.1 } in
      let total : p.left ≡ mid.left + item_count is.0 = f ∙ rw is.4 (omega arith) in
      let first : datum_at s p ≡ Ok (is.0, mid) = datum_again s is.0 is.2 p mid is.5
      (e ∙ ap (λ (t : List ℕ). t ++ q.bytes) is.7 ∙ append_assoc is.2 is.3 q.bytes) total in
      rw (first, fields_again fs is.1 is.3 mid q is.6 refl refl, is.4) refl

  pub branch_again : (bs : Branches) (n : ℕ) (v : Value) (spelt : List ℕ) (p q : Position) → SpellsBranch bs n v spelt
      → p.bytes ≡ spelt ++ q.bytes → p.left ≡ q.left + item_count v → branch_at bs n p ≡ Ok (v, q)
  branch_again no_branches n v spelt p q is e f = absurd is
  branch_again (branch s bs) zero v spelt p q is e f = datum_again s v spelt p q is e f
  branch_again (branch s bs) (suc n) v spelt p q is e f = branch_again bs n v spelt p q is e f
