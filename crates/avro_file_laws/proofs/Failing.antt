-- Reading stops where a part comes that the bytes do not hold.
use Rattle.std.proofs.Common.{◌≡◌, ℕ, zero, suc, ◌+◌, ◌-◌, ◌<◌, ◌≤◌, ℤ, pos, negsuc, true, false, ltb, List, [], ◌∷◌}
use Rattle.std.proofs.Common.{◌++◌, length, Ok, Err, ◌⊎◌, inl, inr, refl, sym, ap, subst, ◌∙◌, append_assoc}
use Rattle.std.proofs.Common.{length-append, arith}
use Rattle.std.proofs.lemmas.Bool.{ltb-false, le-ltb}
use Rattle.avro_file_parts.specs.declared.refusal.Refusal.{Refusal}
use Rattle.avro_file_parts.specs.declared.refusal.Refusal.TheVariants as refusal
use Rattle.avro_file_parts.specs.Number.{IsLong, long_at}
use Rattle.avro_file_parts.specs.Parts.{Position, Read, bytes_at, string_at, magnitude, count_at}
use Rattle.avro_file.specs.declared.fault.AvroFault.TheVariants as fault
use Rattle.avro_file.specs.Reading.{values_at, block_then, blocks_at, entry_at}
use Rattle.avro_file.specs.Value.{Value}
use Rattle.avro_file.specs.Spelling.{IsCount, AreJoined, IsEntry, item_count}
use Rattle.avro_file.specs.Blocks.{max_items}
use Rattle.avro_file.specs.Header.{property_at}
use Rattle.avro_file.proofs.Taken.{counts, entry_cost}
use Rattle.avro_file.proofs.Loop.{count_len}
use Rattle.avro_file.proofs.Again.{long_again, string_again, ends_at, ReadsAll}
use Rattle.avro_file_laws.specs.Parts.{Part, a_long, a_count, some_bytes, StandsWrong, IsFew}
use Rattle.avro_file_laws.specs.Coming.{Coming, ComesInCount, ComesInBlocks, ComesInEntry, ComesInRun}
use Rattle.avro_file_laws.specs.Faults.{ComesInProperty}
use Rattle.avro_file_laws.proofs.Numbers.{which_way, long_fails}
use Rattle.avro_file_laws.proofs.Bad.{Bad, long_is_bad, refusal_is, first_is_bad, Found, bytes_fail, string_comes}
use Rattle.avro_file_laws.proofs.Stopped.{ComesInSome}

abbrev at : List ℕ → ℕ → Position
at bytes left = record { bytes = bytes; left = left }

-- ---- what was read before

count_again : (n : ℕ) (spelt : List ℕ) (p q : Position) → IsCount n spelt → p.bytes ≡ spelt ++ q.bytes
    → p.left ≡ q.left + n → count_at p ≡ Ok (n, q)
unfolding count_at
count_again n spelt p q (inl is) e f =
    let few : ltb p.left n ≡ false = le-ltb _ _ (omega arith) in
    rw (e, long_again spelt (pos n) q.bytes is, few) (ends_at n (record { bytes = q.bytes; left = p.left - n }) q refl
    (omega arith))
count_again n spelt p q (inr is) e f =
    let less = is.0 in
    let few : ltb p.left (suc less) ≡ false = le-ltb _ _ (omega (arith, is.1)) in
    let regrouped : p.bytes ≡ is.3 ++ (is.4 ++ q.bytes) = e ∙ ap (λ (t : List ℕ). t ++ q.bytes) is.7 ∙ append_assoc is.3
    is.4 q.bytes in
    rw (regrouped, long_again is.3 (negsuc less) (is.4 ++ q.bytes) is.5, few, long_again is.4 is.2 q.bytes is.6, is.1)
    (ends_at (suc less) (record { bytes = q.bytes; left = p.left - suc less }) q refl (omega (arith, is.1)))

values_again : {A : Type 0} (read : Position → Read A) (P : A → List ℕ → Type 0) (cost : A → ℕ) → ReadsAll read P cost
    → (vs : List A) (spelt : List ℕ) (p q : Position) → AreJoined P vs spelt → p.bytes ≡ spelt ++ q.bytes
    → p.left ≡ q.left + counts cost vs → values_at read (length vs) p ≡ Ok (vs, q)
unfolding values_at
values_again read P cost all [] spelt p q is e f = ends_at [] p q (e ∙ ap (λ (t : List ℕ). t ++ q.bytes) is)
    (omega arith)
values_again read P cost all (v ∷ vs) spelt p q is e f =
    let mid : Position = record { bytes = is.1 ++ q.bytes; left = q.left + counts cost vs } in
    let first : read p ≡ Ok (v, mid) = all v is.0 p mid is.2 (e ∙ ap (λ (t : List ℕ). t ++ q.bytes) is.4 ∙ append_assoc
    is.0 is.1 q.bytes) (omega arith) in
    rw (first, values_again read P cost all vs is.1 mid q is.3 refl refl) refl

pub entry_again : (read : Position → Read Value) (P : Value → List ℕ → Type 0) → ReadsAll read P item_count
    → ReadsAll (entry_at read) (IsEntry P) entry_cost
unfolding entry_at
entry_again read P all e spelt p q is f g =
    let mid : Position = record { bytes = is.1 ++ q.bytes; left = p.left } in
    let regrouped : p.bytes ≡ is.0 ++ mid.bytes = f ∙ ap (λ (t : List ℕ). t ++ q.bytes) is.5 ∙ append_assoc is.0 is.1
    q.bytes in
    let inside = all e.1 is.1 mid q is.4 refl g in
    rw (regrouped, string_again e.0 is.0 mid.bytes is.2 is.3, inside) refl

-- ---- counts

count_stops : (p : Position) (e : Refusal) → long_at p.bytes ≡ Err e → count_at p ≡ Err e
unfolding count_at
count_stops p e h = rw h refl

count_high : (p : Position) (z : ℤ) (front rest : List ℕ) → IsLong front z → p.bytes ≡ front ++ rest
    → ltb p.left (magnitude z) ≡ true → count_at p ≡ Err refusal.TooManyItems
unfolding count_at
count_high p z front rest is parts high = rw (parts, long_again front z rest is, high) refl

count_many : (base : ℕ) (p : Position) → base + p.left ≡ max_items → StandsWrong IsLong (IsFew base) p.bytes
    → count_at p ≡ Err refusal.TooManyItems
count_many base p total h =
    elim (which_way (ltb p.left (magnitude h.0))) [
      | inl g ↦ count_high p h.0 h.1 h.2 h.3 h.5 g
      | inr g ↦ absurd (h.4 (omega (arith, total, ltb-false _ _ g)))
    ]

size_stops : (p : Position) (less : ℕ) (front rest : List ℕ) (e : Refusal) → suc less ≤ p.left
    → IsLong front (negsuc less) → p.bytes ≡ front ++ rest → long_at rest ≡ Err e → count_at p ≡ Err e
unfolding count_at
size_stops p less front rest e le is parts h =
    let few : ltb p.left (suc less) ≡ false = le-ltb _ _ le in
    rw (parts, long_again front (negsuc less) rest is, few, h) refl

-- a count that is refused as this kind of part
abbrev FirstFails : Part → ℕ → Refusal → Type 0
FirstFails first most e = (base : ℕ) (p : Position) → base + p.left ≡ most → Bad base first p.bytes e
    → count_at p ≡ Err e

in_count_fails : (first : Part) (base most items : ℕ) (part : Part) (front rest : List ℕ) (p : Position) (e : Refusal)
    → FirstFails first most e → base + p.left ≡ most → ComesInCount first items front part → base + items ≤ most
    → Bad (base + items) part rest e → p.bytes ≡ front ++ rest → count_at p ≡ Err e
in_count_fails first base most items part front rest p e fails total (inl is) few bad parts =
    fails base p total (first_is_bad first base items part front rest p.bytes e is bad parts)
in_count_fails first base most items part front rest p e fails total (inr is) few bad parts =
    size_stops p is.0 front rest e (omega (arith, total, few, is.1)) is.2 parts (long_fails rest e
    (long_is_bad (base + items) rest e (subst (λ (x : Part). Bad (base + items) x rest e) is.3 bad)))

abbrev pub CountFails : Part → ℕ → Refusal → Type 0
CountFails first most e = (base : ℕ) (p : Position) → base + p.left ≡ most
    → Found (ComesInCount first) base most p.bytes e → count_at p ≡ Err e

pub items_fail : (e : Refusal) → CountFails a_count max_items e
items_fail e base p total f =
    in_count_fails a_count base max_items f.items f.part f.front f.rest p e first total f.comes f.few f.bad f.parts
  where
    first : FirstFails a_count max_items e
    first b q sum (inl h) = count_stops q e (long_fails q.bytes e (inl h))
    first b q sum (inr h) =
        elim h.2 [
          | inl k ↦ count_stops q e (long_fails q.bytes e (inr (
            refusal_is e refusal.BadNumber h.0 fault.BadNumber h.1 k.0 refl,
            k.1,
          )))
          | inr k ↦ count_many b q sum k.1 ∙ ap (λ (y : Refusal). Err y)
              (sym (refusal_is e refusal.TooManyItems h.0 fault.TooManyItems h.1 k.0 refl))
        ]

pub metadata_count_fails : (most : ℕ) (e : Refusal) → CountFails a_long most e
metadata_count_fails most e base p total f =
    in_count_fails a_long base most f.items f.part f.front f.rest p e (λ b q sum bad. count_stops q e
    (long_fails q.bytes e (long_is_bad b q.bytes e bad))) total f.comes f.few f.bad f.parts

-- ---- blocks

abbrev pub Fails : {A : Type 0} → (Position → Read A) → Coming → ℕ → Refusal → Type 0
Fails read Comes most e = (base : ℕ) (p : Position) → base + p.left ≡ most → Found Comes base most p.bytes e
    → read p ≡ Err e

block_fails : {A : Type 0} (read : Position → Read A) (others : Position → Read (List A)) (n : ℕ) (q : Position)
    (e : Refusal) → 0 < n → values_at read n q ≡ Err e → block_then read others n q ≡ Err e
block_fails read others zero q e lt h = absurd (omega (arith, lt))
block_fails read others (suc n) q e lt h = rw h refl

later_fails : {A : Type 0} (read : Position → Read A) (others : Position → Read (List A)) (n : ℕ) (q r : Position)
    (here : List A) (e : Refusal) → 0 < n → values_at read n q ≡ Ok (here, r) → others r ≡ Err e
    → block_then read others n q ≡ Err e
later_fails read others zero q r here e lt h k = absurd (omega (arith, lt))
later_fails read others (suc n) q r here e lt h k = rw (h, k) refl

moved : (part : Part) (rest : List ℕ) (e : Refusal) (m n : ℕ) → m ≡ n → Bad m part rest e → Bad n part rest e
moved part rest e m n same bad = subst (λ (k : ℕ). Bad k part rest e) same bad

module _ (A : Type 0) (read : Position → Read A) (P : A → List ℕ → Type 0) (cost : A → ℕ) (inner : List A → ℕ)
    (Comes : Coming) (most : ℕ) (e : Refusal) (again : ReadsAll read P cost)
    (held : (vs : List A) → inner vs ≡ counts cost vs) (fails : Fails read Comes most e) where
  values_fail : (n : ℕ) (vs : List A) (more base : ℕ) (part : Part) (front back rest : List ℕ) (p : Position)
      → length vs < n → AreJoined P vs front → Comes more back part → base + (counts cost vs + more) ≤ most
      → Bad (base + (counts cost vs + more)) part rest e → p.bytes ≡ front ++ (back ++ rest) → base + p.left ≡ most
      → values_at read n p ≡ Err e
  unfolding values_at
  values_fail zero vs more base part front back rest p lt is comes few bad parts total = absurd (omega (arith, lt))
  values_fail (suc n) [] more base part front back rest p lt is comes few bad parts total =
      let f : Found Comes base most p.bytes e = record {
        items = more;
        part = part;
        front = back;
        rest = rest;
        comes = comes;
        few = omega (arith, few);
        bad = moved part rest e (base + (0 + more)) (base + more) (omega arith) bad;
        parts = parts ∙ ap (λ (t : List ℕ). t ++ (back ++ rest)) is;
      } in
      rw (fails base p total f) refl
  values_fail (suc n) (v ∷ vs) more base part front back rest p lt is comes few bad parts total =
      let mid : Position = at (is.1 ++ (back ++ rest)) (p.left - cost v) in
      let enough : cost v ≤ p.left = omega (arith, few, total) in
      let first : read p ≡ Ok (v, mid) = again v is.0 p mid is.2 (parts ∙ ap (λ (t : List ℕ). t ++ (back ++ rest)) is.4
      ∙ append_assoc is.0 is.1 (back ++ rest)) (omega (arith, enough)) in
      let others = values_fail n vs more (base + cost v) part is.1 back rest mid (omega (arith, lt)) is.3 comes
      (omega (arith, few)) (moved part rest e (base + (counts cost (v ∷ vs) + more))
      ((base + cost v) + (counts cost vs + more)) (omega arith) bad) refl (omega (arith, total, enough)) in
      rw (first, others) refl

  module _ (first : Part) (count_fails : CountFails first most e) where
    abbrev BlocksFail : ℕ → Type 0
    BlocksFail blocks = (turns items base : ℕ) (part : Part) (front rest : List ℕ) (p : Position) → blocks < turns
        → ComesInBlocks first P inner Comes blocks items front part → base + items ≤ most
        → Bad (base + items) part rest e → p.bytes ≡ front ++ rest → base + p.left ≡ most
        → blocks_at read turns p ≡ Err e

    first_block_fails : (turns items base : ℕ) (part : Part) (front rest : List ℕ) (p : Position)
        → ComesInBlocks first P inner Comes zero items front part → base + items ≤ most
        → Bad (base + items) part rest e → p.bytes ≡ front ++ rest → base + p.left ≡ most
        → blocks_at read (suc turns) p ≡ Err e
    unfolding blocks_at
    first_block_fails turns items base part front rest p (inl is) few bad parts total =
        let f : Found (ComesInCount first) base most p.bytes e = record {
          items = items;
          part = part;
          front = front;
          rest = rest;
          comes = is;
          few = few;
          bad = bad;
          parts = parts;
        } in
        rw (count_fails base p total f) refl
    first_block_fails turns items base part front rest p (inr is) few bad parts total =
        let c = is.5 in
        let q : Position = at (is.3 ++ rest) (p.left - is.0) in
        let enough : is.0 ≤ p.left = omega (arith, few, total, is.6) in
        let sums : base + items ≡ (base + is.0) + (counts cost c.0 + c.1) = omega (arith, is.6, c.7, held c.0) in
        let count : count_at p ≡ Ok (is.0, q) = count_again is.0 is.2 p q is.4 (parts ∙ ap
        (λ (t : List ℕ). t ++ rest) is.7 ∙ append_assoc is.2 is.3 rest) (omega (arith, enough)) in
        let values = values_fail is.0 c.0 c.1 (base + is.0) part c.2 c.3 rest q c.4 c.5 c.6 (omega (arith, few, sums))
        (moved part rest e (base + items) ((base + is.0) + (counts cost c.0 + c.1)) sums bad)
        (ap (λ (t : List ℕ). t ++ rest) c.8 ∙ append_assoc c.2 c.3 rest) (omega (arith, total, enough)) in
        rw count (block_fails read (blocks_at read turns) is.0 q e (omega (arith, c.4)) values)

    blocks_fail : (blocks : ℕ) → BlocksFail blocks
    unfolding blocks_at
    blocks_fail blocks zero items base part front rest p lt is few bad parts total = absurd (omega (arith, lt))
    blocks_fail zero (suc turns) items base part front rest p lt is few bad parts total =
        first_block_fails turns items base part front rest p is few bad parts total
    blocks_fail (suc blocks) (suc turns) items base part front rest p lt is few bad parts total =
        let here = is.0 in
        let held_here = held here in
        let enough : length here + counts cost here ≤ p.left = omega (arith, few, total, is.9, held_here) in
        let q : Position = at (is.3 ++ (is.4 ++ rest)) (p.left - length here) in
        let r : Position = at (is.4 ++ rest) (p.left - length here - counts cost here) in
        let regrouped : p.bytes ≡ is.2 ++ q.bytes = parts ∙ ap (λ (t : List ℕ). t ++ rest) is.10 ∙ append_assoc is.2
        (is.3 ++ is.4) rest ∙ ap (λ (t : List ℕ). is.2 ++ t) (append_assoc is.3 is.4 rest) in
        let count : count_at p ≡ Ok (length here, q) = count_again (length here) is.2 p q is.6 regrouped
        (omega (arith, enough)) in
        let values : values_at read (length here) q ≡ Ok (here, r) = values_again read P cost again here is.3 q r is.7
        refl (omega (arith, enough)) in
        let sums : base + items ≡ (base + (length here + counts cost here)) + is.1 = omega (arith, is.9, held_here) in
        let others = blocks_fail blocks turns is.1 (base + (length here + counts cost here)) part is.4 rest r
        (omega (arith, lt)) is.8 (omega (arith, few, sums)) (moved part rest e (base + items)
        ((base + (length here + counts cost here)) + is.1) sums bad) refl (omega (arith, total, enough)) in
        rw count (later_fails read (blocks_at read turns) (length here) q r here e is.5 values others)

    few_blocks : (blocks items : ℕ) (front : List ℕ) (part : Part)
        → ComesInBlocks first P inner Comes blocks items front part → blocks ≤ length front
    few_blocks zero items front part is = omega arith
    few_blocks (suc blocks) items front part is = omega (
      arith,
      few_blocks blocks is.1 is.4 part is.8,
      count_len (length is.0) is.2 is.6,
      ap length is.10,
      length-append is.2 (is.3 ++ is.4),
      length-append is.3 is.4,
    )

    pub some_block_fails : (turns base : ℕ) (p : Position) → length p.bytes < turns → base + p.left ≡ most
        → Found (ComesInSome first P inner Comes) base most p.bytes e → blocks_at read turns p ≡ Err e
    some_block_fails turns base p lt total f =
        let few : f.comes.0 < turns = omega (
          arith,
          lt,
          few_blocks f.comes.0 f.items f.front f.part f.comes.1,
          ap length f.parts,
          length-append f.front f.rest,
        ) in
        blocks_fail f.comes.0 turns f.items base f.part f.front f.rest p few f.comes.1 f.few f.bad f.parts total

-- ---- entries and properties

entry_key_fails : (read : Position → Read Value) (p : Position) (e : Refusal) → string_at p.bytes ≡ Err e
    → entry_at read p ≡ Err e
unfolding entry_at
entry_key_fails read p e h = rw h refl

entry_value_fails : (read : Position → Read Value) (p : Position) (e : Refusal) (key after : List ℕ)
    → string_at p.bytes ≡ Ok (key, after) → read (at after p.left) ≡ Err e → entry_at read p ≡ Err e
unfolding entry_at
entry_value_fails read p e key after h k = rw (h, k) refl

property_key_fails : (p : Position) (e : Refusal) → string_at p.bytes ≡ Err e → property_at p ≡ Err e
unfolding property_at
property_key_fails p e h = rw h refl

property_value_fails : (p : Position) (e : Refusal) (key after : List ℕ) → string_at p.bytes ≡ Ok (key, after)
    → bytes_at after ≡ Err e → property_at p ≡ Err e
unfolding property_at
property_value_fails p e key after h k = rw (h, k) refl

-- behind a key
behind_key : (Comes : Coming) (base most items : ℕ) (part : Part) (front rest bytes : List ℕ) (e : Refusal)
    → ComesInEntry Comes items front part → base + items ≤ most → Bad (base + items) part rest e → bytes ≡ front ++ rest
    → (string_at bytes ≡ Err e) ⊎ ((key : List ℕ) × (after : List ℕ) × (string_at bytes ≡ Ok (key, after)) ×
    Found Comes base most after e)
behind_key Comes base most items part front rest bytes e (inl is) few bad parts =
    inl (string_comes base items part front rest bytes e is bad parts)
behind_key Comes base most items part front rest bytes e (inr is) few bad parts =
    let all : bytes ≡ is.1 ++ (is.2 ++ rest) = parts ∙ ap (λ (t : List ℕ). t ++ rest) is.6 ∙ append_assoc is.1 is.2 rest
    in
    inr (
      is.0,
      is.2 ++ rest,
      rw all (string_again is.0 is.1 (is.2 ++ rest) is.3 is.4),
      record {
        items = items;
        part = part;
        front = is.2;
        rest = rest;
        comes = is.5;
        few = few;
        bad = bad;
        parts = refl;
      },
    )

pub entry_fails : (read : Position → Read Value) (Comes : Coming) (most : ℕ) (e : Refusal) → Fails read Comes most e
    → Fails (entry_at read) (ComesInEntry Comes) most e
entry_fails read Comes most e fails base p total f =
    elim (behind_key Comes base most f.items f.part f.front f.rest p.bytes e f.comes f.few f.bad f.parts) [
      | inl g ↦ entry_key_fails read p e g
      | inr g ↦ entry_value_fails read p e g.0 g.1 g.2 (fails base (at g.1 p.left) total g.3)
    ]

pub property_fails : (most : ℕ) (e : Refusal) → Fails property_at ComesInProperty most e
property_fails most e base p total f =
    elim (behind_key (ComesInRun some_bytes) base most f.items f.part f.front f.rest p.bytes e f.comes f.few f.bad
    f.parts) [
      | inl g ↦ property_key_fails p e g
      | inr g ↦ property_value_fails p e g.0 g.1 g.2 (bytes_fail base most g.1 e g.3)
    ]
