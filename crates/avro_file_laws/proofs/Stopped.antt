-- Where reading stops in the blocks of an array, a map or the metadata.
use Rattle.std.proofs.Common.{◌≡◌, ◌≢◌, ℕ, zero, suc, ◌+◌, ◌-◌, ◌^◌, ◌<◌, ◌≤◌, ℤ, pos, negsuc, cond, ltb, List, [], ◌∷◌}
use Rattle.std.proofs.Common.{◌++◌, length, Ok, Err, inl, inr, refl, sym, ap, subst, ◌∙◌, append_assoc, length-append}
use Rattle.std.proofs.Common.{arith}
use Rattle.std.proofs.lemmas.Bool.{ltb-true, ltb-false}
use Rattle.contract_words.specs.Outcome.{◌>>=◌}
use Rattle.avro_file_parts.specs.declared.refusal.Refusal.{Refusal}
use Rattle.avro_file_parts.specs.declared.refusal.Refusal.TheVariants as refusal
use Rattle.avro_file_parts.specs.Number.{IsLong, long_at}
use Rattle.avro_file_parts.specs.Parts.{Position, Read, bytes_at, string_at, counted, magnitude, count_at}
use Rattle.avro_file.specs.declared.fault.AvroFault.TheVariants as fault
use Rattle.avro_file.specs.Reading.{values_at, block_then, blocks_at, entry_at}
use Rattle.avro_file.specs.Value.{Value}
use Rattle.avro_file.specs.Spelling.{IsCount, AreJoined}
use Rattle.avro_file.specs.Blocks.{max_items}
use Rattle.avro_file.specs.Header.{property_at}
use Rattle.avro_file.proofs.Steps.{either, joined}
use Rattle.avro_file.proofs.Taken.{long_takes, count_takes, values_take, string_takes, counts, Each, Takes}
use Rattle.avro_file.proofs.Loop.{count_len}
use Rattle.avro_file_laws.specs.Parts.{Part, a_long, a_count, some_bytes, a_text, IsFew}
use Rattle.avro_file_laws.specs.Coming.{Coming, ComesInCount, ComesInItems, ComesInBlocks, ComesInEntry, ComesInRun}
use Rattle.avro_file_laws.specs.Faults.{ComesInProperty}
use Rattle.avro_file_laws.proofs.Numbers.{err_is, bind_err, NumberErr, long_err}
use Rattle.avro_file_laws.proofs.Bad.{Bad, bad_long, Found, first_found, bytes_err, string_err}

-- ---- counts

abbrev at : List ℕ → ℕ → Position
at bytes left = record { bytes = bytes; left = left }

-- how a count is refused that is too high
abbrev TooHigh : Part → ℕ → ℕ → Refusal → Type 0
TooHigh first base left e = (z : ℤ) (bytes front rest : List ℕ) → IsLong front z → bytes ≡ front ++ rest
    → left < magnitude z → e ≡ refusal.TooManyItems → Bad base first bytes e

-- how a count is refused that is no number
abbrev NoCount : Part → ℕ → Refusal → Type 0
NoCount first base e = (bytes : List ℕ) → NumberErr (2 ^ 64) bytes e → Bad base first bytes e

size_found : (first : Part) (base most left : ℕ) (z : ℤ) (front rest bytes : List ℕ) (e : Refusal)
    → base + left ≡ most → magnitude z ≤ left → IsLong front z → bytes ≡ front ++ rest
    → counted z (at rest left) ≡ Err e → Found (ComesInCount first) base most bytes e
size_found first base most left (pos n) front rest bytes e total le is parts h = absurd (let m = h in cc)
size_found first base most left (negsuc n) front rest bytes e total le is parts h =
    elim (bind_err (long_at rest) (λ size. Ok (suc n, at size.1 (left - suc n))) e h) [
      | inl g ↦ record {
        items = suc n;
        part = a_long;
        front = front;
        rest = rest;
        comes = inr (n, refl, is, refl);
        few = omega (arith, total, le);
        bad = bad_long (base + suc n) rest e (long_err rest e g);
        parts = parts;
      }
      | inr g ↦ absurd (let m = g.2 in cc)
    ]

count_in : (first : Part) (base most : ℕ) (p : Position) (e : Refusal) → base ≤ most → Bad base first p.bytes e
    → Found (ComesInCount first) base most p.bytes e
count_in first base most p e le bad =
    let f = first_found first base most p.bytes e le bad in
    record {
      items = f.items;
      part = f.part;
      front = f.front;
      rest = f.rest;
      comes = inl f.comes;
      few = f.few;
      bad = f.bad;
      parts = f.parts;
    }

count_found : (first : Part) (base most : ℕ) (p : Position) (e : Refusal) → NoCount first base e
    → TooHigh first base p.left e → base + p.left ≡ most → count_at p ≡ Err e
    → Found (ComesInCount first) base most p.bytes e
unfolding count_at
count_found first base most p e none high total h =
    elim (bind_err (long_at p.bytes) (λ n. cond (ltb p.left (magnitude n.0)) (Err refusal.TooManyItems)
    (counted n.0 (at n.1 p.left))) e h) [
      | inl g ↦ count_in first base most p e (omega (arith, total)) (none p.bytes (long_err p.bytes e g))
      | inr g ↦
          let t = long_takes p.bytes g.0 g.1 in
          elim (either (ltb p.left (magnitude g.0.0)) (Err refusal.TooManyItems) (counted g.0.0 (at g.0.1 p.left))
          (Err e) g.2) [
            | inl k ↦ count_in first base most p e (omega (arith, total)) (high g.0.0 p.bytes t.front g.0.1 t.spelled
                t.parts (ltb-true _ _ k.0) (sym (err_is {A = ℕ × Position} refusal.TooManyItems e k.1)))
            | inr k ↦ size_found first base most p.left g.0.0 t.front g.0.1 p.bytes e total (ltb-false _ _ k.0)
                t.spelled t.parts k.1
          ]
    ]

no_count : (base : ℕ) (e : Refusal) → NoCount a_count base e
no_count base e bytes (inl h) = inl h
no_count base e bytes (inr h) = inr (fault.BadNumber, h.0, inl (refl, h.1))

not_few : (base left : ℕ) (z : ℤ) → base + left ≡ max_items → left < magnitude z → IsFew base z → ⊥
not_few base left z total lt few = omega (arith, total, lt, few)

too_high : (base left : ℕ) (e : Refusal) → base + left ≡ max_items → TooHigh a_count base left e
too_high base left e total z bytes front rest is parts lt same =
    inr (fault.TooManyItems, same, inr (refl, (z, front, rest, is, not_few base left z total lt, parts)))

-- of an object's items
pub items_found : (base : ℕ) (p : Position) (e : Refusal) → base + p.left ≡ max_items → count_at p ≡ Err e
    → Found (ComesInCount a_count) base max_items p.bytes e
items_found base p e total h = count_found a_count base max_items p e (no_count base e) (too_high base p.left e total)
    total h

-- of the metadata, which have no limit
pub metadata_count_found : (base most : ℕ) (p : Position) (e : Refusal) → e ≢ refusal.TooManyItems
    → base + p.left ≡ most → count_at p ≡ Err e → Found (ComesInCount a_long) base most p.bytes e
metadata_count_found base most p e unlimited total h = count_found a_long base most p e
    (λ bytes k. bad_long base bytes e k) (λ z bytes front rest is parts lt same. absurd (unlimited same)) total h

-- ---- blocks

abbrev pub Counts : Part → ℕ → Refusal → Type 0
Counts first most e = (base : ℕ) (p : Position) → base + p.left ≡ most → count_at p ≡ Err e
    → Found (ComesInCount first) base most p.bytes e

abbrev pub Stops : {A : Type 0} → (Position → Read A) → Coming → ℕ → Refusal → Type 0
Stops read Comes most e = (base : ℕ) (p : Position) → base + p.left ≡ most → read p ≡ Err e
    → Found Comes base most p.bytes e

-- in some block
abbrev pub ComesInSome : {A : Type 0} → Part → (A → List ℕ → Type 0) → (List A → ℕ) → Coming → Coming
ComesInSome first P inner Comes items bytes part = (blocks : ℕ) × ComesInBlocks first P inner Comes blocks items bytes
    part

moved : (part : Part) (rest : List ℕ) (e : Refusal) (m n : ℕ) → m ≡ n → Bad m part rest e → Bad n part rest e
moved part rest e m n same bad = subst (λ (k : ℕ). Bad k part rest e) same bad

module _ (A : Type 0) (read : Position → Read A) (P : A → List ℕ → Type 0) (cost : A → ℕ) (inner : List A → ℕ)
    (Comes : Coming) (most : ℕ) (e : Refusal) (each : Each read P cost)
    (held : (vs : List A) → inner vs ≡ counts cost vs) (stops : Stops read Comes most e) where
  first_in : (n base : ℕ) (p : Position) → Found Comes base most p.bytes e
      → Found (ComesInItems P inner Comes (suc n)) base most p.bytes e
  first_in n base p f = record {
    items = inner [] + f.items;
    part = f.part;
    front = f.front;
    rest = f.rest;
    comes = ([], f.items, [], f.front, omega arith, refl, f.comes, refl, refl);
    few = omega (arith, f.few, held []);
    bad = moved f.part f.rest e (base + f.items) (base + (inner [] + f.items)) (omega (arith, held [])) f.bad;
    parts = f.parts;
  }

  next_in : (n base : ℕ) (p q : Position) (v : A) → Takes P cost p (v, q)
      → Found (ComesInItems P inner Comes n) (base + cost v) most q.bytes e
      → Found (ComesInItems P inner Comes (suc n)) base most p.bytes e
  next_in n base p q v t f =
      let c = f.comes in
      let sums : base + (inner (v ∷ c.0) + c.1) ≡ (base + cost v) + f.items = omega (
        arith,
        c.7,
        held c.0,
        held (v ∷ c.0),
      ) in
      record {
        items = inner (v ∷ c.0) + c.1;
        part = f.part;
        front = t.front ++ f.front;
        rest = f.rest;
        comes = (
          v ∷ c.0,
          c.1,
          t.front ++ c.2,
          c.3,
          omega (arith, c.4),
          (t.front, c.2, t.spelled, c.5, refl),
          c.6,
          refl,
          ap (λ (x : List ℕ). t.front ++ x) c.8 ∙ sym (append_assoc t.front c.2 c.3),
        );
        few = omega (arith, f.few, sums);
        bad = moved f.part f.rest e ((base + cost v) + f.items) (base + (inner (v ∷ c.0) + c.1)) (sym sums) f.bad;
        parts = joined p.bytes t.front q.bytes f.front f.rest t.parts f.parts;
      }

  values_stop : (n : ℕ) → Stops (values_at read n) (ComesInItems P inner Comes n) most e
  unfolding values_at
  values_stop zero base p total h = absurd (let m = h in cc)
  values_stop (suc n) base p total h =
      elim (bind_err (read p) (λ first. values_at read n first.1 >>= λ others. Ok (first.0 ∷ others.0, others.1)) e h) [
        | inl g ↦ first_in n base p (stops base p total g)
        | inr g ↦
            let t = each p g.0 g.1 in
            elim (bind_err (values_at read n g.0.1) (λ others. Ok (g.0.0 ∷ others.0, others.1)) e g.2) [
              | inl k ↦ next_in n base p g.0.1 g.0.0 t (values_stop n (base + cost g.0.0) g.0.1
                  (omega (arith, total, t.left)) k)
              | inr k ↦ absurd (let m = k.2 in cc)
            ]
      ]

  module _ (first : Part) (counts_stop : Counts first most e) where
    count_block : (base : ℕ) (p : Position) → Found (ComesInCount first) base most p.bytes e
        → Found (ComesInSome first P inner Comes) base most p.bytes e
    count_block base p f = record {
      items = f.items;
      part = f.part;
      front = f.front;
      rest = f.rest;
      comes = (0, inl f.comes);
      few = f.few;
      bad = f.bad;
      parts = f.parts;
    }

    values_block : (n base : ℕ) (p q : Position) (count : List ℕ) → IsCount n count → p.bytes ≡ count ++ q.bytes
        → Found (ComesInItems P inner Comes n) (base + n) most q.bytes e
        → Found (ComesInSome first P inner Comes) base most p.bytes e
    values_block n base p q count is parts f = record {
      items = n + f.items;
      part = f.part;
      front = count ++ f.front;
      rest = f.rest;
      comes = (0, inr (n, f.items, count, f.front, is, f.comes, refl, refl));
      few = omega (arith, f.few);
      bad = moved f.part f.rest e ((base + n) + f.items) (base + (n + f.items)) (omega arith) f.bad;
      parts = joined p.bytes count q.bytes f.front f.rest parts f.parts;
    }

    others_block : (base : ℕ) (p q r : Position) (count : List ℕ) (here : List A) → 0 < length here
        → IsCount (length here) count → p.bytes ≡ count ++ q.bytes → Takes (AreJoined P) (counts cost) q (here, r)
        → Found (ComesInSome first P inner Comes) (base + (length here + counts cost here)) most r.bytes e
        → Found (ComesInSome first P inner Comes) base most p.bytes e
    others_block base p q r count here some is parts t f =
        let sums : base + ((length here + inner here) + f.items) ≡ (base + (length here + counts cost here)) + f.items =
        omega (arith, held here) in
        record {
          items = (length here + inner here) + f.items;
          part = f.part;
          front = count ++ (t.front ++ f.front);
          rest = f.rest;
          comes = (
            suc f.comes.0,
            (here, f.items, count, t.front, f.front, some, is, t.spelled, f.comes.1, refl, refl),
          );
          few = omega (arith, f.few, sums);
          bad = moved f.part f.rest e ((base + (length here + counts cost here)) + f.items)
              (base + ((length here + inner here) + f.items)) (sym sums) f.bad;
          parts = parts ∙ ap (λ (x : List ℕ). count ++ x) (joined q.bytes t.front r.bytes f.front f.rest t.parts
              f.parts)
              ∙ sym (append_assoc count (t.front ++ f.front) f.rest);
        }

    abbrev Later : (Position → Read (List A)) → ℕ → Type 0
    Later others len = (base : ℕ) (p : Position) → length p.bytes < len → base + p.left ≡ most → others p ≡ Err e
        → Found (ComesInSome first P inner Comes) base most p.bytes e

    block_stops : (others : Position → Read (List A)) (n base : ℕ) (p q : Position) (count : List ℕ)
        → Later others (length p.bytes) → IsCount n count → p.bytes ≡ count ++ q.bytes → p.left ≡ q.left + n
        → base + p.left ≡ most → block_then read others n q ≡ Err e
        → Found (ComesInSome first P inner Comes) base most p.bytes e
    block_stops others zero base p q count later is parts left total h = absurd (let m = h in cc)
    block_stops others (suc n) base p q count later is parts left total h =
        elim (bind_err (values_at read (suc n) q) (λ here. others here.1 >>= λ after. Ok (here.0 ++ after.0, after.1)) e
        h) [
          | inl g ↦ values_block (suc n) base p q count is parts (values_stop (suc n) (base + suc n) q
              (omega (arith, total, left)) g)
          | inr g ↦
              let v = values_take read P cost each (suc n) q g.0 g.1 in
              elim (bind_err (others g.0.1) (λ after. Ok (g.0.0 ++ after.0, after.1)) e g.2) [
                | inl k ↦
                    let less : length g.0.1.bytes < length p.bytes = omega (
                      arith,
                      ap length parts,
                      length-append count q.bytes,
                      ap length v.0.parts,
                      length-append v.0.front g.0.1.bytes,
                      count_len (suc n) count is,
                    ) in
                    others_block base p q g.0.1 count g.0.0 (omega (arith, v.1))
                    (subst (λ (k : ℕ). IsCount k count) (sym v.1) is) parts v.0
                    (later (base + (length g.0.0 + counts cost g.0.0)) g.0.1 less (omega (
                      arith,
                      total,
                      left,
                      v.0.left,
                      v.1,
                    )) k)
                | inr k ↦ absurd (let m = k.2 in cc)
              ]
        ]

    pub blocks_stop : (turns base : ℕ) (p : Position) → length p.bytes < turns → base + p.left ≡ most
        → blocks_at read turns p ≡ Err e → Found (ComesInSome first P inner Comes) base most p.bytes e
    unfolding blocks_at
    blocks_stop zero base p lt total h = absurd (omega (arith, lt))
    blocks_stop (suc turns) base p lt total h =
        elim (bind_err (count_at p) (λ n. block_then read (blocks_at read turns) n.0 n.1) e h) [
          | inl g ↦ count_block base p (counts_stop base p total g)
          | inr g ↦
              let c = count_takes p g.0 g.1 in
              block_stops (blocks_at read turns) g.0.0 base p g.0.1 c.front
              (λ b q less sum k. blocks_stop turns b q (omega (arith, lt, less)) sum k) c.spelled c.parts c.left total
              g.2
        ]

-- ---- entries and properties

key_found : (Comes : Coming) (base most : ℕ) (bytes : List ℕ) (e : Refusal)
    → Found (ComesInRun a_text) base most bytes e → Found (ComesInEntry Comes) base most bytes e
key_found Comes base most bytes e f = record {
  items = f.items;
  part = f.part;
  front = f.front;
  rest = f.rest;
  comes = inl f.comes;
  few = f.few;
  bad = f.bad;
  parts = f.parts;
}

content_found : (Comes : Coming) (base most : ℕ) (bytes : List ℕ) (e : Refusal) (key after : List ℕ)
    → string_at bytes ≡ Ok (key, after) → Found Comes base most after e → Found (ComesInEntry Comes) base most bytes e
content_found Comes base most bytes e key after h f =
    let t = string_takes bytes (key, after) h in
    record {
      items = f.items;
      part = f.part;
      front = t.front ++ f.front;
      rest = f.rest;
      comes = inr (key, t.front, f.front, t.spelled.0, t.spelled.1, f.comes, refl);
      few = f.few;
      bad = f.bad;
      parts = joined bytes t.front after f.front f.rest t.parts f.parts;
    }

pub entry_stops : (read : Position → Read Value) (Comes : Coming) (most : ℕ) (e : Refusal) → Stops read Comes most e
    → Stops (entry_at read) (ComesInEntry Comes) most e
unfolding entry_at
entry_stops read Comes most e stops base p total h =
    elim (bind_err (string_at p.bytes) (λ key. read (at key.1 p.left) >>= λ v. Ok ((key.0, v.0), v.1)) e h) [
      | inl g ↦ key_found Comes base most p.bytes e (string_err base most (omega (arith, total)) p.bytes e g)
      | inr g ↦
          elim (bind_err (read (at g.0.1 p.left)) (λ v. Ok ((g.0.0, v.0), v.1)) e g.2) [
            | inl k ↦ content_found Comes base most p.bytes e g.0.0 g.0.1 g.1 (stops base (at g.0.1 p.left) total k)
            | inr k ↦ absurd (let m = k.2 in cc)
          ]
    ]

pub property_stops : (most : ℕ) (e : Refusal) → Stops property_at ComesInProperty most e
unfolding property_at
property_stops most e base p total h =
    elim (bind_err (string_at p.bytes) (λ key. bytes_at key.1 >>= λ v. Ok ((key.0, v.0), at v.1 p.left)) e h) [
      | inl g ↦ key_found (ComesInRun some_bytes) base most p.bytes e (string_err base most (omega (arith, total))
          p.bytes e g)
      | inr g ↦
          elim (bind_err (bytes_at g.0.1) (λ v. Ok ((g.0.0, v.0), at v.1 p.left)) e g.2) [
            | inl k ↦ content_found (ComesInRun some_bytes) base most p.bytes e g.0.0 g.0.1 g.1
                (bytes_err base most (omega (arith, total)) g.0.1 e k)
            | inr k ↦ absurd (let m = k.2 in cc)
          ]
    ]
