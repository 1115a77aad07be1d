-- What is read is spelled so.
use Rattle.std.proofs.Common.{◌≡◌, ℕ, zero, suc, ◌+◌, ◌-◌, ◌*◌, ◌^◌, ◌<◌, ◌≤◌, ℤ, pos, negsuc, Bool, true, false, cond}
use Rattle.std.proofs.Common.{ltb, List, [], ◌∷◌, ◌++◌, length, take, drop, Result, Ok, Err, inl, inr, refl, sym, ap}
use Rattle.std.proofs.Common.{subst, ◌∙◌, arith}
use Rattle.std.specs.Str.{is_utf8, IsUtf8}
use Rattle.std.proofs.lemmas.Bool.{ltb-true, ltb-false}
use Rattle.std.proofs.lemmas.List.{take-append-drop, length-append, length-take}
use Rattle.std.proofs.lemmas.Str.{IsUtf8-from_is_utf8}
use Rattle.avro_file_parts.specs.declared.refusal.Refusal.{Refusal}
use Rattle.avro_file_parts.specs.declared.refusal.Refusal.TheVariants.{Short, BadNumber, BadUnion, BadUtf8, BadBoolean}
use Rattle.avro_file_parts.specs.declared.refusal.Refusal.TheVariants.{TooManyItems, BadSync, BlockSize, Memory}
use Rattle.contract_words.specs.Outcome.{◌>>=◌}
use Rattle.avro_file_parts.specs.Number.{IsGroups, IsNumber, IsLong, IsInt, int_at, signed_of, groups_at, from_start}
use Rattle.avro_file_parts.specs.Number.{number_at, long_at}
use Rattle.avro_schema.specs.Tree.{Tree, null, boolean, int, long, float, double, symbols, octets, string, fixed}
use Rattle.avro_schema.specs.Tree.{structure, array, map, union, Fields, no_fields, field, Branches, no_branches}
use Rattle.avro_schema.specs.Tree.{branch}
use Rattle.avro_file.specs.Value.{Value, nothing, truth, small, whole, single, twice, symbol, text, run, raw, fields}
use Rattle.avro_file.specs.Value.{items, entries, chosen, values_of, Pair, entries_of}
use Rattle.avro_file_parts.specs.Parts.{Position, Read, boolean_at, run_at, run_of, bytes_at, string_at, symbol_of}
use Rattle.avro_file.specs.Reading.{leaf}
use Rattle.avro_file_parts.specs.Parts.{symbol_at, counted, magnitude, count_at}
use Rattle.avro_file.specs.Reading.{values_at, block_then, blocks_at}
use Rattle.avro_file.specs.Reading.{chosen_by, entry_at, datum_at, fields_at, branch_at}
use Rattle.avro_file.specs.Spelling.{IsRun, bit, AreJoined, IsCount, AreBlocks, IsEntry, IsChosen, Spells, SpellsFields}
use Rattle.avro_file.specs.Spelling.{SpellsBranch, item_count, item_counts, values_len, entry_counts, entries_len}
use Rattle.avro_file.proofs.Steps.{bind_ok, guard_ok, passed, ok_is, either, joined}

-- a front of the bytes spells what was read
pub record Front {A : Type 0} (P : A → List ℕ → Type 0) (bytes : List ℕ) (x : A × List ℕ) : Type 0 where
  pub front : List ℕ
  pub spelled : P x.0 front
  pub parts : bytes ≡ front ++ x.1

-- ---- numbers

abbrev AreGroups : ℕ → ℕ → List ℕ → Type 0
AreGroups turns n bytes = IsGroups bytes n × (length bytes ≤ turns)

groups_take : (turns : ℕ) (bytes : List ℕ) (x : ℕ × List ℕ) → groups_at turns bytes ≡ Ok x
    → Front (AreGroups turns) bytes x
unfolding groups_at
groups_take zero bytes x e = absurd cc
groups_take (suc turns) [] x e = absurd cc
groups_take (suc turns) (b ∷ bytes) x e =
    elim (either (ltb b 128) (Ok (b, bytes)) (groups_at turns bytes >>= λ y. Ok (b - 128 + 128 * y.0, y.1)) (Ok x) e) [
      | inl h ↦ subst (Front (AreGroups (suc turns)) (b ∷ bytes)) (ok_is (b, bytes) x h.1) (record {
        front = b ∷ [];
        spelled = (inl (ltb-true _ _ h.0, refl, refl), omega arith);
        parts = refl;
      })
      | inr h ↦
          let more = bind_ok (groups_at turns bytes) (λ y. Ok (b - 128 + 128 * y.0, y.1)) x h.1 in
          let others = groups_take turns bytes more.0 more.1 in
          let made : ℕ × List ℕ = (b - 128 + 128 * more.0.0, more.0.1) in
          subst (Front (AreGroups (suc turns)) (b ∷ bytes)) (ok_is made x more.2) (record {
            front = b ∷ others.front;
            spelled = (inr (ltb-false _ _ h.0, more.0.0, refl, others.spelled.0), omega (arith, others.spelled.1));
            parts = ap (λ (t : List ℕ). b ∷ t) others.parts;
          })
    ]

pub begins_ok : (bytes : List ℕ) (r : Result (ℕ × List ℕ) Refusal) (x : ℕ × List ℕ) → from_start bytes r ≡ Ok x
    → r ≡ Ok x
begins_ok bytes (Ok y) x e = e
begins_ok bytes (Err (Short n)) x e = absurd cc
begins_ok bytes (Err BadNumber) x e = absurd cc
begins_ok bytes (Err BadUnion) x e = absurd cc
begins_ok bytes (Err BadUtf8) x e = absurd cc
begins_ok bytes (Err BadBoolean) x e = absurd cc
begins_ok bytes (Err TooManyItems) x e = absurd cc
begins_ok bytes (Err BadSync) x e = absurd cc
begins_ok bytes (Err BlockSize) x e = absurd cc
begins_ok bytes (Err Memory) x e = absurd cc

pub number_takes : (limit : ℕ) (bytes : List ℕ) (x : ℕ × List ℕ) → number_at limit bytes ≡ Ok x
    → Front (λ n t. IsNumber limit t n) bytes x
unfolding number_at
number_takes limit bytes x e =
    let a = bind_ok (from_start bytes (groups_at 10 bytes)) (λ y. cond (ltb y.0 limit) (Ok y) (Err BadNumber)) x e in
    let b = passed (ltb a.0.0 limit) BadNumber (Ok a.0) x a.2 in
    let g = groups_take 10 bytes a.0 (begins_ok bytes (groups_at 10 bytes) a.0 a.1) in
    subst (Front (λ n t. IsNumber limit t n) bytes) (ok_is a.0 x b.1) (record {
      front = g.front;
      spelled = (g.spelled.0, g.spelled.1, ltb-true _ _ b.0);
      parts = g.parts;
    })

pub long_takes : (bytes : List ℕ) (x : ℤ × List ℕ) → long_at bytes ≡ Ok x → Front (λ z t. IsLong t z) bytes x
unfolding long_at
long_takes bytes x e =
    let a = bind_ok (number_at (2 ^ 64) bytes) (λ y. Ok (signed_of y.0, y.1)) x e in
    let n = number_takes (2 ^ 64) bytes a.0 a.1 in
    let made : ℤ × List ℕ = (signed_of a.0.0, a.0.1) in
    subst (Front (λ z t. IsLong t z) bytes) (ok_is made x a.2) (record {
      front = n.front;
      spelled = (a.0.0, n.spelled, refl);
      parts = n.parts;
    })

int_takes : (bytes : List ℕ) (x : ℤ × List ℕ) → int_at bytes ≡ Ok x → Front (λ z t. IsInt t z) bytes x
unfolding int_at
int_takes bytes x e =
    let a = bind_ok (number_at (2 ^ 32) bytes) (λ y. Ok (signed_of y.0, y.1)) x e in
    let n = number_takes (2 ^ 32) bytes a.0 a.1 in
    let made : ℤ × List ℕ = (signed_of a.0.0, a.0.1) in
    subst (Front (λ z t. IsInt t z) bytes) (ok_is made x a.2) (record {
      front = n.front;
      spelled = (a.0.0, n.spelled, refl);
      parts = n.parts;
    })

abbrev IsSymbol : ℕ → ℕ → List ℕ → Type 0
IsSymbol n k bytes = (k < n) × IsInt bytes (pos k)

symbol_of_takes : (n : ℕ) (z : ℤ) (rest : List ℕ) (x : ℕ × List ℕ) → symbol_of n (z, rest) ≡ Ok x
    → (x.0 < n) × (z ≡ pos x.0) × (rest ≡ x.1)
symbol_of_takes n (pos k) rest x e =
    let g = passed (ltb k n) BadNumber (Ok (k, rest)) x e in
    subst (λ (y : ℕ × List ℕ). (y.0 < n) × (pos k ≡ pos y.0) × (rest ≡ y.1)) (ok_is (k, rest) x g.1)
    (ltb-true _ _ g.0, refl, refl)
symbol_of_takes n (negsuc k) rest x e = absurd cc

symbol_takes : (n : ℕ) (bytes : List ℕ) (x : ℕ × List ℕ) → symbol_at n bytes ≡ Ok x → Front (IsSymbol n) bytes x
unfolding symbol_at
symbol_takes n bytes x e =
    let a = bind_ok (int_at bytes) (symbol_of n) x e in
    let i = int_takes bytes a.0 a.1 in
    let s = symbol_of_takes n a.0.0 a.0.1 x a.2 in
    record {
      front = i.front;
      spelled = (s.0, subst (IsInt i.front) s.1 i.spelled);
      parts = i.parts ∙ ap (λ (t : List ℕ). i.front ++ t) s.2;
    }

-- ---- values that hold no others

boolean_takes : (bytes : List ℕ) (x : Bool × List ℕ) → boolean_at bytes ≡ Ok x → Front (λ b t. t ≡ bit b ∷ []) bytes x
unfolding boolean_at
boolean_takes [] x e = absurd cc
boolean_takes (zero ∷ bytes) x e = subst (Front (λ b t. t ≡ bit b ∷ []) (0 ∷ bytes)) (ok_is (false, bytes) x e)
    (record { front = 0 ∷ []; spelled = refl; parts = refl })
boolean_takes (suc zero ∷ bytes) x e = subst (Front (λ b t. t ≡ bit b ∷ []) (1 ∷ bytes)) (ok_is (true, bytes) x e)
    (record { front = 1 ∷ []; spelled = refl; parts = refl })
boolean_takes (suc (suc b) ∷ bytes) x e = absurd cc

abbrev pub IsRaw : ℕ → List ℕ → List ℕ → Type 0
IsRaw n s bytes = (s ≡ bytes) × (length bytes ≡ n)

pub run_takes : (n : ℕ) (bytes : List ℕ) (x : List ℕ × List ℕ) → run_at n bytes ≡ Ok x → Front (IsRaw n) bytes x
unfolding run_at
run_takes n bytes x e =
    let g = guard_ok (ltb (length bytes) n) (Short (length bytes)) (Ok (take n bytes, drop n bytes)) x e in
    let long : n ≤ length bytes = ltb-false _ _ g.0 in
    subst (Front (IsRaw n) bytes) (ok_is (take n bytes, drop n bytes) x g.1) (record {
      front = take n bytes;
      spelled = (refl, omega (arith, length-take n bytes));
      parts = sym (take-append-drop n bytes);
    })

abbrev IsRunOf : ℤ → List ℕ → List ℕ → Type 0
IsRunOf z s bytes = (s ≡ bytes) × (z ≡ pos (length bytes))

run_of_takes : (z : ℤ) (bytes : List ℕ) (x : List ℕ × List ℕ) → run_of z bytes ≡ Ok x → Front (IsRunOf z) bytes x
run_of_takes (pos n) bytes x e = let r = run_takes n bytes x e in record {
  front = r.front;
  spelled = (r.spelled.0, ap pos (sym r.spelled.1));
  parts = r.parts;
}
run_of_takes (negsuc n) bytes x e = absurd cc

pub bytes_take : (bytes : List ℕ) (x : List ℕ × List ℕ) → bytes_at bytes ≡ Ok x → Front IsRun bytes x
unfolding bytes_at
bytes_take bytes x e =
    let n = bind_ok (long_at bytes) (λ n. run_of n.0 n.1) x e in
    let l = long_takes bytes n.0 n.1 in
    let r = run_of_takes n.0.0 n.0.1 x n.2 in
    let len : n.0.0 ≡ pos (length x.0) = r.spelled.1 ∙ ap (λ (t : List ℕ). pos (length t)) (sym r.spelled.0) in
    record {
      front = l.front ++ r.front;
      spelled = (l.front, subst (IsLong l.front) len l.spelled, ap (λ (t : List ℕ). l.front ++ t) (sym r.spelled.0));
      parts = joined bytes l.front n.0.1 r.front x.1 l.parts r.parts;
    }

pub string_takes : (bytes : List ℕ) (x : List ℕ × List ℕ) → string_at bytes ≡ Ok x
    → Front (λ s t. IsUtf8 s × IsRun s t) bytes x
unfolding string_at
string_takes bytes x e =
    let a = bind_ok (bytes_at bytes) (λ found. cond (is_utf8 found.0) (Ok found) (Err BadUtf8)) x e in
    let g = passed (is_utf8 a.0.0) BadUtf8 (Ok a.0) x a.2 in
    let r = bytes_take bytes a.0 a.1 in
    subst (Front (λ s t. IsUtf8 s × IsRun s t) bytes) (ok_is a.0 x g.1) (record {
      front = r.front;
      spelled = (IsUtf8-from_is_utf8 a.0.0 g.0, r.spelled);
      parts = r.parts;
    })

-- ---- values that hold others

-- a front of the bytes spells what was read, and as many items as it holds were counted
pub record Takes {A : Type 0} (P : A → List ℕ → Type 0) (count : A → ℕ) (p : Position) (x : A × Position) : Type 0 where
  pub front : List ℕ
  pub spelled : P x.0 front
  pub parts : p.bytes ≡ front ++ x.1.bytes
  pub left : p.left ≡ x.1.left + count x.0

leaf_takes : {A : Type 0} (make : A → Value) (left : ℕ) (P : A → List ℕ → Type 0) (Q : Value → List ℕ → Type 0)
    (bytes : List ℕ) (read : Result (A × List ℕ) Refusal) (x : Value × Position)
    → ((y : A × List ℕ) → read ≡ Ok y → Front P bytes y) → ((y : A) (t : List ℕ) → P y t → Q (make y) t)
    → ((y : A) → item_count (make y) ≡ 0)
    → leaf make left read ≡ Ok x → Takes Q item_count (record { bytes = bytes; left = left }) x
leaf_takes make left P Q bytes read x took turned none e =
    let a = bind_ok read (λ y. Ok (make y.0, record { bytes = y.1; left = left })) x e in
    let f = took a.0 a.1 in
    let made : Value × Position = (make a.0.0, record { bytes = a.0.1; left = left }) in
    subst (Takes Q item_count (record { bytes = bytes; left = left })) (ok_is made x a.2) (record {
      front = f.front;
      spelled = turned a.0.0 f.front f.spelled;
      parts = f.parts;
      left = omega (arith, none a.0.0);
    })

abbrev itself : ℕ → ℕ
itself n = n

counted_takes : (z : ℤ) (front bytes : List ℕ) (q : Position) (x : ℕ × Position) → IsLong front z
    → bytes ≡ front ++ q.bytes → magnitude z ≤ q.left → counted z q ≡ Ok x
    → Takes IsCount itself (record { bytes = bytes; left = q.left }) x
counted_takes (pos n) front bytes q x is parts le e =
    subst (Takes IsCount itself (record { bytes = bytes; left = q.left })) (ok_is (n, record q { left = q.left - n }) x
    e) (record { front = front; spelled = inl is; parts = parts; left = omega arith })
counted_takes (negsuc n) front bytes q x is parts le e =
    let a = bind_ok (long_at q.bytes) (λ size. Ok (suc n, record { bytes = size.1; left = q.left - suc n })) x e in
    let l = long_takes q.bytes a.0 a.1 in
    let made : ℕ × Position = (suc n, record { bytes = a.0.1; left = q.left - suc n }) in
    subst (Takes IsCount itself (record { bytes = bytes; left = q.left })) (ok_is made x a.2) (record {
      front = front ++ l.front;
      spelled = inr (n, refl, a.0.0, front, l.front, is, l.spelled, refl);
      parts = joined bytes front q.bytes l.front a.0.1 parts l.parts;
      left = omega arith;
    })

pub count_takes : (p : Position) (x : ℕ × Position) → count_at p ≡ Ok x → Takes IsCount itself p x
unfolding count_at
count_takes p x e =
    let a = bind_ok (long_at p.bytes) (λ n. cond (ltb p.left (magnitude n.0)) (Err TooManyItems)
    (counted n.0 (record { bytes = n.1; left = p.left }))) x e in
    let g = guard_ok (ltb p.left (magnitude a.0.0)) TooManyItems
    (counted a.0.0 (record { bytes = a.0.1; left = p.left })) x a.2 in
    let l = long_takes p.bytes a.0 a.1 in
    counted_takes a.0.0 l.front p.bytes (record { bytes = a.0.1; left = p.left }) x l.spelled l.parts
    (ltb-false _ _ g.0) g.1

-- how many items are inside all of these
abbrev pub counts : {A : Type 0} → (A → ℕ) → List A → ℕ
counts cost [] = 0
counts cost (v ∷ vs) = cost v + counts cost vs

abbrev pub Each : {A : Type 0} → (Position → Read A) → (A → List ℕ → Type 0) → (A → ℕ) → Type 0
Each {A} read P cost = (p : Position) (x : A × Position) → read p ≡ Ok x → Takes P cost p x

pub values_take : {A : Type 0} (read : Position → Read A) (P : A → List ℕ → Type 0) (cost : A → ℕ) → Each read P cost
    → (n : ℕ) (p : Position) (x : List A × Position) → values_at read n p ≡ Ok x
    → Takes (AreJoined P) (counts cost) p x × (length x.0 ≡ n)
unfolding values_at
values_take {A} read P cost each zero p x e =
    subst (λ (y : List A × Position). Takes (AreJoined P) (counts cost) p y × (length y.0 ≡ 0)) (ok_is ([], p) x e)
    (record { front = []; spelled = refl; parts = refl; left = omega arith }, refl)
values_take {A} read P cost each (suc n) p x e =
    let a = bind_ok (read p) (λ first. values_at read n first.1 >>= λ others. Ok (first.0 ∷ others.0, others.1)) x e in
    let b = bind_ok (values_at read n a.0.1) (λ others. Ok (a.0.0 ∷ others.0, others.1)) x a.2 in
    let first = each p a.0 a.1 in
    let others = values_take read P cost each n a.0.1 b.0 b.1 in
    let made : List A × Position = (a.0.0 ∷ b.0.0, b.0.1) in
    subst (λ (y : List A × Position). Takes (AreJoined P) (counts cost) p y × (length y.0 ≡ suc n)) (ok_is made x b.2) (
      record {
        front = first.front ++ others.0.front;
        spelled = (first.front, others.0.front, first.spelled, others.0.spelled, refl);
        parts = joined p.bytes first.front a.0.1.bytes others.0.front b.0.1.bytes first.parts others.0.parts;
        left = omega (arith, first.left, others.0.left);
      },
      ap suc others.1,
    )

-- ---- blocks

abbrev pub AreSome : {A : Type 0} → (A → List ℕ → Type 0) → List A → List ℕ → Type 0
AreSome P vs bytes = (blocks : ℕ) × AreBlocks P blocks vs bytes

abbrev both_counts : {A : Type 0} → (A → ℕ) → List A → ℕ
both_counts cost vs = length vs + counts cost vs

pub counts-append : {A : Type 0} (cost : A → ℕ) (vs ws : List A)
    → counts cost (vs ++ ws) ≡ counts cost vs + counts cost ws
counts-append cost [] ws = omega arith
counts-append cost (v ∷ vs) ws = omega (arith, counts-append cost vs ws)

pub values_len-values_of : (vs : List Value) → values_len (values_of vs) ≡ length vs
values_len-values_of [] = refl
values_len-values_of (v ∷ vs) = ap suc (values_len-values_of vs)

-- an empty block has a count of 0
zero_count : (count : List ℕ) → IsCount 0 count → IsLong count (pos 0)
zero_count count (inl is) = is
zero_count count (inr h) = absurd (omega (arith, h.1))

block_then_takes : {A : Type 0} (read : Position → Read A) (P : A → List ℕ → Type 0) (cost : A → ℕ) → Each read P cost
    → (others : Position → Read (List A)) → ((p : Position) (x : List A × Position) → others p ≡ Ok x
    → Takes (AreSome P) (both_counts cost) p x)
    → (n : ℕ) (p q : Position) (count : List ℕ) (x : List A × Position) → IsCount n count → p.bytes ≡ count ++ q.bytes
    → p.left ≡ q.left + n → block_then read others n q ≡ Ok x → Takes (AreSome P) (both_counts cost) p x
block_then_takes {A} read P cost each others rest zero p q count x is parts left e =
    subst (Takes (AreSome P) (both_counts cost) p) (ok_is ([], q) x e) (record {
      front = count;
      spelled = (0, (refl, zero_count count is));
      parts = parts;
      left = omega arith;
    })
block_then_takes {A} read P cost each others rest (suc n) p q count x is parts left e =
    let a = bind_ok (values_at read (suc n) q) (λ here. others here.1 >>= λ after. Ok (here.0 ++ after.0, after.1)) x
    e in
    let b = bind_ok (others a.0.1) (λ after. Ok (a.0.0 ++ after.0, after.1)) x a.2 in
    let here = values_take read P cost each (suc n) q a.0 a.1 in
    let after = rest a.0.1 b.0 b.1 in
    let made : List A × Position = (a.0.0 ++ b.0.0, b.0.1) in
    let inner : q.bytes ≡ (here.0.front ++ after.front) ++ b.0.1.bytes = joined q.bytes here.0.front a.0.1.bytes
    after.front b.0.1.bytes here.0.parts after.parts in
    subst (Takes (AreSome P) (both_counts cost) p) (ok_is made x b.2) (record {
      front = count ++ (here.0.front ++ after.front);
      spelled = (
        suc after.spelled.0,
        (
          a.0.0,
          b.0.0,
          count,
          here.0.front,
          after.front,
          omega (arith, here.1),
          subst
              (λ (k : ℕ). IsCount k count) (sym here.1) is,
          here.0.spelled,
          after.spelled.1,
          refl,
          refl,
        ),
      );
      parts = joined p.bytes count q.bytes (here.0.front ++ after.front) b.0.1.bytes parts inner;
      left = omega (
        arith,
        left,
        here.0.left,
        after.left,
        here.1,
        length-append a.0.0 b.0.0,
        counts-append cost a.0.0
            b.0.0,
      );
    })

pub blocks_take : {A : Type 0} (read : Position → Read A) (P : A → List ℕ → Type 0) (cost : A → ℕ) → Each read P cost
    → (turns : ℕ) (p : Position) (x : List A × Position) → blocks_at read turns p ≡ Ok x
    → Takes (AreSome P) (both_counts cost) p x
unfolding blocks_at
blocks_take read P cost each zero p x e = absurd cc
blocks_take read P cost each (suc turns) p x e =
    let a = bind_ok (count_at p) (λ n. block_then read (blocks_at read turns) n.0 n.1) x e in
    let c = count_takes p a.0 a.1 in
    block_then_takes read P cost each (blocks_at read turns) (blocks_take read P cost each turns) a.0.0 p a.0.1 c.front
    x c.spelled c.parts c.left a.2

counts-values : (vs : List Value) → counts item_count vs ≡ item_counts (values_of vs)
counts-values [] = refl
counts-values (v ∷ vs) = ap (λ (n : ℕ). item_count v + n) (counts-values vs)

-- how many items an array holds
pub items_held : (vs : List Value) → length vs + counts item_count vs ≡ item_count (items (values_of vs))
items_held vs = omega (arith, values_len-values_of vs, counts-values vs)

abbrev pub entry_cost : Pair → ℕ
entry_cost e = item_count e.1

pub entries_len-entries_of : (es : List Pair) → entries_len (entries_of es) ≡ length es
entries_len-entries_of [] = refl
entries_len-entries_of (e ∷ es) = ap suc (entries_len-entries_of es)

counts-entries : (es : List Pair) → counts entry_cost es ≡ entry_counts (entries_of es)
counts-entries [] = refl
counts-entries (e ∷ es) = ap (λ (n : ℕ). item_count e.1 + n) (counts-entries es)

pub entries_held : (es : List Pair) → length es + counts entry_cost es ≡ item_count (entries (entries_of es))
entries_held es = omega (arith, entries_len-entries_of es, counts-entries es)

pub fields_held : (vs : List Value) → counts item_count vs ≡ item_count (fields (values_of vs))
fields_held vs = counts-values vs

pub entry_takes : (read : Position → Read Value) (P : Value → List ℕ → Type 0) → Each read P item_count
    → Each (entry_at read) (IsEntry P) entry_cost
unfolding entry_at
entry_takes read P each p x e =
    let a = bind_ok (string_at p.bytes) (λ key. read (record { bytes = key.1; left = p.left }) >>= λ v. Ok
    ((key.0, v.0), v.1)) x e in
    let b = bind_ok (read (record { bytes = a.0.1; left = p.left })) (λ v. Ok ((a.0.0, v.0), v.1)) x a.2 in
    let k = string_takes p.bytes a.0 a.1 in
    let v = each (record { bytes = a.0.1; left = p.left }) b.0 b.1 in
    let made : Pair × Position = ((a.0.0, b.0.0), b.0.1) in
    subst (Takes (IsEntry P) entry_cost p) (ok_is made x b.2) (record {
      front = k.front ++ v.front;
      spelled = (k.front, v.front, k.spelled.0, k.spelled.1, v.spelled, refl);
      parts = joined p.bytes k.front a.0.1 v.front b.0.1.bytes k.parts v.parts;
      left = v.left;
    })

-- ---- every schema

chosen_takes : (read : ℕ → Position → Read Value) (P : ℕ → Value → List ℕ → Type 0)
    → ((n : ℕ) → Each (read n) (P n) item_count)
    → (z : ℤ) (front : List ℕ) (p q : Position) (x : Value × Position) → IsLong front z → p.bytes ≡ front ++ q.bytes
    → p.left ≡ q.left → chosen_by read z q ≡ Ok x → Takes (IsChosen P) item_count p x
chosen_takes read P each (pos n) front p q x is parts left e =
    let a = bind_ok (read n q) (λ y. Ok (chosen n y.0, y.1)) x e in
    let t = each n q a.0 a.1 in
    let made : Value × Position = (chosen n a.0.0, a.0.1) in
    subst (Takes (IsChosen P) item_count p) (ok_is made x a.2) (record {
      front = front ++ t.front;
      spelled = (n, a.0.0, front, t.front, refl, is, t.spelled, refl);
      parts = joined p.bytes front q.bytes t.front a.0.1.bytes parts t.parts;
      left = left ∙ t.left;
    })
chosen_takes read P each (negsuc n) front p q x is parts left e = absurd cc

mutual
  unfolding datum_at fields_at branch_at

  pub datum_takes : (s : Tree) (p : Position) (x : Value × Position) → datum_at s p ≡ Ok x
      → Takes (Spells s) item_count p x
  datum_takes null p x e = subst (Takes (Spells null) item_count p) (ok_is (nothing, p) x e) (record {
    front = [];
    spelled = (refl, refl);
    parts = refl;
    left = omega arith;
  })
  datum_takes boolean p x e = leaf_takes truth p.left (λ b t. t ≡ bit b ∷ []) (Spells boolean) p.bytes
      (boolean_at p.bytes) x (boolean_takes p.bytes) (λ b t h. (b, refl, h)) (λ b. refl) e
  datum_takes long p x e = leaf_takes whole p.left (λ z t. IsLong t z) (Spells long) p.bytes (long_at p.bytes) x
      (long_takes p.bytes) (λ z t h. (z, refl, h)) (λ z. refl) e
  datum_takes int p x e = leaf_takes small p.left (λ z t. IsInt t z) (Spells int) p.bytes (int_at p.bytes) x
      (int_takes p.bytes) (λ z t h. (z, refl, h)) (λ z. refl) e
  datum_takes float p x e = leaf_takes single p.left (IsRaw 4) (Spells float) p.bytes (run_at 4 p.bytes) x
      (run_takes 4 p.bytes) (λ s t h. (ap single h.0, h.1)) (λ s. refl) e
  datum_takes double p x e = leaf_takes twice p.left (IsRaw 8) (Spells double) p.bytes (run_at 8 p.bytes) x
      (run_takes 8 p.bytes) (λ s t h. (ap twice h.0, h.1)) (λ s. refl) e
  datum_takes (symbols n) p x e = leaf_takes symbol p.left (IsSymbol n) (Spells (symbols n)) p.bytes
      (symbol_at n p.bytes) x (symbol_takes n p.bytes) (λ k t h. (k, refl, h.0, h.1)) (λ k. refl) e
  datum_takes (octets kind) p x e = leaf_takes run p.left IsRun (Spells (octets kind)) p.bytes (bytes_at p.bytes) x
      (bytes_take p.bytes) (λ s t h. (s, refl, h)) (λ s. refl) e
  datum_takes string p x e = leaf_takes text p.left (λ s t. IsUtf8 s × IsRun s t) (Spells string) p.bytes
      (string_at p.bytes) x (string_takes p.bytes) (λ s t h. (s, refl, h.0, h.1)) (λ s. refl) e
  datum_takes (fixed n kind) p x e = leaf_takes raw p.left (IsRaw n) (Spells (fixed n kind)) p.bytes (run_at n p.bytes)
      x (run_takes n p.bytes) (λ s t h. (ap raw h.0, h.1)) (λ s. refl) e
  datum_takes (structure fs) p x e =
      let a = bind_ok (fields_at fs p) (λ y. Ok (fields (values_of y.0), y.1)) x e in
      let t = fields_take fs p a.0 a.1 in
      let made : Value × Position = (fields (values_of a.0.0), a.0.1) in
      subst (Takes (Spells (structure fs)) item_count p) (ok_is made x a.2) (record {
        front = t.front;
        spelled = (a.0.0, refl, t.spelled);
        parts = t.parts;
        left = t.left ∙ ap (λ (n : ℕ). a.0.1.left + n)
            (fields_held a.0.0);
      })
  datum_takes (array s id kind) p x e =
      let a = bind_ok (blocks_at (datum_at s) (suc (length p.bytes)) p) (λ y. Ok (items (values_of y.0), y.1)) x e in
      let t = blocks_take (datum_at s) (Spells s) item_count (datum_takes s) (suc (length p.bytes)) p a.0 a.1 in
      let made : Value × Position = (items (values_of a.0.0), a.0.1) in
      subst (Takes (Spells (array s id kind)) item_count p) (ok_is made x a.2) (record {
        front = t.front;
        spelled = (a.0.0, refl, t.spelled.0, t.spelled.1);
        parts = t.parts;
        left = t.left ∙ ap (λ (n : ℕ). a.0.1.left + n) (items_held a.0.0);
      })
  datum_takes (map s) p x e =
      let a = bind_ok (blocks_at (entry_at (datum_at s)) (suc (length p.bytes)) p)
      (λ y. Ok (entries (entries_of y.0), y.1)) x e in
      let t = blocks_take (entry_at (datum_at s)) (IsEntry (Spells s)) entry_cost (entry_takes (datum_at s) (Spells s)
      (datum_takes s)) (suc (length p.bytes)) p a.0 a.1 in
      let made : Value × Position = (entries (entries_of a.0.0), a.0.1) in
      subst (Takes (Spells (map s)) item_count p) (ok_is made x a.2) (record {
        front = t.front;
        spelled = (a.0.0, refl, t.spelled.0, t.spelled.1);
        parts = t.parts;
        left = t.left ∙ ap (λ (n : ℕ). a.0.1.left + n) (entries_held a.0.0);
      })
  datum_takes (union bs) p x e =
      let a = bind_ok (long_at p.bytes) (λ n. chosen_by (branch_at bs) n.0 (record { bytes = n.1; left = p.left })) x
      e in
      let l = long_takes p.bytes a.0 a.1 in
      chosen_takes (branch_at bs) (SpellsBranch bs) (branch_takes bs) a.0.0 l.front p (record {
        bytes = a.0.1;
        left = p.left;
      }) x l.spelled l.parts refl a.2

  fields_take : (fs : Fields) (p : Position) (x : List Value × Position) → fields_at fs p ≡ Ok x
      → Takes (SpellsFields fs) (counts item_count) p x
  fields_take no_fields p x e = subst (Takes (SpellsFields no_fields) (counts item_count) p) (ok_is ([], p) x e)
      (record { front = []; spelled = (refl, refl); parts = refl; left = omega arith })
  fields_take (field id s fs) p x e =
      let a = bind_ok (datum_at s p) (λ first. fields_at fs first.1 >>= λ others. Ok (first.0 ∷ others.0, others.1)) x
      e in
      let b = bind_ok (fields_at fs a.0.1) (λ others. Ok (a.0.0 ∷ others.0, others.1)) x a.2 in
      let first = datum_takes s p a.0 a.1 in
      let others = fields_take fs a.0.1 b.0 b.1 in
      let made : List Value × Position = (a.0.0 ∷ b.0.0, b.0.1) in
      subst (Takes (SpellsFields (field id s fs)) (counts item_count) p) (ok_is made x b.2) (record {
        front = first.front ++ others.front;
        spelled = (a.0.0, b.0.0, first.front, others.front, refl, first.spelled, others.spelled, refl);
        parts = joined p.bytes first.front a.0.1.bytes others.front b.0.1.bytes first.parts others.parts;
        left = omega (arith, first.left, others.left);
      })

  branch_takes : (bs : Branches) (n : ℕ) (p : Position) (x : Value × Position) → branch_at bs n p ≡ Ok x
      → Takes (SpellsBranch bs n) item_count p x
  branch_takes no_branches n p x e = absurd cc
  branch_takes (branch s bs) zero p x e = datum_takes s p x e
  branch_takes (branch s bs) (suc n) p x e = branch_takes bs n p x e
