-- What is written is a spelling, of whatever has one.
use Rattle.std.proofs.Common.{◌≡◌, ℕ, zero, suc, ◌+◌, ◌*◌, ◌/◌, ◌%◌, ◌^◌, ◌<◌, ◌≤◌, ℤ, pos, negsuc, Bool, true, false}
use Rattle.std.proofs.Common.{cond, eqb, ltb, List, [], ◌∷◌, ◌++◌, length, inl, inr, refl, sym, ap, subst, ◌∙◌, arith}
use Rattle.std.specs.List.{AllByRecursion}
use Rattle.std.proofs.lemmas.Bool.{ltb-true, ltb-false, eqb-true, eqb-false}
use Rattle.std.proofs.lemmas.List.{append-nil}
use Rattle.avro_file_parts.specs.Number.{IsGroups, IsNumber, IsLong, IsInt, signed_of}
use Rattle.avro_schema.specs.Tree.{Tree, null, boolean, int, long, float, double, symbols, octets, string, fixed}
use Rattle.avro_schema.specs.Tree.{structure, array, map, union, Fields, no_fields, field, Branches, no_branches}
use Rattle.avro_schema.specs.Tree.{branch}
use Rattle.avro_file.specs.Value.{Value, items, entries, values_of, Pair, entries_of}
use Rattle.avro_file.specs.Spelling.{IsRun, AreJoined, AreBlocks, IsEntry, Spells, SpellsFields, SpellsBranch}
use Rattle.avro_file.specs.Writing.{groups_of, unsigned_of, long_bytes, run_bytes, block_bytes, written, all_written}
use Rattle.avro_file.specs.Writing.{entries_written}
use Rattle.avro_file.specs.Counted.{IsCounted, AreCounted, EntriesAreCounted}
use Rattle.avro_file.proofs.Taken.{values_len-values_of, entries_len-entries_of}
use Rattle.avro_file.proofs.Encoded.{divided, one_group, ten_groups}

-- ---- numbers

abbrev AreGroups : ℕ → ℕ → List ℕ → Type 0
AreGroups turns n bytes = IsGroups bytes n × (length bytes ≤ turns)

last_group : (n : ℕ) (b : Bool) → ltb n 128 ≡ b → n < 128 → AreGroups 1 n (cond b (n ∷ []) ((n % 128 + 128) ∷ []))
last_group n true e lt = (inl (lt, refl, refl), omega arith)
last_group n false e lt = absurd (omega (arith, ltb-false _ _ e))

some_group : (t n : ℕ) (others : List ℕ) (b : Bool) → ltb n 128 ≡ b → AreGroups (suc t) (n / 128) others
    → AreGroups (suc (suc t)) n (cond b (n ∷ []) ((n % 128 + 128) ∷ others))
some_group t n others true e is = (inl (ltb-true _ _ e, refl, refl), omega arith)
some_group t n others false e is = (inr (omega arith, n / 128, omega arith, is.0), omega (arith, is.1))

groups_spelled : (t n : ℕ) → n < 128 ^ suc t → AreGroups (suc t) n (groups_of (suc t) n)
unfolding groups_of
groups_spelled zero n lt = last_group n (ltb n 128) refl (one_group n lt)
groups_spelled (suc t) n lt = some_group t n (groups_of (suc t) (n / 128)) (ltb n 128) refl (groups_spelled t (n / 128)
    (divided n t lt))

unsigned_either : (n : ℕ) (b : Bool) → eqb (n % 2) 0 ≡ b → unsigned_of (cond b (pos (n / 2)) (negsuc (n / 2))) ≡ n
unsigned_either n true e = let even = eqb-true _ _ e in omega (arith, even)
unsigned_either n false e = let odd = eqb-false _ _ e in omega (arith, odd)

unsigned_again : (n : ℕ) → unsigned_of (signed_of n) ≡ n
unsigned_again n = unsigned_either n (eqb (n % 2) 0) refl

pub signed_either : (n : ℕ) (b : Bool) → eqb ((2 * n) % 2) 0 ≡ b
    → cond b (pos ((2 * n) / 2)) (negsuc ((2 * n) / 2)) ≡ pos n
signed_either n true e = ap pos (omega arith)
signed_either n false e = absurd (eqb-false _ _ e (omega arith))

pub number_written : (limit n : ℕ) → n < 2 ^ 64 → n < limit → IsNumber limit (groups_of 10 n) n
number_written limit n lt below = let g = groups_spelled 9 n (ten_groups n lt) in (g.0, g.1, below)

long_written : (front : List ℕ) (z : ℤ) → IsLong front z → IsLong (long_bytes z) z
long_written front z is =
    let same : unsigned_of z ≡ is.0 = ap unsigned_of is.2 ∙ unsigned_again is.0 in (
      is.0,
      subst (λ (u : ℕ). IsNumber (2 ^ 64) (groups_of 10 u) is.0) (sym same) (number_written (2 ^ 64) is.0 is.1.2
          is.1.2),
      is.2,
    )

int_written : (front : List ℕ) (z : ℤ) → IsInt front z → IsInt (long_bytes z) z
int_written front z is =
    let same : unsigned_of z ≡ is.0 = ap unsigned_of is.2 ∙ unsigned_again is.0 in (
      is.0,
      subst (λ (u : ℕ). IsNumber (2 ^ 32) (groups_of 10 u) is.0) (sym same) (number_written (2 ^ 32) is.0
          (omega (arith, is.1.2)) is.1.2),
      is.2,
    )

pub count_written : (n : ℕ) → n < 2 ^ 63 → IsLong (long_bytes (pos n)) (pos n)
count_written n lt = (
  2 * n,
  number_written (2 ^ 64) (2 * n) (omega arith) (omega arith),
  sym
      (signed_either n (eqb ((2 * n) % 2) 0) refl),
)

pub zero_written : IsLong (0 ∷ []) (pos 0)
zero_written = (0, ((inl (omega arith, refl, refl)), omega arith, omega arith), refl)

run_written : (s bytes : List ℕ) → IsRun s bytes → IsRun s (run_bytes s)
run_written s bytes is = (long_bytes (pos (length s)), long_written is.0 (pos (length s)) is.1, refl)

-- ---- several values

-- each has some spelling
abbrev AllSpelled : {A : Type 0} → (A → List ℕ → Type 0) → List A → Type 0
AllSpelled P [] = Unit {0}
AllSpelled P (v ∷ vs) = ((bytes : List ℕ) × P v bytes) × AllSpelled P vs

joined_all : {A : Type 0} (P : A → List ℕ → Type 0) (vs : List A) (bytes : List ℕ) → AreJoined P vs bytes
    → AllSpelled P vs
joined_all P [] bytes is = tt
joined_all P (v ∷ vs) bytes is = ((is.0, is.2), joined_all P vs is.1 is.3)

all_both : {A : Type 0} (P : A → List ℕ → Type 0) (vs ws : List A) → AllSpelled P vs → AllSpelled P ws
    → AllSpelled P (vs ++ ws)
all_both P [] ws h k = k
all_both P (v ∷ vs) ws h k = (h.0, all_both P vs ws h.1 k)

blocks_all : {A : Type 0} (P : A → List ℕ → Type 0) (blocks : ℕ) (vs : List A) (bytes : List ℕ)
    → AreBlocks P blocks vs bytes → AllSpelled P vs
blocks_all {A} P zero vs bytes is = subst (λ (xs : List A). AllSpelled P xs) (sym is.0) tt
blocks_all {A} P (suc blocks) vs bytes is = subst (λ (xs : List A). AllSpelled P xs) (sym is.9)
    (all_both P is.0 is.1 (joined_all P is.0 is.3 is.7) (blocks_all P blocks is.1 is.4 is.8))

-- what writes one writes a spelling, where the counts inside are numbers
abbrev WritesEach : {A : Type 0} → (A → List ℕ → Type 0) → (A → Type 0) → (A → List ℕ) → Type 0
WritesEach {A} P Counts write = (v : A) (bytes : List ℕ) → P v bytes → Counts v → P v (write v)

abbrev joined_bytes : {A : Type 0} → (A → List ℕ) → List A → List ℕ
joined_bytes write [] = []
joined_bytes write (v ∷ vs) = write v ++ joined_bytes write vs

joined_written : {A : Type 0} (P : A → List ℕ → Type 0) (Counts : A → Type 0) (write : A → List ℕ)
    → WritesEach P Counts write → (vs : List A) → AllSpelled P vs → AllByRecursion Counts vs
    → AreJoined P vs (joined_bytes write vs)
joined_written P Counts write each [] all counted = refl
joined_written P Counts write each (v ∷ vs) all counted = (
  write v,
  joined_bytes write vs,
  each v all.0.0 all.0.1 counted.0,
  joined_written P Counts write each vs all.1 counted.1,
  refl,
)

block_written : {A : Type 0} (P : A → List ℕ → Type 0) (Counts : A → Type 0) (write : A → List ℕ)
    → WritesEach P Counts write → (vs : List A) → AllSpelled P vs → length vs < 2 ^ 63 → AllByRecursion Counts vs
    → (blocks : ℕ) × AreBlocks P blocks vs (block_bytes (length vs) (joined_bytes write vs))
block_written P Counts write each [] all few counted = (0, (refl, zero_written))
block_written P Counts write each (v ∷ vs) all few counted = (
  1,
  (
    v ∷ vs,
    [],
    long_bytes (pos (suc (length vs))),
    joined_bytes write (v ∷ vs),
    0 ∷ [],
    omega arith,
    inl (count_written (suc (length vs)) few),
    joined_written P Counts write each (v ∷ vs) all counted,
    (refl, zero_written),
    sym (append-nil (v ∷ vs)),
    refl,
  ),
)

values_joined : (vs : List Value) → joined_bytes written vs ≡ all_written (values_of vs)
unfolding all_written
values_joined [] = refl
values_joined (v ∷ vs) = ap (λ (t : List ℕ). written v ++ t) (values_joined vs)

abbrev pair_bytes : Pair → List ℕ
pair_bytes e = run_bytes e.0 ++ written e.1

pairs_joined : (es : List Pair) → joined_bytes pair_bytes es ≡ entries_written (entries_of es)
unfolding entries_written
pairs_joined [] = refl
pairs_joined (e ∷ es) = ap (λ (t : List ℕ). pair_bytes e ++ t) (pairs_joined es)

pair_written : (P : Value → List ℕ → Type 0) → WritesEach P IsCounted written
    → WritesEach (IsEntry P) (λ e. IsCounted e.1) pair_bytes
pair_written P each e bytes is counted = (
  run_bytes e.0,
  written e.1,
  is.2,
  run_written e.0 is.0 is.3,
  each e.1 is.1 is.4 counted,
  refl,
)

each_counted : (vs : List Value) → AreCounted (values_of vs) → AllByRecursion IsCounted vs
each_counted [] counted = tt
each_counted (v ∷ vs) counted = (counted.0, each_counted vs counted.1)

each_entry_counted : (es : List Pair) → EntriesAreCounted (entries_of es) → AllByRecursion (λ e. IsCounted e.1) es
each_entry_counted [] counted = tt
each_entry_counted (e ∷ es) counted = (counted.0, each_entry_counted es counted.1)

array_spelled : (s : Tree) (v : Value) (vs : List Value) (blocks : ℕ) → v ≡ items (values_of vs)
    → AreBlocks (Spells s) blocks vs (block_bytes (length vs) (joined_bytes written vs))
    → AreBlocks (Spells s) blocks vs (written v)
unfolding written
array_spelled s v vs blocks e are = rw (e, values_len-values_of vs, ← (values_joined vs)) are

map_spelled : (s : Tree) (v : Value) (es : List Pair) (blocks : ℕ) → v ≡ entries (entries_of es)
    → AreBlocks (IsEntry (Spells s)) blocks es (block_bytes (length es) (joined_bytes pair_bytes es))
    → AreBlocks (IsEntry (Spells s)) blocks es (written v)
unfolding written
map_spelled s v es blocks e are = rw (e, entries_len-entries_of es, ← (pairs_joined es)) are

-- ---- every schema

mutual
  unfolding written all_written

  pub datum_written : (s : Tree) (v : Value) (bytes : List ℕ) → Spells s v bytes → IsCounted v → Spells s v (written v)
  datum_written null v bytes is counted = (is.0, rw is.0 refl)
  datum_written boolean v bytes is counted = (is.0, is.1, rw is.1 refl)
  datum_written long v bytes is counted = (is.0, is.1, rw is.1 (long_written bytes is.0 is.2))
  datum_written int v bytes is counted = (is.0, is.1, rw is.1 (int_written bytes is.0 is.2))
  datum_written float v bytes is counted = rw is.0 (refl, is.1)
  datum_written double v bytes is counted = rw is.0 (refl, is.1)
  datum_written (symbols n) v bytes is counted = (
    is.0,
    is.1,
    is.2,
    rw is.1 (int_written bytes (pos is.0) is.3),
  )
  datum_written (octets kind) v bytes is counted = (is.0, is.1, rw is.1 (run_written is.0 bytes is.2))
  datum_written string v bytes is counted = (is.0, is.1, is.2, rw is.1 (run_written is.0 bytes is.3))
  datum_written (fixed n kind) v bytes is counted = rw is.0 (refl, is.1)
  datum_written (structure fs) v bytes is counted =
      let each : AllByRecursion IsCounted is.0 = each_counted is.0 (rw is.1 at counted) in
      (is.0, is.1, rw is.1 (fields_written fs is.0 bytes is.2 each))
  datum_written (array s id kind) v bytes is counted =
      let all : IsCounted (items (values_of is.0)) = rw is.1 at counted in
      let few : length is.0 < 2 ^ 63 = omega (arith, all.0, values_len-values_of is.0) in
      let b = block_written (Spells s) IsCounted written (datum_written s) is.0 (blocks_all (Spells s) is.2 is.0 bytes
      is.3) few (each_counted is.0 all.1) in
      (is.0, is.1, b.0, array_spelled s v is.0 b.0 is.1 b.1)
  datum_written (map s) v bytes is counted =
      let all : IsCounted (entries (entries_of is.0)) = rw is.1 at counted in
      let few : length is.0 < 2 ^ 63 = omega (arith, all.0, entries_len-entries_of is.0) in
      let b = block_written (IsEntry (Spells s)) (λ e. IsCounted e.1) pair_bytes (pair_written (Spells s)
      (datum_written s)) is.0 (blocks_all (IsEntry (Spells s)) is.2 is.0 bytes is.3) few
      (each_entry_counted is.0 all.1) in
      (is.0, is.1, b.0, map_spelled s v is.0 b.0 is.1 b.1)
  datum_written (union bs) v bytes is counted =
      let one : IsCounted is.1 = rw is.4 at counted in (
        is.0,
        is.1,
        long_bytes (pos is.0),
        written is.1,
        is.4,
        long_written is.2 (pos is.0) is.5,
        branch_written bs is.0 is.1 is.3 is.6 one,
        rw is.4 refl,
      )

  fields_written : (fs : Fields) (vs : List Value) (bytes : List ℕ) → SpellsFields fs vs bytes
      → AllByRecursion IsCounted vs → SpellsFields fs vs (all_written (values_of vs))
  fields_written no_fields vs bytes is counted = (is.0, rw is.0 refl)
  fields_written (field id s fs) vs bytes is counted =
      let each : AllByRecursion IsCounted (is.0 ∷ is.1) = rw is.4 at counted in (
        is.0,
        is.1,
        written is.0,
        all_written (values_of is.1),
        is.4,
        datum_written s is.0 is.2 is.5 each.0,
        fields_written fs is.1 is.3 is.6 each.1,
        rw is.4 refl,
      )

  branch_written : (bs : Branches) (n : ℕ) (v : Value) (bytes : List ℕ) → SpellsBranch bs n v bytes → IsCounted v
      → SpellsBranch bs n v (written v)
  branch_written no_branches n v bytes is counted = absurd is
  branch_written (branch s bs) zero v bytes is counted = datum_written s v bytes is counted
  branch_written (branch s bs) (suc n) v bytes is counted = branch_written bs n v bytes is counted
