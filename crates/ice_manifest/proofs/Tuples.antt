-- The cells of a tuple, one for each type.
use Rattle.std.proofs.Common.{◌≡◌, ℕ, zero, suc, ◌+◌, ◌<◌, ◌≤◌, Bool, true, false, ◌&&◌, List, [], ◌∷◌, ◌++◌, length}
use Rattle.std.proofs.Common.{get_or, take, drop, refl, sym, ap, ◌∙◌, add-one, arith}
use Rattle.ice_manifest.proofs.WrittenItems.{step_of, got_or}
use Rattle.avro_file.specs.Value.{Value}
use Rattle.avro_file.specs.declared.datum.Datum.{Datum}
use Rattle.avro_file.specs.View.{view, views}
use Rattle.ice_value.specs.declared.column_type.ColumnType.{ColumnType}
use Rattle.ice_value.specs.declared.cell.Cell.{Cell}
use Rattle.std.specs.List.{AllByRecursion}
use Rattle.ice_manifest.specs.declared.heading.Heading.{Heading}
use Rattle.ice_manifest.specs.declared.new_file.NewFile.{NewFile}
use Rattle.ice_manifest.specs.Adding.{IsNewFile, is_null_or_of, is_tuple_of}
use Rattle.ice_manifest.specs.WrittenValues.{cell_value, tuple_values}

both : (a b : Bool) → (a && b) ≡ true → (a ≡ true) × (b ≡ true)
both true true h = (refl, refl)
both true false h = absurd cc
both false b h = absurd cc

pub one_for_each : (ts : List ColumnType) (cs : List Cell) → is_tuple_of ts cs ≡ true → length ts ≡ length cs
one_for_each [] [] h = refl
one_for_each [] (c ∷ cs) h = absurd cc
one_for_each (t ∷ ts) [] h = absurd cc
one_for_each (t ∷ ts) (c ∷ cs) h = ap suc (one_for_each ts cs (both (is_null_or_of t c) (is_tuple_of ts cs) h).1)

-- the cell at a place is of the type there
pub cell_is_of : (ts : List ColumnType) (cs : List Cell) (i : ℕ) (t : ColumnType) (c : Cell) → is_tuple_of ts cs ≡ true
    → i < length cs → c ≡ get_or cs i c → is_null_or_of (get_or ts i t) c ≡ true
cell_is_of [] [] i t c h lt is = absurd (omega arith)
cell_is_of [] (d ∷ cs) i t c h lt is = absurd cc
cell_is_of (u ∷ ts) [] i t c h lt is = absurd cc
cell_is_of (u ∷ ts) (d ∷ cs) zero t c h lt is = ap (is_null_or_of u) is ∙ (both (is_null_or_of u d) (is_tuple_of ts cs)
    h).0
cell_is_of (u ∷ ts) (d ∷ cs) (suc i) t c h lt is = cell_is_of ts cs i t c (both (is_null_or_of u d) (is_tuple_of ts cs)
    h).1 (omega arith) is

next_value : (ts : List ColumnType) (cs : List Cell) (i : ℕ) (t : ColumnType) (c : Cell) → i < length cs → i < length ts
    → c ≡ get_or cs i c → tuple_values (take i ts) (take i cs) ++ cell_value (get_or ts i t) c ∷ [] ≡ tuple_values
    (take (suc i) ts) (take (suc i) cs)
next_value ts [] i t c lt less is = absurd (omega arith)
next_value [] (d ∷ cs) i t c lt less is = absurd (omega arith)
next_value (u ∷ ts) (d ∷ cs) zero t c lt less is = ap (λ (e : Cell). cell_value u e ∷ []) is
next_value (u ∷ ts) (d ∷ cs) (suc i) t c lt less is = ap (λ vs. cell_value u d ∷ vs)
    (next_value ts cs i t c (omega arith) (omega arith) is)

views_last : (ds : List Datum) (d : Datum) → views (ds ++ d ∷ []) ≡ views ds ++ view d ∷ []
views_last [] d = refl
views_last (e ∷ ds) d = ap (λ vs. view e ∷ vs) (views_last ds d)

-- one value more
pub values_on : (ts : List ColumnType) (cs : List Cell) (i : ℕ) (t : ColumnType) (c : Cell) (ds : List Datum)
    (d : Datum) → is_tuple_of ts cs ≡ true → i < length cs → c ≡ get_or cs i c → view d ≡ cell_value (get_or ts i t) c
    → views ds ≡ tuple_values (take i ts) (take i cs)
    → views (ds ++ d ∷ []) ≡ tuple_values (take (i + 1) ts) (take (i + 1) cs)
values_on ts cs i t c ds d h lt is made so_far =
    let less : i < length ts = omega (arith, one_for_each ts cs h) in
    views_last ds d ∙ ap (λ (vs : List Value). vs ++ view d ∷ []) so_far ∙ ap (λ (v : Value). tuple_values (take i ts)
    (take i cs) ++ v ∷ []) made ∙ next_value ts cs i t c lt less is
    ∙ ap (λ (n : ℕ). tuple_values (take n ts) (take n cs)) (sym (add-one i))

all_taken : {A : Type 0} (xs : List A) (i : ℕ) → length xs ≤ i → take i xs ≡ xs
all_taken [] zero h = refl
all_taken [] (suc i) h = refl
all_taken (x ∷ xs) zero h = absurd (omega arith)
all_taken (x ∷ xs) (suc i) h = ap (λ t. x ∷ t) (all_taken xs i (omega arith))

pub values_over : (ts : List ColumnType) (cs : List Cell) (i : ℕ) (vs : List Value) → is_tuple_of ts cs ≡ true
    → length cs ≤ i → vs ≡ tuple_values (take i ts) (take i cs) → vs ≡ tuple_values ts cs
values_over ts cs i vs h past so_far =
    so_far ∙ ap (λ us. tuple_values us (take i cs)) (all_taken ts i (omega (arith, one_for_each ts cs h))) ∙ ap
    (tuple_values ts) (all_taken cs i past)

pub their_tuples : (h : Heading) (fs : List NewFile) → AllByRecursion (IsNewFile h) fs
    → AllByRecursion (λ (f : NewFile). is_tuple_of h.types f.tuple ≡ true) fs
their_tuples h [] all = tt
their_tuples h (f ∷ fs) all = (all.0.tuple, their_tuples h fs all.1)

is_false : (b : Bool) → (b ≡ true → ⊥) → false ≡ b
is_false true h = absurd (h refl)
is_false false h = refl

pub none_for_each : (ts : List ColumnType) (cs : List Cell) → (length ts ≡ length cs → ⊥) → false ≡ is_tuple_of ts cs
none_for_each ts cs other = is_false (is_tuple_of ts cs) (λ e. other (one_for_each ts cs e))

-- a cell that is of its type is passed over
pub tuple_on : (ts : List ColumnType) (cs : List Cell) (i : ℕ) (t : ColumnType) (c : Cell) (all : Bool) → i < length cs
    → i < length ts → c ≡ get_or cs i c → is_null_or_of (get_or ts i t) c ≡ true
    → is_tuple_of (drop i ts) (drop i cs) ≡ all → is_tuple_of (drop (i + 1) ts) (drop (i + 1) cs) ≡ all
tuple_on ts cs i t c all lt less is fine so_far =
    let u = get_or ts i t in
    let types : drop i ts ≡ u ∷ drop (i + 1) ts = step_of ts i u less (got_or ts i t u less) in
    let cells : drop i cs ≡ c ∷ drop (i + 1) cs = step_of cs i c lt is in
    let here : is_tuple_of (u ∷ drop (i + 1) ts) (c ∷ drop (i + 1) cs) ≡ is_tuple_of (drop (i + 1) ts)
    (drop (i + 1) cs) = rw fine refl in
    sym here ∙ ap (λ (us : List ColumnType). is_tuple_of us (c ∷ drop (i + 1) cs)) (sym types) ∙ ap
    (is_tuple_of (drop i ts)) (sym cells) ∙ so_far
