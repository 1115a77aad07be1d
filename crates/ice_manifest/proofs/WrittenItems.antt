-- Items of JSON that are put one behind the other.
use Rattle.std.proofs.Common.{◌≡◌, ℕ, zero, suc, ◌+◌, ◌<◌, ◌≤◌, List, [], ◌∷◌, ◌++◌, length, get_or, take, drop, refl}
use Rattle.std.proofs.Common.{sym, ap, subst, ◌∙◌, arith, add-one, drop-cons}
use Rattle.std.proofs.Math.ListN.{drop_of_length-le}
use Rattle.std.specs.List.{AllByRecursion}
use Rattle.serde_json.specs.declared.value.Value.{Value}
use Rattle.serde_json.specs.Data.{Data, Items, no_items, item}
use Rattle.serde_json.specs.View.{view, items_view}
use Rattle.ice_value.specs.declared.column_type.ColumnType.{ColumnType}
use Rattle.ice_meta.specs.declared.spec.PartitionField.{PartitionField}
use denote.Ref.{Bor}
use Rattle.ice_manifest.specs.Adding.{lent}
use Rattle.ice_manifest.specs.declared.partition_names.Naming.{Naming}
use Rattle.ice_manifest.specs.Writing.{partition_field_json, partition_fields_json}
use Rattle.ice_manifest.specs.WrittenTypes.{fields_json}
use Rattle.ice_manifest.specs.WrittenSchemas.{partition_field_type, partition_fields}

abbrev pub joined : Items → Items → Items
joined no_items es = es
joined (item d ds) es = item d (joined ds es)

pub joined_none : (ds : Items) → joined ds no_items ≡ ds
joined_none no_items = refl
joined_none (item d ds) = ap (item d) (joined_none ds)

joined_last : (vs : List Value) (v : Value) (es : Items)
    → joined (items_view (vs ++ v ∷ [])) es ≡ joined (items_view vs) (item (view v) es)
joined_last [] v es = refl
joined_last (w ∷ vs) v es = ap (item (view w)) (joined_last vs v es)

-- the next of a list, and those after it
pub step_of : {A : Type 0} (xs : List A) (i : ℕ) (x : A) → i < length xs → x ≡ get_or xs i x
    → drop i xs ≡ x ∷ drop (i + 1) xs
step_of xs i x lt is = drop-cons xs i x lt ∙ rw (← is, add-one) refl

-- what stands at a place, whatever it is taken for elsewhere
pub got_or : {A : Type 0} (xs : List A) (i : ℕ) (d e : A) → i < length xs → get_or xs i d ≡ get_or xs i e
got_or [] i d e lt = absurd (omega arith)
got_or (x ∷ xs) zero d e lt = refl
got_or (x ∷ xs) (suc i) d e lt = got_or xs i d e (omega arith)

-- ---- the fields of partition values

next_field : (naming : Naming) (p : PartitionField) (ps rest : List PartitionField) (t : ColumnType)
    (ts others : List ColumnType) → ps ≡ p ∷ rest → ts ≡ t ∷ others
    → fields_json (partition_fields naming ps ts) ≡ item (partition_field_type naming p t)
    (fields_json (partition_fields naming rest others))
unfolding fields_json
next_field naming p ps rest t ts others e f = rw (e, f) refl

-- one field more
pub fields_on : (naming : Naming) (ps : List PartitionField) (ts : List ColumnType) (i : ℕ) (p : PartitionField)
    (t u : ColumnType) (vs : List Value) (v : Value) (all : Items) → i < length ps → i < length ts
    → p ≡ get_or ps i p → t ≡ get_or ts i u → view v ≡ partition_field_type naming p t
    → joined (items_view vs) (fields_json (partition_fields naming (drop i ps) (drop i ts))) ≡ all
    → joined (items_view (vs ++ v ∷ [])) (fields_json (partition_fields naming (drop (i + 1) ps) (drop (i + 1) ts)))
    ≡ all
fields_on naming ps ts i p t u vs v all within in_types is types made so_far =
    let rest = fields_json (partition_fields naming (drop (i + 1) ps) (drop (i + 1) ts)) in
    let next = next_field naming p (drop i ps) (drop (i + 1) ps) t (drop i ts) (drop (i + 1) ts)
    (step_of ps i p within is) (step_of ts i t in_types (types ∙ got_or ts i u t in_types)) in
    joined_last vs v rest ∙ ap (λ (d : Data). joined (items_view vs) (item d rest)) made ∙ ap (joined (items_view vs))
    (sym next) ∙ so_far

no_field : (naming : Naming) (ts : List ColumnType) → fields_json (partition_fields naming [] ts) ≡ no_items
unfolding fields_json
no_field naming ts = refl

-- at the end no field is left
pub fields_over : (naming : Naming) (ps : List PartitionField) (ts : List ColumnType) (i : ℕ) (ds all : Items)
    → length ps ≤ i → joined ds (fields_json (partition_fields naming (drop i ps) (drop i ts))) ≡ all → ds ≡ all
fields_over naming ps ts i ds all past so_far =
    let none : fields_json (partition_fields naming (drop i ps) (drop i ts)) ≡ no_items = rw (drop_of_length-le ps past)
    (no_field naming (drop i ts)) in
    sym (joined_none ds) ∙ ap (joined ds) (sym none) ∙ so_far

-- ---- a fact of each element so far

next_all : {A : Type 0} (P : A → Type 0) (xs : List A) (i : ℕ) (x : A) → i < length xs → x ≡ get_or xs i x → P x
    → AllByRecursion P (take i xs) → AllByRecursion P (take (suc i) xs)
next_all P [] i x lt is h all = absurd (omega arith)
next_all {A} P (y ∷ xs) zero x lt is h all = (subst P is h, tt)
next_all P (y ∷ xs) (suc i) x lt is h all = (all.0, next_all P xs i x (omega arith) is h all.1)

pub all_on : {A : Type 0} (P : A → Type 0) (xs : List A) (i : ℕ) (x : A) → i < length xs → x ≡ get_or xs i x → P x
    → AllByRecursion P (take i xs) → AllByRecursion P (take (i + 1) xs)
all_on P xs i x lt is h all = rw add-one (next_all P xs i x lt is h all)

pub all_over : {A : Type 0} (P : A → Type 0) (xs : List A) (i : ℕ) → length xs ≤ i → AllByRecursion P (take i xs)
    → AllByRecursion P xs
all_over P [] i past all = tt
all_over P (y ∷ xs) zero past all = absurd (omega arith)
all_over P (y ∷ xs) (suc i) past all = (all.0, all_over P xs i (omega arith) all.1)

pub all_at : {A : Type 0} (P : A → Type 0) (xs : List (Bor A)) (i : ℕ) (x : Bor A) → i < length xs → x ≡ get_or xs i x
    → AllByRecursion P (lent xs) → P x.now
all_at P [] i x lt is all = absurd (omega arith)
all_at {A} P (y ∷ xs) zero x lt is all = subst (λ (z : Bor A). P z.now) (sym is) all.0
all_at P (y ∷ xs) (suc i) x lt is all = all_at P xs i x (omega arith) is all.1

-- ---- the fields of a spec

pub specs_on : (ps : List PartitionField) (i : ℕ) (p : PartitionField) (vs : List Value) (v : Value) (all : Items)
    → i < length ps → p ≡ get_or ps i p → view v ≡ partition_field_json p
    → joined (items_view vs) (partition_fields_json (drop i ps)) ≡ all
    → joined (items_view (vs ++ v ∷ [])) (partition_fields_json (drop (i + 1) ps)) ≡ all
specs_on ps i p vs v all lt is made so_far =
    let rest = partition_fields_json (drop (i + 1) ps) in
    joined_last vs v rest ∙ ap (λ (d : Data). joined (items_view vs) (item d rest)) made ∙ ap
    (λ qs. joined (items_view vs) (partition_fields_json qs)) (sym (step_of ps i p lt is)) ∙ so_far

pub specs_over : (ps : List PartitionField) (i : ℕ) (ds all : Items)
    → length ps ≤ i → joined ds (partition_fields_json (drop i ps)) ≡ all → ds ≡ all
specs_over ps i ds all past so_far = sym (joined_none ds) ∙ ap (λ qs. joined ds (partition_fields_json qs))
    (sym (drop_of_length-le ps past)) ∙ so_far
