-- The summaries of new files are true of their tuples.
use Rattle.std.proofs.Common.{◌≡◌, ◌<◌, ℕ, zero, suc, Bool, true, false, cond, ◌||◌, List, [], ◌∷◌, map, refl, sym, ◌∙◌}
use Rattle.std.proofs.Common.{ap, subst, arith, Option, Some, None}
use Rattle.std.specs.Prelude.{drop}
use Rattle.std.specs.List.{AllByRecursion, list_any}
use Rattle.std.specs.Option.{option_and_then}
use Rattle.std.proofs.lemmas.Bool.{and_parts}
use Rattle.ice_value.specs.declared.cell.Cell.{Cell}
use Rattle.ice_value.specs.declared.cell.Cell.TheVariants.{Null as NullCell, Bool as Flag, Whole, Text, Bytes}
use Rattle.ice_value.specs.declared.column_type.ColumnType.{ColumnType}
use Rattle.ice_value.specs.declared.column_type.ColumnType.TheVariants.{Boolean, Int, Long, Date, Time, Timestamp}
use Rattle.ice_value.specs.declared.column_type.ColumnType.TheVariants.{Timestamptz, String, Uuid, Fixed, Binary}
use Rattle.ice_value.specs.declared.column_type.ColumnType.TheVariants.{Decimal}
use Rattle.ice_value.specs.declared.file_bounds.Summary.{Summary}
use Rattle.ice_value.specs.Bounds.{cell_in, is_cell, written}
use Rattle.ice_value.specs.Cells.{is_at_most, kind_of}
use Rattle.ice_value.proofs.RoundTrip.{read_back}
use Rattle.ice_filter.specs.Rows as row
use Rattle.ice_meta.specs.declared.spec.PartitionField.{PartitionField}
use Rattle.ice_meta.specs.Partitioning.{is_void}
use Rattle.ice_project.specs.declared.field.Field.{Field}
use Rattle.ice_project.specs.Fields.{field_of}
use Rattle.ice_project.specs.Limits.{LiesIn, limit}
use Rattle.ice_project.specs.Summaries.{AreSummariesOf, IsSummaryOf, type_of_values}
use Rattle.ice_manifest.specs.declared.new_file.NewFile.{NewFile}
use Rattle.ice_manifest.specs.Adding.{is_partition_type}
use Rattle.ice_manifest.specs.NewRows.{bound_of, cell_at, column_of, greatest, is_null, least, summaries_from}
use Rattle.ice_manifest.specs.NewRows.{summary_of}
use Rattle.ice_catalog_versions.specs.declared.tuples.Allowed.{Allowed}
use Rattle.ice_catalog_versions.specs.declared.tuples.Allowed.TheVariants.{Null, Value, Nothing}
use Rattle.ice_catalog_versions.specs.Tuples.{allowed_of, allowed_of_type, allows, fit, written_type}
use Rattle.ice_catalog_versions.proofs.Extremes.{AreOfKind, greatest_best, least_best}
use Rattle.ice_catalog_versions.proofs.Writable.{all_both, all_here, all_map, all_weaker}

-- ---- lists

pub all_of_map : {A B : Type 0} (P : B → Type 0) (f : A → B) (xs : List A) → AllByRecursion P (map f xs)
    → AllByRecursion (λ x. P (f x)) xs
all_of_map P f [] h = tt
all_of_map P f (x ∷ xs) h = (h.0, all_of_map P f xs h.1)

-- what holds of all for each y holds of each for all y
all_for_each : {A Y : Type 0} (Q : Y → Type 0) (P : Y → A → Type 0) (xs : List A)
    → ((y : Y) → Q y → AllByRecursion (P y) xs) → AllByRecursion (λ x. (y : Y) → Q y → P y x) xs
all_for_each Q P [] h = tt
all_for_each Q P (x ∷ xs) h = (λ y q. (h y q).0, all_for_each Q P xs (λ y q. (h y q).1))

or_second : (a b : Bool) → b ≡ true → (a || b) ≡ true
or_second true b h = refl
or_second false b h = h

or_first : (a b : Bool) → a ≡ true → (a || b) ≡ true
or_first a b h = rw h refl

any_of : {A : Type 0} (test : A → Bool) (xs : List A) → AllByRecursion (λ x. test x ≡ true → list_any test xs ≡ true) xs
any_of test [] = tt
any_of test (x ∷ xs) = (
  or_first (test x) (list_any test xs),
  all_weaker (λ y. test y ≡ true → list_any test xs ≡ true) (λ y. test y ≡ true → list_any test (x ∷ xs) ≡ true) xs
      (λ y h e. or_second (test x) (list_any test xs) (h e)) (any_of test xs),
)

-- ---- cells

same_null : (c : Cell) → is_null c ≡ row.is_null c
same_null NullCell = refl
same_null (Flag b) = refl
same_null (Whole z) = refl
same_null (Text s) = refl
same_null (Bytes bs) = refl

-- the kind of the cells of a type
abbrev kind_in : ColumnType → ℕ
kind_in Boolean = 1
kind_in String = 3
kind_in Uuid = 4
kind_in (Fixed size) = 4
kind_in Binary = 4
kind_in (Decimal precision scale) = 4
kind_in _ = 2

some_kind : (t : ColumnType) → 0 < kind_in t
some_kind Boolean = omega arith
some_kind String = omega arith
some_kind Uuid = omega arith
some_kind (Fixed size) = omega arith
some_kind Binary = omega arith
some_kind (Decimal precision scale) = omega arith
some_kind _ = omega arith

kind_of_type : (t : ColumnType) (c : Cell) → is_cell t c ≡ true → kind_of c ≡ kind_in t
kind_of_type Boolean (Flag b) h = refl
kind_of_type Int (Whole z) h = refl
kind_of_type Long (Whole z) h = refl
kind_of_type Date (Whole z) h = refl
kind_of_type Time (Whole z) h = refl
kind_of_type Timestamp (Whole z) h = refl
kind_of_type Timestamptz (Whole z) h = refl
kind_of_type String (Text s) h = refl
kind_of_type Uuid (Bytes bs) h = refl
kind_of_type (Fixed size) (Bytes bs) h = refl
kind_of_type Binary (Bytes bs) h = refl
kind_of_type (Decimal precision scale) (Bytes bs) h = refl
kind_of_type _ _ h = absurd cc

-- ---- bounds

-- a bound that is written of a cell is read as that cell
read_again : (t : ColumnType) (o : Option Cell) (b : Cell) → option_and_then (cell_in t) (option_and_then (written t) o)
    ≡ Some b → o ≡ Some b
read_again t None b h = absurd cc
read_again t (Some c) b h = here (written t c) refl h where
  here : (w : Option (List ℕ)) → written t c ≡ w → option_and_then (cell_in t) w ≡ Some b → Some c ≡ Some b
  here None e h = absurd cc
  here (Some bytes) e h = sym (read_back t c bytes e) ∙ h

bound_read : (t : ColumnType) (o : Option Cell) (b : Cell) → limit t (bound_of t o) ≡ Some b → o ≡ Some b
bound_read Uuid o b h = absurd cc
bound_read t o b h = read_again t o b h

-- ---- one field

allowed_if : (u t : ColumnType) (b : Bool) → cond b (Value u) Nothing ≡ Value t
    → ◌≡◌ {A = Option ColumnType} (Some u) (Some t)
allowed_if u t true h = let same : u ≡ t = cc in ap Some same
allowed_if u t false h = absurd cc

value_type : (o : Option ColumnType) (t : ColumnType) → allowed_of_type o ≡ Value t → o ≡ Some t
value_type None t h = absurd cc
value_type (Some u) t h = allowed_if u t (is_partition_type u) h

-- where values of a type are allowed, it is that of the field's values
pub typed : (p : PartitionField) (t : ColumnType) → allowed_of p ≡ Value t → type_of_values (field_of p) ≡ Some t
typed p t = here (is_void p) where
  here : (b : Bool) → cond b Null (allowed_of_type (type_of_values (field_of p))) ≡ Value t
      → type_of_values (field_of p) ≡ Some t
  here true h = absurd cc
  here false h = value_type (type_of_values (field_of p)) t h

cell_if : (a b : Bool) → (a || b) ≡ true → a ≡ false → b ≡ true
cell_if a b h e = rw e at h

-- what a summary has to say of each cell
abbrev IsNullTold : List Cell → Cell → Type 0
IsNullTold cs c = row.is_null c ≡ true → list_any is_null cs ≡ true

null_told : (cs : List Cell) → AllByRecursion (IsNullTold cs) cs
null_told cs = all_weaker (λ c. is_null c ≡ true → list_any is_null cs ≡ true) (IsNullTold cs) cs
    (λ c h e. h (same_null c ∙ e)) (any_of is_null cs)

module _ (t : ColumnType) (cs : List Cell) (all : AllByRecursion (λ c. allows (Value t) c ≡ true) cs) where
  of_kind : AreOfKind (kind_in t) cs
  of_kind = all_weaker (λ c. allows (Value t) c ≡ true) (λ c. is_null c ≡ false → kind_of c ≡ kind_in t) cs
      (λ c h e. kind_of_type t c (cell_if (row.is_null c) (is_cell t c) h (sym (same_null c) ∙ e))) all

  above : AllByRecursion (λ c. (b : Cell) → limit t (bound_of t (least cs)) ≡ Some b → is_null c ≡ false
      → is_at_most b c ≡ true) cs
  above = all_for_each (λ b. limit t (bound_of t (least cs)) ≡ Some b) (λ b c. is_null c ≡ false
      → is_at_most b c ≡ true) cs (λ b e. least_best (kind_in t) (some_kind t) cs b of_kind (bound_read t (least cs) b
      e))

  under : AllByRecursion (λ c. (b : Cell) → limit t (bound_of t (greatest cs)) ≡ Some b → is_null c ≡ false
      → is_at_most c b ≡ true) cs
  under = all_for_each (λ b. limit t (bound_of t (greatest cs)) ≡ Some b) (λ b c. is_null c ≡ false
      → is_at_most c b ≡ true) cs (λ b e. greatest_best (kind_in t) (some_kind t) cs b of_kind
      (bound_read t (greatest cs) b e))

  lies : AllByRecursion (λ c. row.is_null c ≡ false → LiesIn (limit t (bound_of t (least cs)))
      (limit t (bound_of t (greatest cs))) c) cs
  lies =
      let A : Cell → Type 0 = λ c. (b : Cell) → limit t (bound_of t (least cs)) ≡ Some b → is_null c ≡ false
      → is_at_most b c ≡ true in
      let U : Cell → Type 0 = λ c. (b : Cell) → limit t (bound_of t (greatest cs)) ≡ Some b → is_null c ≡ false
      → is_at_most c b ≡ true in
      all_weaker (λ c. A c × U c) (λ c. row.is_null c ≡ false → LiesIn (limit t (bound_of t (least cs)))
      (limit t (bound_of t (greatest cs))) c) cs
      (λ c h present. record {
        above = λ b e. h.0 b e (same_null c ∙ present);
        below = λ b e. h.1 b e (same_null c ∙ present);
      })
      (all_both A U cs above under)

-- the summary of a field's cells is one of each of them
pub one_field : (field : Field) (a : Allowed) → ((t : ColumnType) → a ≡ Value t → type_of_values field ≡ Some t)
    → (cs : List Cell) → AllByRecursion (λ c. allows a c ≡ true) cs
    → AllByRecursion (IsSummaryOf field (summary_of (written_type a) cs)) cs
one_field field Null of cs all =
    all_weaker (λ c. IsNullTold cs c × (allows Null c ≡ true)) (IsSummaryOf field (summary_of Int cs)) cs
    (λ c h. record { null = h.0; present = λ present r e. let no : true ≡ false = sym h.1 ∙ present in absurd cc })
    (all_both (IsNullTold cs) (λ c. allows Null c ≡ true) cs (null_told cs) all)
one_field field Nothing of cs all = all_weaker (λ c. allows Nothing c ≡ true) (IsSummaryOf field (summary_of Int cs)) cs
    (λ c h. absurd cc) all
one_field field (Value t) of cs all =
    let L : ColumnType → Cell → Type 0 = λ r c. LiesIn (limit r (bound_of t (least cs)))
    (limit r (bound_of t (greatest cs))) c in
    all_weaker (λ c. IsNullTold cs c × (row.is_null c ≡ false → L t c)) (IsSummaryOf field (summary_of t cs)) cs
    (λ c h. record {
      null = h.0;
      present = λ present r e.
          let both : Some t ≡ Some r = sym (of t refl) ∙ e in
          let same : t ≡ r = cc in
          subst (λ r. L r c) same (h.1 present);
    })
    (all_both (IsNullTold cs) (λ c. row.is_null c ≡ false → L t c) cs (null_told cs) (lies t cs all))

-- ---- all fields

from_drop : (i : ℕ) (tuple : List Cell) (c : Cell) (cs : List Cell) → drop i tuple ≡ c ∷ cs
    → (cell_at i tuple ≡ c) × (drop (suc i) tuple ≡ cs)
from_drop zero [] c cs e = absurd cc
from_drop zero (x ∷ xs) c cs e = (cc, cc)
from_drop (suc i) [] c cs e = absurd cc
from_drop (suc i) (x ∷ xs) c cs e = from_drop i xs c cs e

first_fits : (a : Allowed) (others : List Allowed) (i : ℕ) (tuple : List Cell) → fit (a ∷ others) (drop i tuple) ≡ true
    → (allows a (cell_at i tuple) ≡ true) × (fit others (drop (suc i) tuple) ≡ true)
first_fits a others i tuple = here (drop i tuple) refl where
  here : (l : List Cell) → drop i tuple ≡ l → fit (a ∷ others) l ≡ true
      → (allows a (cell_at i tuple) ≡ true) × (fit others (drop (suc i) tuple) ≡ true)
  here [] e h = absurd cc
  here (c ∷ cs) e h =
      let at = from_drop i tuple c cs e in
      let parts = and_parts (allows a c) (fit others cs) h in
      (ap (allows a) at.0 ∙ parts.0, ap (fit others) at.1 ∙ parts.1)

all_fields : (field : Field) (fields : List Field) (s : Summary) (ss : List Summary) (a : Allowed)
    (others : List Allowed) (i : ℕ) (tuple : List Cell)
    → fit (a ∷ others) (drop i tuple) ≡ true → IsSummaryOf field s (cell_at i tuple)
    → AreSummariesOf fields ss (drop (suc i) tuple) → AreSummariesOf (field ∷ fields) (s ∷ ss) (drop i tuple)
all_fields field fields s ss a others i tuple fits one rest = here (drop i tuple) refl fits where
  here : (l : List Cell) → drop i tuple ≡ l → fit (a ∷ others) l ≡ true → AreSummariesOf (field ∷ fields) (s ∷ ss) l
  here [] e h = absurd cc
  here (c ∷ cs) e h =
      let at = from_drop i tuple c cs e in
      (subst (IsSummaryOf field s) at.0 one, subst (AreSummariesOf fields ss) at.1 rest)

-- of tuples that fit
abbrev FitFrom : List PartitionField → ℕ → NewFile → Type 0
FitFrom ps i f = fit (map allowed_of ps) (drop i f.tuple) ≡ true

abbrev AreToldFrom : List PartitionField → ℕ → List NewFile → NewFile → Type 0
AreToldFrom ps i files f = AreSummariesOf (map field_of ps) (summaries_from i (map written_type (map allowed_of ps))
    files) (drop i f.tuple)

told_from : (ps : List PartitionField) (i : ℕ) (files : List NewFile) → AllByRecursion (FitFrom ps i) files
    → AllByRecursion (AreToldFrom ps i files) files
told_from [] i files all = all_here (AreToldFrom [] i files) files (λ f. tt)
told_from (p ∷ ps) i files all =
    let a = allowed_of p in
    let s = summary_of (written_type a) (column_of i files) in
    let H : NewFile → Type 0 = λ f. IsSummaryOf (field_of p) s (cell_at i f.tuple) in
    let cells = all_map (λ c. allows a c ≡ true) (λ (f : NewFile). cell_at i f.tuple) files
    (all_weaker (FitFrom (p ∷ ps) i) (λ f. allows a (cell_at i f.tuple) ≡ true) files
    (λ f h. (first_fits a (map allowed_of ps) i f.tuple h).0) all) in
    let heads : AllByRecursion H files = all_of_map (IsSummaryOf (field_of p) s) (λ (f : NewFile). cell_at i f.tuple)
    files (one_field (field_of p) a (typed p) (column_of i files) cells) in
    let rest = told_from ps (suc i) files (all_weaker (FitFrom (p ∷ ps) i) (FitFrom ps (suc i)) files
    (λ f h. (first_fits a (map allowed_of ps) i f.tuple h).1) all) in
    all_weaker (λ f. FitFrom (p ∷ ps) i f × (H f × AreToldFrom ps (suc i) files f)) (AreToldFrom (p ∷ ps) i files) files
    (λ f h. all_fields (field_of p) (map field_of ps) s (summaries_from (suc i) (map written_type (map allowed_of ps))
    files) a (map allowed_of ps) i f.tuple h.0 h.1.0 h.1.1)
    (all_both (FitFrom (p ∷ ps) i) (λ f. H f × AreToldFrom ps (suc i) files f) files all
    (all_both H (AreToldFrom ps (suc i) files) files heads rest))

pub told : (ps : List PartitionField) (files : List NewFile)
    → AllByRecursion (λ f. fit (map allowed_of ps) f.tuple ≡ true) files
    → AllByRecursion (λ f. AreSummariesOf (map field_of ps) (summaries_from 0 (map written_type (map allowed_of ps))
    files) f.tuple) files
told ps files all = told_from ps 0 files all
