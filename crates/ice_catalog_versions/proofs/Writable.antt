-- The groups of a change that isn't refused can be written.
use Rattle.std.proofs.Common.{subst, inl, inr, ◌≡◌, ◌≤◌, ℕ, suc, ℤ, pos, negsuc, Bool, true, false, cond, not, ◌&&◌}
use Rattle.std.proofs.Common.{◌||◌, List, [], ◌∷◌, ◌++◌, length, map, filter, find, refl, sym, ap, ◌∙◌, arith}
use Rattle.std.specs.Prelude.{Option, None, Some, IfSome, is_some, is_none, nat_lt, nat_le}
use Rattle.std.specs.List.{AllByRecursion, dedup, dedup_from}
use Rattle.std.specs.Ordering.{int_eq}
use Rattle.std.proofs.lemmas.Bool.{and_parts, leb-true}
use Rattle.std.proofs.lemmas.Bool.Decides.{Decides-int_eq}
use Rattle.std.proofs.lemmas.List.{length-map}
use Rattle.contract_words.specs.Sorting.{put, sorted}
use Rattle.ice_value.specs.declared.cell.Cell.{Cell}
use Rattle.ice_value.specs.declared.cell.Cell.TheVariants as cells
use Rattle.ice_value.specs.declared.column_type.ColumnType.{ColumnType}
use Rattle.ice_value.specs.declared.column_type.ColumnType.TheVariants as types
use Rattle.ice_value.specs.declared.file_content.FileContent.{FileContent}
use Rattle.ice_value.specs.declared.file_content.FileContent.TheVariants as holds
use Rattle.ice_value.specs.Bounds.{is_cell, is_decimal, is_value}
use Rattle.ice_meta.specs.declared.spec.PartitionField.{PartitionField}
use Rattle.ice_meta.specs.declared.spec.Spec.{Spec}
use Rattle.ice_meta.specs.Different.{HasDifferentFields}
use Rattle.ice_meta.specs.Partitioning.{is_void}
use Rattle.ice_meta.specs.Targets.{Described}
use Rattle.ice_manifest.specs.declared.heading.Heading.{Heading}
use Rattle.ice_manifest.specs.declared.new_file.NewFile.{NewFile}
use Rattle.ice_manifest_reading.specs.declared.row.ManifestContent.{ManifestContent}
use Rattle.ice_manifest_reading.specs.declared.row.ManifestContent.TheVariants.{Data, Deletes}
use Rattle.ice_manifest.specs.Adding.{is_partition_type, is_null_or_of, is_tuple_of, IsHeading, IsAmount, IsNewFile}
use Rattle.ice_manifest.specs.Adding.{AreNewFiles, MayReference}
use Rattle.ice_manifest_reading.specs.Laws.{MayHold}
use Rattle.ice_project.specs.Fields.{field_of}
use Rattle.ice_project.specs.Summaries.{type_of_values}
use Rattle.ice_catalog_changes.specs.declared.change.Ids.{Ids}
use Rattle.ice_catalog_versions.specs.declared.tuples.Allowed.{Allowed}
use Rattle.ice_catalog_versions.specs.declared.tuples.Allowed.TheVariants.{Null, Value, Nothing}
use Rattle.ice_catalog_versions.specs.Adding.{CanWrite, schema_text, types_of, heading_of, spec_or_none}
use Rattle.ice_catalog_versions.specs.Bases.{table_specs, spec_in}
use Rattle.ice_catalog_versions.specs.Groups.{id_before, spec_ids, is_of_spec, group_of, groups_of}
use Rattle.ice_catalog_versions.specs.Refusals.{is_count, is_for, are_ids, may_name, is_good, is_bad, spec_id_of}
use Rattle.ice_catalog_versions.specs.Refusals.{is_unknown}
use Rattle.ice_catalog_versions.specs.Refusals.{is_wrong}
use Rattle.ice_catalog_versions.specs.Tuples.{allowed_of, allowed_of_type, allows, fit, fits_spec, written_type}

-- ---- lists

pub all_map : {A B : Type 0} (P : B → Type 0) (f : A → B) (xs : List A) → AllByRecursion (λ x. P (f x)) xs
    → AllByRecursion P (map f xs)
all_map P f [] h = tt
all_map P f (x ∷ xs) h = (h.0, all_map P f xs h.1)

pub all_weaker : {A : Type 0} (P Q : A → Type 0) (xs : List A) → ((x : A) → P x → Q x) → AllByRecursion P xs
    → AllByRecursion Q xs
all_weaker P Q [] f h = tt
all_weaker P Q (x ∷ xs) f h = (f x h.0, all_weaker P Q xs f h.1)

pub all_append : {A : Type 0} (P : A → Type 0) (xs ys : List A) → AllByRecursion P xs → AllByRecursion P ys
    → AllByRecursion P (xs ++ ys)
all_append P [] ys h k = k
all_append P (x ∷ xs) ys h k = (h.0, all_append P xs ys h.1 k)

pub all_split : {A : Type 0} (P : A → Type 0) (xs ys : List A) → AllByRecursion P (xs ++ ys)
    → AllByRecursion P xs × AllByRecursion P ys
all_split P [] ys h = (tt, h)
all_split P (x ∷ xs) ys h = let k = all_split P xs ys h.1 in ((h.0, k.0), k.1)

-- what passes a test keeps what all have, and passes
pub all_filter : {A : Type 0} (P : A → Type 0) (test : A → Bool) (xs : List A) → AllByRecursion P xs
    → AllByRecursion (λ x. P x × (test x ≡ true)) (filter test xs)
all_filter P test [] h = tt
all_filter {A = A} P test (x ∷ xs) h =
    let Q : A → Type 0 = λ x. P x × (test x ≡ true) in
    let R : (b : Bool) → test x ≡ b → AllByRecursion Q (cond b (x ∷ filter test xs) (filter test xs)) =
    λ b. elim b as (λ b. test x ≡ b → AllByRecursion Q (cond b (x ∷ filter test xs) (filter test xs))) [
      | true ↦ λ e. ((h.0, e), all_filter P test xs h.1)
      | false ↦ λ e. all_filter P test xs h.1
    ] in
    R (test x) refl

length_filter : {A : Type 0} (test : A → Bool) (xs : List A) → length (filter test xs) ≤ length xs
length_filter test [] = omega arith
length_filter test (x ∷ xs) =
    elim (test x) as (λ b. length (cond b (x ∷ filter test xs) (filter test xs)) ≤ suc (length xs)) [
      | true ↦ let h = length_filter test xs in omega arith
      | false ↦ let h = length_filter test xs in omega arith
    ]

pub all_put : {A : Type 0} (P : A → Type 0) (before : A → A → Bool) (x : A) (ys : List A) → P x → AllByRecursion P ys
    → AllByRecursion P (put before x ys)
all_put P before x [] p h = (p, h)
all_put P before x (y ∷ ys) p h = elim (before y x) as (λ b. AllByRecursion P (cond b (y ∷ put before x ys)
    (x ∷ y ∷ ys))) [ true ↦ (h.0, all_put P before x ys p h.1) | false ↦ (p, h) ]

pub all_sorted : {A : Type 0} (P : A → Type 0) (before : A → A → Bool) (xs : List A) → AllByRecursion P xs
    → AllByRecursion P (sorted before xs)
all_sorted P before [] h = h
all_sorted P before (x ∷ xs) h = all_put P before x (sorted before xs) h.0 (all_sorted P before xs h.1)

all_dedup_from : {A : Type 0} (P : A → Type 0) (same : A → A → Bool) (k : A) (xs : List A) → P k → AllByRecursion P xs
    → AllByRecursion P (dedup_from same k xs)
all_dedup_from P same k [] p h = (p, h)
all_dedup_from P same k (x ∷ xs) p h = elim (same x k) as (λ b. AllByRecursion P (cond b (dedup_from same k xs)
    (k ∷ dedup_from same x xs))) [
      | true ↦ all_dedup_from P same k xs p h.1
      | false ↦ (
        p,
        all_dedup_from P same x xs h.0
            h.1,
      )
    ]

pub all_dedup : {A : Type 0} (P : A → Type 0) (same : A → A → Bool) (xs : List A) → AllByRecursion P xs
    → AllByRecursion P (dedup same xs)
all_dedup P same [] h = h
all_dedup P same (x ∷ xs) h = all_dedup_from P same x xs h.0 h.1

-- what is found has what all have
pub found_has : {A : Type 0} (P : A → Type 0) (test : A → Bool) (xs : List A) (x : A) → AllByRecursion P xs
    → find test xs ≡ Some x → P x
found_has P test [] x h e = absurd cc
found_has {A = A} P test (y ∷ xs) x h e =
    let R : (b : Bool) → cond b (Some y) (find test xs) ≡ Some x → P x =
    λ b. elim b as (λ b. cond b (Some y) (find test xs) ≡ Some x → P x) [
      | true ↦ λ k. let same : y ≡ x = cc in subst P same h.0
      | false ↦ λ k. found_has P test xs x h.1 k
    ] in
    R (test y) e

-- ---- the ranges of a file

pub not_true : (b : Bool) → not b ≡ false → b ≡ true
not_true true h = refl
not_true false h = absurd cc

le_from : (a b : ℕ) → nat_le a b ≡ true → a ≤ b
le_from a b h = leb-true a b h

amount : (z : ℤ) → is_count z ≡ true → IsAmount z
amount (pos n) h = le_from n _ h
amount (negsuc n) h = absurd cc

may_hold : (content : ManifestContent) (c : FileContent) → is_for content c ≡ true → MayHold content c
may_hold Data holds.Data h = refl
may_hold Data holds.PositionDeletes h = absurd cc
may_hold Data holds.EqualityDeletes h = absurd cc
may_hold Deletes holds.Data h = absurd cc
may_hold Deletes holds.PositionDeletes h = inl refl
may_hold Deletes holds.EqualityDeletes h = inr refl

few_ids : (c : FileContent) (n : ℕ) → are_ids c n ≡ true → n ≤ 1000
few_ids holds.Data n h = le_from n 1000 h
few_ids holds.PositionDeletes n h = le_from n 1000 h
few_ids holds.EqualityDeletes n h = le_from n 1000 (and_parts (nat_lt 0 n) (nat_le n 1000) h).1

may_reference : (c : FileContent) (o : Option (List ℕ)) → may_name c o ≡ true → IfSome o (MayReference c)
may_reference c None h = tt
may_reference holds.Data (Some path) h = absurd cc
may_reference holds.PositionDeletes (Some path) h = (refl, le_from (length path) 65535 h)
may_reference holds.EqualityDeletes (Some path) h = absurd cc

-- ---- partition values

abbrev IsWritable : Allowed → Type 0
IsWritable Null = Unit {0}
IsWritable (Value t) = is_partition_type t ≡ true
IsWritable Nothing = Unit {0}

writable_if : (t : ColumnType) (b : Bool) → is_partition_type t ≡ b → IsWritable (cond b (Value t) Nothing)
writable_if t true h = h
writable_if t false h = tt

writable_type : (o : Option ColumnType) → IsWritable (allowed_of_type o)
writable_type None = tt
writable_type (Some t) = writable_if t (is_partition_type t) refl

writable : (field : PartitionField) → IsWritable (allowed_of field)
writable field = here (is_void field) where
  here : (b : Bool) → IsWritable (cond b Null (allowed_of_type (type_of_values (field_of field))))
  here true = tt
  here false = writable_type (type_of_values (field_of field))

written : (a : Allowed) → IsWritable a → is_partition_type (written_type a) ≡ true
written Null h = refl
written (Value t) h = h
written Nothing h = refl

not_decimal : (t : ColumnType) (c : Cell) → is_partition_type t ≡ true → is_decimal t c ≡ false
not_decimal (types.Decimal precision scale) c h = absurd cc
not_decimal _ c h = refl

or_second : (a b : Bool) → (a || b) ≡ true → a ≡ false → b ≡ true
or_second a b h e = rw e at h

both_true : (a b : Bool) → a ≡ true → b ≡ true → (a && b) ≡ true
both_true a b h k = rw (h, k) refl

value_of : (t : ColumnType) (c : Cell) → is_partition_type t ≡ true → is_cell t c ≡ true → is_value t c ≡ true
value_of t c h k = or_second (is_decimal t c) (is_value t c) k (not_decimal t c h)

cell_fits : (a : Allowed) (c : Cell) → IsWritable a → allows a c ≡ true → is_null_or_of (written_type a) c ≡ true
cell_fits Null cells.Null w h = refl
cell_fits Null (cells.Bool b) w h = absurd cc
cell_fits Null (cells.Whole z) w h = absurd cc
cell_fits Null (cells.Text s) w h = absurd cc
cell_fits Null (cells.Bytes bs) w h = absurd cc
cell_fits (Value t) cells.Null w h = refl
cell_fits (Value t) (cells.Bool b) w h = value_of t (cells.Bool b) w h
cell_fits (Value t) (cells.Whole z) w h = value_of t (cells.Whole z) w h
cell_fits (Value t) (cells.Text s) w h = value_of t (cells.Text s) w h
cell_fits (Value t) (cells.Bytes bs) w h = value_of t (cells.Bytes bs) w h
cell_fits Nothing c w h = absurd cc

tuple_fits : (allowed : List Allowed) (cs : List Cell) → AllByRecursion IsWritable allowed → fit allowed cs ≡ true
    → is_tuple_of (map written_type allowed) cs ≡ true
tuple_fits [] [] w h = refl
tuple_fits [] (c ∷ cs) w h = absurd cc
tuple_fits (a ∷ allowed) [] w h = absurd cc
tuple_fits (a ∷ allowed) (c ∷ cs) w h =
    let parts = and_parts (allows a c) (fit allowed cs) h in
    both_true (is_null_or_of (written_type a) c) (is_tuple_of (map written_type allowed) cs) (cell_fits a c w.0 parts.0)
    (tuple_fits allowed cs w.1 parts.1)

pub all_here : {A : Type 0} (P : A → Type 0) (xs : List A) → ((x : A) → P x) → AllByRecursion P xs
all_here P [] f = tt
all_here P (x ∷ xs) f = (f x, all_here P xs f)

writable_fields : (spec : Spec) → AllByRecursion IsWritable (map allowed_of spec.fields)
writable_fields spec = all_map IsWritable allowed_of spec.fields (all_here (λ f. IsWritable (allowed_of f)) spec.fields
    writable)

-- ---- specs

pub record IsSmall (spec : Spec) : Type 0 where
  pub few : length spec.fields ≤ 64
  pub different : HasDifferentFields spec

pub some_of : (o : Option Spec) → is_none o ≡ false → (spec : Spec) × (o ≡ Some spec)
some_of None h = absurd cc
some_of (Some spec) h = (spec, refl)

is_there : (o : Option Spec) (spec : Spec) → o ≡ Some spec → is_some o ≡ true
is_there o spec h = ap is_some h

-- ---- groups

-- the heading of a group, over its spec
abbrev heading_over : Described → Ids → ManifestContent → Spec → Heading
heading_over m ids content spec = record {
  schema = schema_text m;
  schema_id = m.table.current_schema_id;
  spec = spec;
  types = types_of spec;
  content = content;
  snapshot_id = ids.snapshot;
  sync = ids.uuid;
}

heading_small : (m : Described) (ids : Ids) (content : ManifestContent) (spec : Spec) → IsSmall spec
    → IsHeading (heading_over m ids content spec)
heading_small m ids content spec small = record {
  few = small.few;
  different = small.different;
  typed = length-map (map allowed_of spec.fields) written_type ∙ length-map spec.fields allowed_of;
  written = all_map (λ t. is_partition_type t ≡ true) written_type (map allowed_of spec.fields)
      (all_weaker IsWritable (λ a. is_partition_type (written_type a) ≡ true) (map allowed_of spec.fields) written
      (writable_fields spec));
}

-- a file of the change is in its ranges and fits its spec
abbrev pub IsRight : List Spec → ManifestContent → NewFile → Type 0
IsRight specs content f = (is_bad content f ≡ false) × (is_wrong specs f ≡ false)

new_file : (m : Described) (ids : Ids) (content : ManifestContent) (specs : List Spec) (id : ℤ) (spec : Spec)
    → spec_in specs id ≡ Some spec
    → (f : NewFile) → IsRight specs content f × (is_of_spec id f ≡ true) → IsNewFile (heading_over m ids content spec) f
new_file m ids content specs id spec is f h =
    let good = and_parts (is_count f.record_count) _ (not_true (is_good content f) h.0.0) in
    let size = and_parts (is_count f.file_size) _ good.1 in
    let path = and_parts (nat_le (length f.path) 65535) _ size.1 in
    let rest = and_parts (is_for content f.content) _ path.1 in
    let ids = and_parts (are_ids f.content (length f.equality_ids)) (may_name f.content f.referenced) rest.1 in
    let same : f.spec_id ≡ id = (Decides-int_eq f.spec_id id).0 h.1 in
    let found : spec_in specs f.spec_id ≡ Some spec = ap (spec_in specs) same ∙ is in
    let fits : fits_spec (Some spec) f.tuple ≡ true = ap (λ o. fits_spec o f.tuple) (sym found) ∙ not_true
    (fits_spec (spec_in specs f.spec_id) f.tuple) h.0.1 in
    record {
      content = may_hold content f.content rest.0;
      path = le_from (length f.path) 65535 path.0;
      tuple = tuple_fits (map allowed_of spec.fields) f.tuple (writable_fields spec) fits;
      record_count = amount f.record_count good.0;
      equality_ids = few_ids f.content (length f.equality_ids) ids.0;
      referenced = may_reference f.content f.referenced ids.1;
    }

pub all_both : {A : Type 0} (P Q : A → Type 0) (xs : List A) → AllByRecursion P xs → AllByRecursion Q xs
    → AllByRecursion (λ x. P x × Q x) xs
all_both P Q [] h k = tt
all_both P Q (x ∷ xs) h k = ((h.0, k.0), all_both P Q xs h.1 k.1)

module _ (m : Described) (ids : Ids) (content : ManifestContent) (files : List NewFile)
    (small : AllByRecursion IsSmall (table_specs m.table))
    (known : AllByRecursion (λ id. is_unknown (table_specs m.table) id ≡ false) (map spec_id_of files))
    (right : AllByRecursion (IsRight (table_specs m.table) content) files)
    (few : length files ≤ 1000000) where
  one_group : (id : ℤ) → is_unknown (table_specs m.table) id ≡ false → CanWrite m ids (group_of content files id)
  unfolding heading_of
  one_group id h =
      let specs = table_specs m.table in
      let found = some_of (spec_in specs id) h in
      let spec = found.0 in
      let same : spec_or_none id (spec_in specs id) ≡ spec = ap (spec_or_none id) found.1 in
      let of_spec = filter (is_of_spec id) files in
      let H : Spec → Type 0 = λ s. IsHeading (heading_over m ids content s) in
      let F : Spec → Type 0 = λ s. AreNewFiles (heading_over m ids content s) of_spec in
      let each = all_weaker (λ f. IsRight specs content f × (is_of_spec id f ≡ true))
      (IsNewFile (heading_over m ids content spec)) of_spec (new_file m ids content specs id spec found.1)
      (all_filter (IsRight specs content) (is_of_spec id) files right) in
      let fewer = length_filter (is_of_spec id) files in
      record {
        known = is_there (spec_in specs id) spec found.1;
        heading = subst H (sym same) (heading_small m ids content spec (found_has IsSmall (λ (s : Spec). int_eq s.id id)
            specs spec small found.1));
        files = subst F (sym same) (record { each = each; few = omega arith });
      }

  pub all_groups : AllByRecursion (CanWrite m ids) (groups_of content files)
  all_groups =
      all_map (CanWrite m ids) (group_of content files) (spec_ids files)
      (all_weaker (λ id. is_unknown (table_specs m.table) id ≡ false) (λ id. CanWrite m ids (group_of content files id))
      (spec_ids files) one_group
      (all_dedup (λ id. is_unknown (table_specs m.table) id ≡ false) int_eq (sorted id_before (map spec_id_of files))
      (all_sorted (λ id. is_unknown (table_specs m.table) id ≡ false) id_before (map spec_id_of files) known)))
