-- What all rows of a list come to together, what a list and a manifest give, and the fault that comes after all others.
use Rattle.std.proofs.Common.{◌≡◌, inl, inr, ℕ, ◌<◌, ◌≤◌, Bool, true, false, cond, nat_le, List, [], ◌∷◌, length}
use Rattle.std.proofs.Common.{Option, Some, None, Result, Ok, Err, refl, sym, ap, subst, ◌∙◌, leb-true, leb-false}
use Rattle.std.proofs.lemmas.Bool.{lt-leb, le-leb}
use Rattle.std.specs.declared.cmp.Ordering.TheVariants.{Less, Equal}
use Rattle.std.specs.Cmp.Lexicographic.{slice_cmp}
use Rattle.std.specs.Ordering.{nat_cmp, is_lt}
use Rattle.std.specs.Str.{bytes_eq}
use Rattle.std.specs.List.{AllByRecursion, IsDistinct, enumerate_from}
use Rattle.std.specs.List.Sorted.{IsStrictlySortedBy}
use Rattle.std.specs.Set.{is_member, distinct_count}
use Rattle.std.proofs.lemmas.Cmp.{nat_list_cmp_total, tied_itself}
use Rattle.std.proofs.lemmas.Map.Made.{length-from_keys}
use Rattle.std.proofs.lemmas.Map.Views.{list_any-from_Contains, Contains-from_any}
use Rattle.std.proofs.lemmas.Slice.Eq.{bytes_eq-Decides}
use Rattle.contract_words.specs.Outcome.{◌>>=◌}
use Rattle.avro_schema.specs.Tree.{Tree, structure, Fields}
use Rattle.avro_file.specs.declared.fault.AvroFault.{AvroFault}
use Rattle.avro_file.specs.declared.fault.AvroFault.TheVariants as container
use Rattle.avro_file.specs.Value.{Value}
use Rattle.avro_file.specs.Ahead.{Ahead, running, refusing}
use Rattle.avro_file.specs.Files.{opened_at}
use Rattle.ice_meta.specs.declared.spec.Spec.{Spec}
use Rattle.ice_manifest_fields.specs.declared.fault.FieldFault.{FieldFault}
use Rattle.ice_manifest_fields.specs.declared.fault.FieldFault.TheVariants as field
use Rattle.ice_manifest_fields.specs.declared.fault.ListFault.{ListFault}
use Rattle.ice_manifest_fields.specs.declared.fault.ListFault.TheVariants.{ManifestTwice, TooManyRows}
use Rattle.ice_manifest_reading.specs.declared.row.Row.{Row}
use Rattle.ice_manifest_reading.specs.declared.entry.Live.{Live}
use Rattle.ice_manifest_fields.specs.Each.{each}
use Rattle.ice_manifest_fields.specs.Naming.{Naming, in_list, in_manifest, contained, told, ended}
use Rattle.ice_manifest_fields.specs.Schemas.{fields_in, row_fields}
use Rattle.ice_manifest_reading.specs.ManifestSchemas.{entry_fields}
use Rattle.ice_manifest_reading.specs.Lists.{row_of, says_row, rows_ahead, path_order, same_row, path_twice}
use Rattle.ice_manifest_reading.specs.Lists.{unless_twice, checked, in_order, rows_of}
use Rattle.ice_manifest_reading.specs.Manifests.{kept, says_entry, entries_ahead, live_of}
use Rattle.ice_manifest_reading.specs.Laws.{IsManifest, SayEntries, HasRows, HasEachPathOnce, HasTwo, ReadsRowsExactly}
use Rattle.ice_manifest_reading.specs.Laws.{ReadsEntriesExactly}
use Rattle.ice_manifest_reading.specs.Faults.{IsLeastTwice, RefusesAPathExactly, RefusesManyExactly}
use Rattle.ice_manifest_reading.proofs.Guards.{went_on, ok_is}
use Rattle.ice_manifest_fields.proofs.Joining.{told_ok}
use Rattle.ice_manifest_reading.proofs.Rising.{less_from, in_order_rises, strict_of, given}
use Rattle.ice_manifest_reading.proofs.Said.{rows_said, entries_said, entries_by}
use Rattle.ice_manifest_reading.proofs.Sets.{nowhere, cases_of, among, same_is, equality, from_order, to_order}
use Rattle.ice_manifest_reading.proofs.Sets.{refuses_two, refuses_the_least}
use Rattle.ice_manifest_reading.proofs.Told.{by_rows, opened_manifest}

-- ---- faults of all rows together, which come after all others

abbrev IsOfAll : ListFault → Type 0
IsOfAll (ManifestTwice path) = Unit {0}
IsOfAll TooManyRows = Unit {0}
IsOfAll f = ⊥

of_container_first : (f : AvroFault) → IsOfAll (in_list.of_container f) → ⊥
of_container_first container.Memory h = h
of_container_first container.NotAvro h = h
of_container_first (container.Codec name) h = h
of_container_first (container.Truncated at) h = h
of_container_first container.BadNumber h = h
of_container_first container.BadUnion h = h
of_container_first container.BadUtf8 h = h
of_container_first container.BadSync h = h
of_container_first container.BlockSize h = h
of_container_first (container.Schema f) h = h
of_container_first container.BadBoolean h = h
of_container_first container.TooManyItems h = h

of_field_first : (f : FieldFault) → IsOfAll (in_list.of_field f) → ⊥
of_field_first (field.Missing id) h = h
of_field_first (field.WrongType id) h = h
of_field_first (field.OutOfRange id) h = h
of_field_first field.BadContent h = h
of_field_first (field.FloatPartition id) h = h

-- a step whose fault, if it has one, is none of all rows together
abbrev Early : {A : Type 0} → Result A ListFault → Type 0
Early {A} r = (f : ListFault) → r ≡ Err f → IsOfAll f → ⊥

-- a fault that is none of all rows together
other_is : (e f : ListFault) → (IsOfAll e → ⊥) → e ≡ f → IsOfAll f → ⊥
other_is e f other same all = other (subst IsOfAll (sym same) all)

early_ok : {A : Type 0} (x : A) → Early (Ok x)
early_ok {A} x f h all = cc

early_err : {A : Type 0} (e : ListFault) → (IsOfAll e → ⊥) → Early {A = A} (Err e)
early_err {A} e other f h all = let same : e ≡ f = cc in other_is e f other same all

early_contained : {A : Type 0} (r : Result A AvroFault) → Early (contained in_list r)
early_contained {A} (Ok x) = early_ok x
early_contained {A} (Err g) = early_err (in_list.of_container g) (of_container_first g)

early_told : {A : Type 0} (r : Result A FieldFault) → Early (told in_list r)
early_told {A} (Ok x) = early_ok x
early_told {A} (Err g) = early_err (in_list.of_field g) (of_field_first g)

early_then : {A B : Type 0} (r : Result A ListFault) (g : A → Result B ListFault) → Early r → ((a : A) → Early (g a))
    → Early (r >>= g)
early_then {A} {B} (Ok a) g first more f h all = more a f h all
early_then {A} {B} (Err e) g first more f h all = let same : e ≡ f = cc in first f (ap Err same) all

early_rows : (fs : Fields) (vs : List Value) → Early (each (says_row fs) vs)
unfolding each
early_rows fs [] = early_ok []
early_rows fs (v ∷ vs) = early_then (says_row fs v) _ (early_told (row_of (structure fs, v)))
    (λ row. early_then (each (says_row fs) vs) (λ rows. Ok (row ∷ rows)) (early_rows fs vs)
    (λ rows. early_ok (row ∷ rows)))

early_ended : {A : Type 0} (ending : Option AvroFault) (x : A) → Early (ended in_list ending x)
early_ended {A} None x = early_ok x
early_ended {A} (Some f) x = early_err (in_list.of_container f) (of_container_first f)

early_ahead : (fs : Fields) (a : Ahead) → Early (rows_ahead fs a)
unfolding rows_ahead
early_ahead fs (running vs ending) = early_then (each (says_row fs) vs) (ended in_list ending) (early_rows fs vs)
    (λ rows. early_ended ending rows)
early_ahead fs (refusing f) = early_err (in_list.of_container f) (of_container_first f)

-- a step before a fault of all rows together
went_past : {A B : Type 0} (r : Result A ListFault) (g : A → Result B ListFault) (f : ListFault) → Early r → IsOfAll f
    → (r >>= g) ≡ Err f → (a : A) × (r ≡ Ok a) × (g a ≡ Err f)
went_past {A} {B} (Ok a) g f early all h = (a, refl, h)
went_past {A} {B} (Err e) g f early all h = let same : e ≡ f = cc in absurd (early f (ap Err same) all)

opened_is : {A E : Type 0} (w : Naming E) (r : Result A AvroFault) (a : A) → contained w r ≡ Ok a → r ≡ Ok a
opened_is {A} {E} w (Ok x) a h = cc
opened_is {A} {E} w (Err e) a h = absurd (cc)

to_the_end : {A E : Type 0} (w : Naming E) (ending : Option AvroFault) (x y : A) → ended w ending x ≡ Ok y
    → (ending ≡ None) × (x ≡ y)
to_the_end {A} {E} w None x y h = (refl, ok_is x y h)
to_the_end {A} {E} w (Some f) x y h = absurd cc

objects : (bytes : List ℕ) (s : Tree) (a : Ahead) (rows : List Row)
    → opened_at bytes ≡ Ok (record { schema = s; ahead = a }) → row_fields (fields_in s) ≡ Ok tt
    → rows_ahead (fields_in s) a ≡ Ok rows → HasRows bytes rows
unfolding rows_ahead
objects bytes s (running vs ending) rows opens fits h =
    let read = went_on (each (says_row (fields_in s)) vs) (ended in_list ending) rows h in
    let last = to_the_end in_list ending read.0 rows read.2 in
    let P : Option AvroFault → Type 0 = λ x. opened_at bytes ≡ Ok (record { schema = s; ahead = running vs x }) in
    (fields_in s, vs, (s, subst P last.0 opens, refl, fits), rows_said (fields_in s) vs rows (read.1 ∙ ap Ok last.1))
objects bytes s (refusing f) rows opens fits h = absurd (cc)

-- a fault of all rows together is one of a list that has no other
rows_with : (bytes : List ℕ) (f : ListFault) → IsOfAll f → rows_of bytes ≡ Err f
    → (rows : List Row) × HasRows bytes rows × (checked (in_order rows) ≡ Err f)
unfolding rows_of
rows_with bytes f all h =
    let file = went_past (contained in_list (opened_at bytes)) _ f (early_contained (opened_at bytes)) all h in
    let fits = went_past (told in_list (row_fields (fields_in file.0.schema))) _ f
    (early_told (row_fields (fields_in file.0.schema))) all file.2 in
    let rows = went_past (rows_ahead (fields_in file.0.schema) file.0.ahead) _ f (early_ahead (fields_in file.0.schema)
    file.0.ahead) all fits.2 in (
      rows.0,
      objects bytes file.0.schema file.0.ahead rows.0 (opened_is in_list (opened_at bytes) file.0 file.1)
          (told_ok in_list (row_fields (fields_in file.0.schema)) tt fits.1) rows.1,
      rows.2,
    )

-- ---- rows that rise strictly by their paths

not_itself : (r s : Row) → path_order r s ≡ Less → r.path ≡ s.path → ⊥
not_itself r s h e =
    let P : List ℕ → Type 0 = λ p. slice_cmp nat_cmp r.path p ≡ Less in
    let less : slice_cmp nat_cmp r.path r.path ≡ Less = subst P (sym e) h in
    let q : Equal ≡ Less = sym (tied_itself nat_list_cmp_total r.path) ∙ less in
    cc

each_once : (rows : List Row) → IsStrictlySortedBy path_order rows → HasEachPathOnce rows
unfolding IsStrictlySortedBy
each_once [] h r s ir js e = absurd (nowhere r ir)
each_once (x ∷ rows) h r s ir js e = elim (cases_of x rows r ir) as (λ _. r ≡ s) [
  | inl a ↦ elim (cases_of x rows s js) as (λ _. r ≡ s) [
    | inl b ↦ sym a ∙ b
    | inr j ↦ absurd (not_itself x s (among (λ t. path_order x t ≡ Less) rows s h.0 j) (ap (λ (v : Row). v.path) a ∙ e))
  ]
  | inr i ↦ elim (cases_of x rows s js) as (λ _. r ≡ s) [
    | inl b ↦ absurd (not_itself x r (among (λ t. path_order x t ≡ Less) rows r h.0 i) (ap (λ (v : Row). v.path) b ∙ sym
        e))
    | inr j ↦ each_once rows h.1 r s i j e
  ]
]

differ : (x : Row) (rows : List Row) → AllByRecursion (λ t. path_order x t ≡ Less) rows
    → AllByRecursion (λ t. same_row x t ≡ false) rows
differ x [] h = tt
differ x (t ∷ rows) h =
    let P : (b : Bool) → same_row x t ≡ b → same_row x t ≡ false =
    λ b. elim b as (λ v. same_row x t ≡ v → same_row x t ≡ false)
    [ true ↦ λ e. absurd (not_itself x t h.0 (ap (λ (v : Row). v.path) (same_is x t e))) | false ↦ λ e. e ] in
    (P (same_row x t) refl, differ x rows h.1)

distinct : (rows : List Row) → IsStrictlySortedBy path_order rows → IsDistinct same_row rows
unfolding IsStrictlySortedBy IsDistinct
distinct [] h = tt
distinct (x ∷ rows) h = (differ x rows h.0, distinct rows h.1)

-- ---- the paths of a list's rows

rising : (rows : List Row) → path_twice (in_order rows) ≡ None → IsStrictlySortedBy path_order (in_order rows)
rising rows none = strict_of (in_order rows) (in_order_rises rows) none

once_if : (rows : List Row) → path_twice (in_order rows) ≡ None → HasEachPathOnce rows
once_if rows none r s ir js e = each_once (in_order rows) (rising rows none) r s (to_order rows r ir)
    (to_order rows s js) e

refused : (rows : List Row) (path : List ℕ) → path_twice (in_order rows) ≡ Some path
    → checked (in_order rows) ≡ Err (ManifestTwice path)
refused rows path e = ap (λ (v : Option (List ℕ)). unless_twice v (in_order rows)) e

not_two : (rows : List Row) (path : List ℕ) → HasEachPathOnce rows → HasTwo rows path → ⊥
not_two rows path once t = t.4 (once t.0 t.1 t.2 t.3 (t.5 ∙ sym t.6))

none_if : (rows : List Row) → HasEachPathOnce rows → path_twice (in_order rows) ≡ None
none_if rows once =
    let P : (o : Option (List ℕ)) → path_twice (in_order rows) ≡ o → path_twice (in_order rows) ≡ None =
    λ o. elim o as (λ v. path_twice (in_order rows) ≡ v → path_twice (in_order rows) ≡ None) [
      | None ↦ λ e. e
      | Some p ↦
          λ e. absurd (not_two rows p once (refuses_two rows p (refused rows p e)))
    ] in
    P (path_twice (in_order rows)) refl

some_if : (rows : List Row) (path : List ℕ) → HasTwo rows path
    → (p : List ℕ) × (checked (in_order rows) ≡ Err (ManifestTwice p))
some_if rows path two =
    let G : Type 0 = (p : List ℕ) × (checked (in_order rows) ≡ Err (ManifestTwice p)) in
    let P : (o : Option (List ℕ)) → path_twice (in_order rows) ≡ o → G =
    λ o. elim o as (λ v. path_twice (in_order rows) ≡ v → G) [
      | None ↦ λ e. absurd (not_two rows path (once_if rows e)
          two)
      | Some p ↦ λ e. (p, refused rows p e)
    ] in
    P (path_twice (in_order rows)) refl

no_lesser : (rows : List Row) (path : List ℕ) → checked (in_order rows) ≡ Err (ManifestTwice path) → (other : List ℕ)
    → HasTwo rows other → is_lt (slice_cmp nat_cmp other path) ≡ false
no_lesser rows path h other t =
    let P : List ℕ → Type 0 = λ p. is_lt (slice_cmp nat_cmp p path) ≡ false in
    subst P t.5 (refuses_the_least rows path h t.0 t.1 t.2 t.3 t.4 (t.5 ∙ sym t.6))

-- of two paths of which none is less, one is the other
path_is : (p q : List ℕ) → is_lt (slice_cmp nat_cmp p q) ≡ false → is_lt (slice_cmp nat_cmp q p) ≡ false → p ≡ q
path_is p q low high =
    let P : (b : Bool) → bytes_eq p q ≡ b → p ≡ q =
    λ b. elim b as (λ v. bytes_eq p q ≡ v → p ≡ q) [
      | true ↦ λ e. (bytes_eq-Decides p q).0 e
      | false ↦ λ e. let f : true ≡ false = sym (ap is_lt (less_from q p low e)) ∙ high in absurd (cc)
    ] in
    P (bytes_eq p q) refl

pub refuses_a_path_exactly : RefusesAPathExactly
refuses_a_path_exactly bytes path = (
  λ h. let r = rows_with bytes (ManifestTwice path) tt h in
      (r.0, r.1, (refuses_two r.0 path r.2, no_lesser r.0 path r.2)),
  λ g.
      let least : IsLeastTwice g.0 path = g.2 in
      let some = some_if g.0 path least.0 in
      let same : some.0 ≡ path = path_is some.0 path (least.1 some.0 (refuses_two g.0 some.0 some.1))
      (no_lesser g.0 some.0 some.1 path least.0) in
      by_rows bytes g.0 g.1 ∙ some.1 ∙ ap (λ (p : List ℕ). Err (ManifestTwice p)) same,
)

-- ---- how many rows there are

both_or_none : (a b : Bool) → (a ≡ true → b ≡ true) → (b ≡ true → a ≡ true) → a ≡ b
both_or_none true b h k = sym (h refl)
both_or_none false true h k = k refl
both_or_none false false h k = refl

counted : (rows : List Row) → path_twice (in_order rows) ≡ None → length (in_order rows) ≡ distinct_count same_row rows
counted rows none =
    length-from_keys equality (in_order rows) rows (distinct (in_order rows) (rising rows none))
    (λ q. both_or_none (is_member same_row (in_order rows) q) (is_member same_row rows q)
    (λ h. list_any-from_Contains equality q rows (from_order rows q (Contains-from_any same_is q (in_order rows) h)))
    (λ h. list_any-from_Contains equality q (in_order rows) (to_order rows q (Contains-from_any same_is q rows h))))

many_is : (b : Bool) (rows : List Row) → cond b (Ok rows) (Err TooManyRows) ≡ Err TooManyRows → b ≡ false
many_is true rows h = absurd (cc)
many_is false rows h = refl

too_many_is : (o : Option (List ℕ)) (rows : List Row) → unless_twice o rows ≡ Err TooManyRows
    → (o ≡ None) × (nat_le (length rows) 65536 ≡ false)
too_many_is (Some p) rows h = absurd (cc)
too_many_is None rows h = (refl, many_is (nat_le (length rows) 65536) rows h)

too_many : (o : Option (List ℕ)) (rows : List Row) → o ≡ None → nat_le (length rows) 65536 ≡ false
    → unless_twice o rows ≡ Err TooManyRows
too_many (Some p) rows e h = absurd (cc)
too_many None rows e h = rw h refl

pub refuses_many_exactly : RefusesManyExactly
refuses_many_exactly bytes = (
  λ h.
      let r = rows_with bytes TooManyRows tt h in
      let m = too_many_is (path_twice (in_order r.0)) (in_order r.0) r.2 in
      let P : ℕ → Type 0 = λ n. 65536 < n in
      (r.0, r.1, once_if r.0 m.0, subst P (counted r.0 m.0) (leb-false (length (in_order r.0)) 65536 m.1)),
  λ g.
      let none = none_if g.0 g.2 in
      let P : ℕ → Type 0 = λ n. 65536 < n in
      by_rows bytes g.0 g.1 ∙ too_many (path_twice (in_order g.0)) (in_order g.0) none (lt-leb (length (in_order g.0))
      65536 (subst P (sym (counted g.0 none)) g.3)),
)

-- ---- what a list gives

few_if : (o : Option (List ℕ)) (rows : List Row) → o ≡ None → length rows ≤ 65536 → unless_twice o rows ≡ Ok rows
few_if (Some p) rows e le = absurd (cc)
few_if None rows e le = rw (le-leb (length rows) 65536 le) refl

pub reads_rows_exactly : ReadsRowsExactly
unfolding rows_of
reads_rows_exactly bytes found = (
  λ h.
      let file = went_on (contained in_list (opened_at bytes)) _ found h in
      let fits = went_on (told in_list (row_fields (fields_in file.0.schema))) _ found file.2 in
      let rows = went_on (rows_ahead (fields_in file.0.schema) file.0.ahead) _ found fits.2 in
      let has = objects bytes file.0.schema file.0.ahead rows.0 (opened_is in_list (opened_at bytes) file.0 file.1)
      (told_ok in_list (row_fields (fields_in file.0.schema)) tt fits.1) rows.1 in
      let g = given (in_order rows.0) found rows.2 in
      let P : ℕ → Type 0 = λ n. n ≤ 65536 in (
        rows.0,
        has,
        once_if rows.0 g.0,
        subst P (counted rows.0 g.0) (leb-true (length (in_order rows.0)) 65536 g.1),
        sym g.2,
      ),
  λ g.
      let none = none_if g.0 g.2 in
      let P : ℕ → Type 0 = λ n. n ≤ 65536 in
      by_rows bytes g.0 g.1 ∙ few_if (path_twice (in_order g.0)) (in_order g.0) none (subst P (sym (counted g.0 none))
      g.3) ∙ ap Ok (sym g.4),
)

-- ---- what a manifest gives

entries_of_objects : (row : Row) (spec : Spec) (bytes : List ℕ) (s : Tree) (a : Ahead) (found : List Live)
    → opened_at bytes ≡ Ok (record { schema = s; ahead = a }) → entry_fields spec (fields_in s) ≡ Ok tt
    → entries_ahead row spec (fields_in s) 0 a ≡ Ok found
    → (fs : Fields) × (vs : List Value) × (read : List (Option Live)) × IsManifest spec bytes fs vs None × SayEntries
    row spec fs 0 vs read × (found ≡ kept read)
unfolding entries_ahead
entries_of_objects row spec bytes s (running vs ending) found opens fits h =
    let read = went_on (each (says_entry row spec (fields_in s)) (enumerate_from 0 vs)) (λ read. ended in_manifest
    ending (kept read)) found h in
    let last = to_the_end in_manifest ending (kept read.0) found read.2 in
    let P : Option AvroFault → Type 0 = λ x. opened_at bytes ≡ Ok (record { schema = s; ahead = running vs x }) in (
      fields_in s,
      vs,
      read.0,
      (s, subst P last.0 opens, refl, fits),
      entries_said row spec (fields_in s) 0 vs read.0
          read.1,
      sym last.1,
    )
entries_of_objects row spec bytes s (refusing f) found opens fits h = absurd (cc)

pub reads_entries_exactly : ReadsEntriesExactly
unfolding live_of
reads_entries_exactly row spec bytes found = (
  λ h.
      let file = went_on (contained in_manifest (opened_at bytes)) _ found h in
      let fits = went_on (told in_manifest (entry_fields spec (fields_in file.0.schema))) _ found file.2 in
      entries_of_objects row spec bytes file.0.schema file.0.ahead found (opened_is in_manifest (opened_at bytes) file.0
      file.1) (told_ok in_manifest (entry_fields spec (fields_in file.0.schema)) tt fits.1) fits.2,
  λ g. opened_manifest row spec bytes g.0 g.1 None g.3 ∙ rw (entries_by row spec g.0 0 g.1 g.2 g.4) (ap Ok (sym g.5)),
)
