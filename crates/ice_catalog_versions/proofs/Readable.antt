-- The rows that were read of a list can be read again where they are written.
use Rattle.std.proofs.Common.{◌≡◌, ◌≤◌, ◌+◌, ℕ, zero, suc, Bool, true, false, cond, List, [], ◌∷◌, length, refl, sym}
use Rattle.std.proofs.Common.{◌∙◌, ap, subst, arith, leb-true}
use Rattle.std.specs.Prelude.{ℤ, pos, nat_le, Option, Some, None, Result, Ok, Err, IfSome}
use Rattle.std.specs.List.{AllByRecursion}
use Rattle.std.specs.List.Sorted.{IsStrictlySortedBy}
use Rattle.std.specs.Option.{option_eq}
use Rattle.std.specs.Ordering.{int_eq}
use Rattle.contract_words.specs.Outcome.{◌>>=◌}
use Rattle.contract_words.specs.Sorting.{sorted}
use Rattle.avro_schema.specs.Tree.{Tree, structure, array, union, field, no_fields, Fields, Branches, branch}
use Rattle.avro_schema.specs.Tree.{no_branches}
use Rattle.avro_file.specs.Blocks.{max_items}
use Rattle.avro_file.specs.Files.{reader_of}
use Rattle.avro_file.specs.Holding.{AreWithinLimits}
use Rattle.avro_file.specs.Picking as Picking
use Rattle.avro_file.specs.Picking.{Typed, bare, field_value, field_with, of_branch, pick, present}
use Rattle.avro_file.specs.Spelling.{item_count, values_len}
use Rattle.avro_file.specs.Value.{Value, Values, chosen, fields, items, no_values, nothing, value}
use Rattle.avro_file.proofs.Opened.{file_held}
use Rattle.ice_value.specs.declared.file_bounds.Summary.{Summary}
use Rattle.ice_manifest_fields.specs.declared.fault.FieldFault.{FieldFault}
use Rattle.ice_manifest_fields.specs.declared.fault.FieldFault.TheVariants.{OutOfRange}
use Rattle.ice_manifest_reading.specs.declared.row.Row.{Row}
use Rattle.ice_manifest_fields.specs.Each.{each}
use Rattle.ice_manifest_fields.specs.Fields.{asked, at, items_as, items_of, path_at, short_path, text_of, there}
use Rattle.ice_manifest.specs.Fitting.{IsReadable}
use Rattle.ice_manifest_reading.specs.Laws.{SayRows}
use Rattle.ice_manifest_reading.specs.Lists.{path_before, path_order, rows_of, same_row, summaries_in, summary_of}
use Rattle.ice_catalog_versions.proofs.Writable.{all_dedup, all_sorted}
use Rattle.ice_manifest_reading.proofs.Rising.{strictly}
use Rattle.ice_manifest_reading.proofs.Told.{by_rows}
use Rattle.ice_manifest_reading.proofs.Whole.{reads_rows_exactly}

-- ---- a value inside another has no more items

abbrev IsWithin : Typed → Typed → Type 0
IsWithin y x = item_count y.1 ≤ item_count x.1

branch_within : (bs : Branches) (n k : ℕ) (v : Value) (y : Typed) → of_branch bs n v ≡ Some y
    → item_count y.1 ≤ item_count (chosen k v)
branch_within no_branches n k v y e = absurd cc
branch_within (branch t bs) zero k v y e = let same : (t, v) ≡ y = cc in
    subst (λ (z : Typed). item_count z.1 ≤ item_count v) same (omega arith)
branch_within (branch t bs) (suc n) k v y e = branch_within bs n k v y e

itself : (x y : Typed) → Some x ≡ Some y → IsWithin y x
itself x y e = let same : x ≡ y = cc in subst (λ (z : Typed). IsWithin z x) same (omega arith)

bare_within : (x y : Typed) → bare x ≡ Some y → IsWithin y x
bare_within (union bs, chosen n v) y e = branch_within bs n n v y e
bare_within (t, v) y e = itself (t, v) y e

value_within : (id : ℤ) (fs : Fields) (vs : Values) (y : Typed) → field_value id fs vs ≡ Some y
    → item_count y.1 ≤ item_count (fields vs)
value_within id (field own t fs) (value v vs) y e =
    let R : Bool → Type 0 = λ b. cond b (Some (t, v)) (field_value id fs vs) ≡ Some y
    → item_count y.1 ≤ item_count v + item_count (fields vs) in
    let at : (b : Bool) → R b =
    λ b. elim b as R [
      | true ↦ λ e. let same : (t, v) ≡ y = cc in subst (λ (z : Typed). item_count z.1 ≤ item_count v + item_count
          (fields vs)) same (omega arith)
      | false ↦ λ e. let rest = value_within id fs vs y e in omega (arith, rest)
    ] in
    at (option_eq int_eq own (Some id)) e
value_within id no_fields vs y e = absurd cc
value_within id (field own t fs) no_values y e = absurd cc

field_within : (id : ℤ) (x y : Typed) → field_with id x ≡ Some y → IsWithin y x
field_within id (structure fs, fields vs) y e = value_within id fs vs y e
field_within id (t, v) y e = absurd cc

-- ---- what stands at a field

not_null : (x y : Typed) → there (Picking.unless_null present x) ≡ Some y → IsWithin y x
not_null (t, nothing) y e = absurd cc
not_null (t, v) y e = itself (t, v) y e

last_within : (x y : Typed) → there (pick [] x) ≡ Some y → IsWithin y x
last_within x y e = here (bare x) refl e where
  here : (o : Option Typed) → bare x ≡ o → there (Picking.unless_absent (Picking.unless_null present) o) ≡ Some y
      → IsWithin y x
  here None is e = absurd cc
  here (Some z) is e = let inner = not_null z y e in let outer = bare_within x z is in omega (arith, inner, outer)

there_within : (id : ℤ) (x y : Typed) → there (at id x) ≡ Some y → IsWithin y x
there_within id x y e = here (bare x) refl e where
  field_there : (z : Typed) (o : Option Typed) → field_with id z ≡ o
      → there (Picking.unless_absent (pick []) o) ≡ Some y → IsWithin y z
  field_there z None is e = absurd cc
  field_there z (Some w) is e = let inner = last_within w y e in let outer = field_within id z w is in
      omega (arith, inner, outer)

  unless : (z : Typed) → there (Picking.unless_null (λ w. Picking.unless_absent (pick []) (field_with id w)) z) ≡ Some y
      → IsWithin y z
  unless (t, nothing) e = absurd cc
  unless (t, v) e = field_there (t, v) (field_with id (t, v)) refl e

  here : (o : Option Typed) → bare x ≡ o → there
      (Picking.unless_absent (Picking.unless_null (λ w. Picking.unless_absent (pick []) (field_with id w))) o) ≡ Some y
      → IsWithin y x
  here None is e = absurd cc
  here (Some z) is e = let inner = unless z e in let outer = bare_within x z is in omega (arith, inner, outer)

-- ---- a row

items_length : (t : Tree) (vs : Values) → length (items_as t vs) ≡ values_len vs
items_length t no_values = refl
items_length t (value v vs) = ap suc (items_length t vs)

few_items : (y : Typed) → length (items_of (Some y)) ≤ item_count y.1
few_items (array t id kind, items vs) = let n = items_length t vs in omega (arith, n)
few_items (t, v) = omega arith

each_length : {Y X E : Type 0} (says : Y → Result X E) (ys : List Y) (xs : List X) → each says ys ≡ Ok xs
    → length xs ≡ length ys
unfolding each
each_length says [] xs e = let same : [] ≡ xs = cc in ap length (sym same)
each_length {Y} {X} {E} says (y ∷ ys) xs e = here (λ rest. each_length says ys rest) (says y) e where
  more : ((rest : List X) → each says ys ≡ Ok rest → length rest ≡ length ys) → (x : X) (r : Result (List X) E)
      → each says ys ≡ r → (r >>= λ rest. Ok (x ∷ rest)) ≡ Ok xs → length xs ≡ suc (length ys)
  more shorter x (Err f) is e = absurd cc
  more shorter x (Ok rest) is e = let same : x ∷ rest ≡ xs = cc in ap length (sym same) ∙ ap suc (shorter rest is)

  here : ((rest : List X) → each says ys ≡ Ok rest → length rest ≡ length ys) → (r : Result X E)
      → (r >>= λ x. each says ys >>= λ rest. Ok (x ∷ rest)) ≡ Ok xs → length xs ≡ suc (length ys)
  here shorter (Err f) e = absurd cc
  here shorter (Ok x) e = more shorter x (each says ys) refl e

few_summaries : (x : Typed) (o : Option (List Summary)) → item_count x.1 ≤ max_items
    → summaries_in (there (at (pos 507) x)) ≡ Ok o → IfSome o (λ summaries. length summaries ≤ max_items)
few_summaries x o few e = here (there (at (pos 507) x)) refl e where
  some : (y : Typed) → IsWithin y x → (r : Result (List Summary) FieldFault) → each summary_of (items_of (Some y)) ≡ r
      → (r >>= λ summaries. Ok (Some summaries)) ≡ Ok o → IfSome o (λ summaries. length summaries ≤ max_items)
  some y within (Err f) is e = absurd cc
  some y within (Ok summaries) is e =
      let same : Some summaries ≡ o = cc in
      let count = each_length summary_of (items_of (Some y)) summaries is in
      let less = few_items y in
      subst (λ (o : Option (List Summary)). IfSome o (λ summaries. length summaries ≤ max_items)) same
      (omega (arith, few, within, count, less))

  here : (p : Option Typed) → there (at (pos 507) x) ≡ p → summaries_in p ≡ Ok o
      → IfSome o (λ summaries. length summaries ≤ max_items)
  here None is e = let same : None ≡ o = cc in subst (λ (o : Option (List Summary)). IfSome o
      (λ summaries. length summaries ≤ max_items)) same tt
  here (Some y) is e = some y (there_within (pos 507) x y is) (each summary_of (items_of (Some y))) refl e

short : (id : ℤ) (x : Typed) (path : List ℕ) → path_at id x ≡ Ok path → length path ≤ 65535
unfolding path_at
short id x path e = here (text_of (there (at id x))) e where
  within : (s : List ℕ) (b : Bool) → nat_le (length s) 65535 ≡ b
      → (let r : Result (List ℕ) FieldFault = cond b (Ok s) (Err (OutOfRange id)) in r ≡ Ok path) → length path ≤ 65535
  within s true is e = let same : s ≡ path = cc in subst (λ (p : List ℕ). length p ≤ 65535) same
      (leb-true (length s) 65535 is)
  within s false is e = absurd cc

  here : (o : Option (List ℕ)) → (asked id o >>= short_path id) ≡ Ok path → length path ≤ 65535
  here None e = absurd cc
  here (Some s) e = within s (nat_le (length s) 65535) refl e

all_readable : (fs : Fields) (vs : List Value) (rows : List Row) → AreWithinLimits vs → SayRows fs vs rows
    → AllByRecursion IsReadable rows
all_readable fs [] [] few says = tt
all_readable fs [] (r ∷ rows) few says = absurd says
all_readable fs (v ∷ vs) [] few says = absurd says
all_readable fs (v ∷ vs) (r ∷ rows) few says = (
  record {
    path = short (pos 500) (structure fs, v) r.path says.0.path;
    partitions = few_summaries (structure fs, v)
        r.partitions few.0 says.0.partitions;
  },
  all_readable fs vs rows few.1 says.1,
)

-- ---- all rows

pub read_again : (bytes : List ℕ) (rows : List Row) → rows_of bytes ≡ Ok rows → AllByRecursion IsReadable rows
read_again bytes rows e =
    let is = (reads_rows_exactly bytes rows).0 e in
    let fs = is.1.0 in
    let vs = is.1.1 in
    let list = is.1.2 in
    let held = file_held bytes (reader_of list.0 vs) vs list.1 refl in
    let all = all_dedup IsReadable same_row (sorted path_before is.0) (all_sorted IsReadable path_before is.0
    (all_readable fs vs is.0 held.1 is.1.3)) in
    subst (AllByRecursion IsReadable) (sym is.4) all

-- and they rise by their paths
pub rising : (bytes : List ℕ) (rows : List Row) → rows_of bytes ≡ Ok rows → IsStrictlySortedBy path_order rows
rising bytes rows e =
    let is = (reads_rows_exactly bytes rows).0 e in
    strictly is.0 rows (sym (by_rows bytes is.0 is.1) ∙ e)
