-- Rows as they are found in the objects of a manifest list.
use Rattle.std.proofs.Common.{◌≡◌, ℕ, ℤ, pos, true, List, ◌∷◌, [], ◌++◌, Option, Some, Result, Ok, Err, refl, sym, ap}
use Rattle.std.proofs.Common.{subst, ◌∙◌}
use Rattle.avro_schema.specs.Tree.{Tree, structure}
use Rattle.avro_schema.specs.View.{tree}
use Rattle.avro_file.specs.Ahead.{Ahead}
use Rattle.avro_file.specs.Files.{Next, Shows}
use Rattle.avro_file.specs.Picking.{Typed}
use Rattle.avro_file_picked.specs.Finding.{is_structure}
use Rattle.contract_words.specs.Outcome.{◌>>=◌}
use Rattle.ice_manifest_fields.specs.declared.fault.FieldFault.{FieldFault}
use Rattle.ice_manifest_fields.specs.declared.fault.ListFault.{ListFault}
use Rattle.ice_manifest_fields.specs.Fields.{at, there, long_at, int_at, number_or_zero, path_at}
use Rattle.ice_manifest_fields.specs.Naming.{Naming, in_list, told}
use Rattle.ice_manifest_fields.specs.Schemas.{fields_in}
use Rattle.ice_manifest_fields.proofs.Joining.{joined, told_ok}
use Rattle.ice_value.specs.declared.file_bounds.Summary.{Summary}
use Rattle.ice_manifest_layouts.specs.declared.row.FoundRow.{FoundRow}
use Rattle.ice_manifest_layouts.specs.RowsFound.{row_seen}
use Rattle.ice_manifest_layouts.proofs.RowsShown.{row_is}
use Rattle.ice_manifest_layouts.proofs.Shown.{structure_is}
use Rattle.ice_manifest_reading.specs.declared.counts.Counts.{Counts}
use Rattle.ice_manifest_reading.specs.declared.row.ManifestContent.{ManifestContent}
use Rattle.ice_manifest_reading.specs.declared.row.Row.{Row}
use Rattle.ice_manifest_reading.specs.Lists.{row_of, rows_ahead, content_at, counts_at, summaries_in}
use Rattle.ice_manifest_reading.proofs.Guards.{ok_is}
use Rattle.ice_manifest_reading.proofs.Reading.{Is, next_row, row_fails}

seen_is : (r : FoundRow) (s : Tree) → tree r.object.schema.now ≡ s → is_structure s ≡ true
    → row_seen r ≡ (structure (fields_in s), (row_seen r).1)
unfolding row_seen
seen_is r s same record_is = ap (λ (t : Tree). (t, (row_seen r).1)) (same ∙ structure_is s record_is)

value_is : (r : FoundRow) → Is r.object (row_seen r).1
value_is r = λ v is. ap (λ (x : Typed). x.1) (row_is r v is)

pub row_read : (s : Tree) (front : List Row) (now new : Ahead) (r : FoundRow) (row : Row)
    → Next Shows now (Ok (Some r.object)) new → tree r.object.schema.now ≡ s → is_structure s ≡ true
    → told in_list (row_of (row_seen r)) ≡ Ok row
    → joined front (rows_ahead (fields_in s) now) ≡ joined (front ++ row ∷ []) (rows_ahead (fields_in s) new)
row_read s front now new r row next same record_is is =
    next_row (fields_in s) front now new r.object (row_seen r).1 row next (value_is r)
    (subst (λ (x : Typed). told in_list (row_of x) ≡ Ok row) (seen_is r s same record_is) is)

pub row_at_fault : (s : Tree) (front : List Row) (now new : Ahead) (r : FoundRow) (f : ListFault)
    → Next Shows now (Ok (Some r.object)) new → tree r.object.schema.now ≡ s → is_structure s ≡ true
    → told in_list (row_of (row_seen r)) ≡ Err f → joined front (rows_ahead (fields_in s) now) ≡ Err f
row_at_fault s front now new r f next same record_is is =
    row_fails (fields_in s) front now new r.object (row_seen r).1 f next (value_is r)
    (subst (λ (x : Typed). told in_list (row_of x) ≡ Err f) (seen_is r s same record_is) is)

-- ---- what may be there

pub some_read : {A E : Type 0} (named : Naming E) (r : Result A FieldFault) (x : A) → told named r ≡ Ok x
    → told named (r >>= λ y. Ok (Some y)) ≡ Ok (Some x)
some_read {A} named (Ok y) x is = let same : y ≡ x = ok_is y x is in ap (λ (z : A). Ok (Some z)) same
some_read named (Err f) x is = absurd cc

pub some_at_fault : {A E : Type 0} (named : Naming E) (r : Result A FieldFault) (e : E) → told named r ≡ Err e
    → told named (r >>= λ y. Ok (Some y)) ≡ Err e
some_at_fault named (Ok y) e is = absurd cc
some_at_fault named (Err f) e is = let same : named.of_field f ≡ e = cc in rw same refl

-- ---- the last field of a row

then_at_fault : {A B E : Type 0} (named : Naming E) (r : Result A FieldFault) (f : A → Result B FieldFault) (e : E)
    → told named r ≡ Err e → told named (r >>= f) ≡ Err e
then_at_fault named (Ok y) f e is = absurd cc
then_at_fault named (Err g) f e is = let same : named.of_field g ≡ e = cc in rw same refl

-- where all other fields are read, its summaries' fault is the row's
pub summaries_at_fault : (x : Typed) (path : List ℕ) (length spec : ℤ) (content : ManifestContent)
    (sequence least : ℕ) (snapshot : ℤ) (counts : Counts) (e : ListFault) → Ok path ≡ path_at (pos 500) x
    → Ok length ≡ long_at (pos 501) x → Ok spec ≡ int_at (pos 502) x → Ok content ≡ content_at x
    → Ok sequence ≡ number_or_zero (pos 515) x → Ok least ≡ number_or_zero (pos 516) x
    → Ok snapshot ≡ long_at (pos 503) x → Ok counts ≡ counts_at x
    → told in_list (summaries_in (there (at (pos 507) x))) ≡ Err e → told in_list (row_of x) ≡ Err e
unfolding row_of
summaries_at_fault x path length spec content sequence least snapshot counts e p l s c q m n k is =
    rw (sym p, sym l, sym s, sym c, sym q, sym m, sym n, sym k)
    (then_at_fault in_list (summaries_in (there (at (pos 507) x))) _ e is)

-- where all fields are read, they are the row
pub all_read : (x : Typed) (path : List ℕ) (length spec : ℤ) (content : ManifestContent) (sequence least : ℕ)
    (snapshot : ℤ) (counts : Counts) (partitions : Option (List Summary)) (length2 spec2 snapshot2 : ℤ)
    (kept : Counts) (summaries : Option (List Summary)) → Ok path ≡ path_at (pos 500) x
    → Ok length ≡ long_at (pos 501) x → Ok spec ≡ int_at (pos 502) x → Ok content ≡ content_at x
    → Ok sequence ≡ number_or_zero (pos 515) x → Ok least ≡ number_or_zero (pos 516) x
    → Ok snapshot ≡ long_at (pos 503) x → Ok counts ≡ counts_at x
    → told in_list (summaries_in (there (at (pos 507) x))) ≡ Ok partitions → length2 ≡ length → spec2 ≡ spec
    → snapshot2 ≡ snapshot → kept ≡ counts → summaries ≡ partitions → told in_list (row_of x) ≡ Ok (record {
      path = path;
      length = length2;
      spec_id = spec2;
      content = content;
      sequence_number = sequence;
      min_sequence_number = least;
      added_snapshot_id = snapshot2;
      counts = kept;
      partitions = summaries;
    })
unfolding row_of
all_read x path length spec content sequence least snapshot counts partitions length2 spec2 snapshot2 kept summaries
    p l s c q m n k is l2 s2 n2 k2 is2 =
    let said = told_ok in_list (summaries_in (there (at (pos 507) x))) partitions is in
    rw (sym p, sym l, sym s, sym c, sym q, sym m, sym n, sym k, said, l2, s2, n2, k2, is2) refl
