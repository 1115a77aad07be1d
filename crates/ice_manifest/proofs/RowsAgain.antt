-- The rows of a list that was written are read again.
use Rattle.std.proofs.Common.{◌≡◌, ℕ, ◌≤◌, ◌^◌, ℤ, pos, negsuc, Bool, true, false, List, []}
use Rattle.std.proofs.Common.{◌∷◌, length, map, Option, Some, None, Ok, refl, sym, ap, subst, ◌∙◌}
use Rattle.std.specs.Prelude.{IfSome, nat_le, nat_lt}
use Rattle.std.proofs.lemmas.Bool.{lt-ltb, le-leb}
use Rattle.std.specs.declared.cmp.Ordering.{Ordering}
use Rattle.std.specs.declared.cmp.Ordering.TheVariants.{Less, Equal}
use Rattle.std.specs.List.{AllByRecursion, dedup, dedup_from}
use Rattle.std.specs.List.Sorted.{IsStrictlySortedBy}
use Rattle.std.specs.Ordering.{is_lt, is_eq, ordering_reverse}
use Rattle.std.specs.Str.{bytes_eq}
use Rattle.std.proofs.lemmas.Cmp.{nat_list_cmp_total, tied_itself}
use Rattle.std.proofs.lemmas.Map.Text.{is_eq-slice_cmp}
use Rattle.contract_words.specs.Sorting.{put, sorted}
use Rattle.avro_schema.specs.Tree as tree_of
use Rattle.avro_schema.specs.Tree.{Tree, Fields}
use Rattle.avro_schema.specs.declared.schema.BytesKind.TheVariants.{Plain}
use Rattle.avro_schema.specs.declared.schema.ArrayKind.TheVariants as stands_for
use Rattle.avro_file.specs.Value.{truth, small, whole, run, values_of}
use Rattle.avro_file.specs.Files.{opened_at, reader_of}
use Rattle.avro_file.specs.Holding.{AreWithinLimits}
use Rattle.avro_file.specs.Picking.{pick}
use Rattle.avro_file.specs.Writers.{AreOf}
use Rattle.ice_value.specs.declared.file_bounds.Summary.{Summary}
use Rattle.ice_manifest_reading.specs.declared.row.Row.{Row}
use Rattle.ice_manifest_reading.specs.declared.row.ManifestContent.{ManifestContent}
use Rattle.ice_manifest_reading.specs.declared.row.ManifestContent.TheVariants.{Data, Deletes}
use Rattle.ice_manifest.specs.Adding.{IsId}
use Rattle.ice_manifest_fields.specs.Each.{each}
use Rattle.ice_manifest_fields.specs.Fields.{there, whole_of, truth_of, binary_of, items_as, within_32}
use Rattle.ice_manifest_fields.specs.Fields.{if_there, path_at, int_at, int_or_zero, number_at, number_or_zero}
use Rattle.ice_manifest_fields.specs.Fields.{optional_int}
use Rattle.ice_manifest.specs.Fitting.{RowFits, IsReadable}
use Rattle.ice_manifest_reading.specs.Laws.{SaysRow, SayRows}
use Rattle.ice_manifest_reading.specs.Lists as Lists
use Rattle.ice_manifest_reading.specs.Lists.{says_row, summary_in, summary_of, summaries_in, counts_at, content_at}
use Rattle.ice_manifest_reading.specs.Lists.{rows_ahead, path_order, path_before, same_row, twice_after, path_twice}
use Rattle.ice_manifest_reading.specs.Lists.{checked, in_order, rows_of}
use Rattle.ice_manifest_fields.specs.Schemas as schemas
use Rattle.ice_manifest_fields.specs.Schemas.{fields_in, type_at, required, optional, each_branch, summary_fields}
use Rattle.ice_manifest_fields.specs.Schemas.{row_fields}
use Rattle.ice_manifest_fields.specs.Types.{each_is, some_is, fits}
use Rattle.ice_manifest.specs.WrittenTypes.{null_or, written_tree}
use Rattle.ice_manifest.specs.WrittenSchemas.{summary_type, list_type}
use Rattle.ice_manifest.specs.WrittenValues.{if_some, summary_value, summaries_value, row_content, row_value}
use Rattle.ice_manifest_reading.proofs.Said.{rows_by}
use Rattle.ice_manifest_reading.proofs.Sets.{same_is}
use Rattle.ice_manifest.proofs.RowSpelled.{few_items, row_is_of}

-- ---- fields

within : (id z : ℤ) → IsId z → within_32 id z ≡ Ok z
within id (pos n) h = let lt : nat_lt n (2 ^ 31) ≡ true = lt-ltb n (2 ^ 31) h in rw lt refl
within id (negsuc n) h = let lt : nat_lt n (2 ^ 31) ≡ true = lt-ltb n (2 ^ 31) h in rw lt refl

int_said : (id : ℤ) (o : Option ℤ) → IfSome o IsId
    → if_there (within_32 id) (whole_of (there (pick [] (null_or tree_of.int, if_some small o)))) ≡ Ok o
int_said id None h = refl
int_said id (Some z) h = rw (within id z h) refl

long_said : (o : Option ℤ) → whole_of (there (pick [] (null_or tree_of.long, if_some whole o))) ≡ o
long_said None = refl
long_said (Some z) = refl

truth_said : (o : Option Bool) → truth_of (there (pick [] (null_or tree_of.boolean, if_some truth o))) ≡ o
truth_said None = refl
truth_said (Some b) = refl

bytes_said : (o : Option (List ℕ)) → binary_of (there (pick [] (null_or (tree_of.octets Plain), if_some run o))) ≡ o
bytes_said None = refl
bytes_said (Some bs) = refl

summary_said : (s : Summary) → summary_of (written_tree summary_type, summary_value s) ≡ Ok s
unfolding summary_of summary_in
summary_said s = rw (truth_said s.contains_nan, bytes_said s.lower, bytes_said s.upper) refl

summaries_said : (ss : List Summary) → each summary_of (items_as (written_tree summary_type)
    (values_of (map summary_value ss))) ≡ Ok ss
unfolding each
summaries_said [] = refl
summaries_said (s ∷ ss) = rw (summary_said s, summaries_said ss) refl

partitions_said : (o : Option (List Summary))
    → summaries_in (there (pick [] (
      null_or (tree_of.array (written_tree summary_type) (Some (pos 508))
          stands_for.List),
      if_some summaries_value o,
    ))) ≡ Ok o
partitions_said None = refl
partitions_said (Some ss) = rw (summaries_said ss) refl

content_said : (c : ManifestContent) → Lists.row_content (row_content c) ≡ Ok c
content_said Data = refl
content_said Deletes = refl

content_within : (id : ℤ) (c : ManifestContent) → within_32 id (row_content c) ≡ Ok (row_content c)
content_within id Data = refl
content_within id Deletes = refl

-- ---- rows

row_says : (r : Row) → RowFits r → IsReadable r → SaysRow (written_tree list_type, row_value r) r
unfolding list_type row_value path_at int_at int_or_zero number_at number_or_zero type_at optional_int counts_at
    content_at
row_says r h k =
    let short : nat_le (length r.path) 65535 ≡ true = le-leb (length r.path) 65535 k.path in record {
      path = rw short refl;
      length = refl;
      spec_id = within (pos 502) r.spec_id h.spec_id;
      content = rw (content_within (pos 517) r.content) (content_said r.content);
      sequence_number = refl;
      min_sequence_number = refl;
      added_snapshot_id = refl;
      counts = rw (
        int_said (pos 504) r.counts.added_files h.counts.added_files,
        int_said (pos 505)
            r.counts.existing_files h.counts.existing_files,
        int_said (pos 506) r.counts.deleted_files
            h.counts.deleted_files,
        long_said r.counts.added_rows,
        long_said r.counts.existing_rows,
        long_said
            r.counts.deleted_rows,
      ) refl;
      partitions = partitions_said r.partitions;
    }

rows_say : (rows : List Row) → AllByRecursion RowFits rows → AllByRecursion IsReadable rows
    → SayRows (fields_in (written_tree list_type)) (map row_value rows) rows
unfolding list_type
rows_say [] fit readable = tt
rows_say (r ∷ rows) fit readable = (row_says r fit.0 readable.0, rows_say rows fit.1 readable.1)

fields_fit : row_fields (fields_in (written_tree list_type)) ≡ Ok tt
unfolding list_type row_fields schemas.count_fields required optional type_at each_branch summary_fields each_is some_is
    fits
fields_fit = refl

pub rows_are_of : (rows : List Row) → AllByRecursion RowFits rows → AllByRecursion IsReadable rows
    → AreOf (written_tree list_type) (map row_value rows)
rows_are_of [] fit readable = tt
rows_are_of (r ∷ rows) fit readable = (row_is_of r fit.0 readable.0, rows_are_of rows fit.1 readable.1)

pub rows_within_limits : (rows : List Row) → AllByRecursion IsReadable rows → AreWithinLimits (map row_value rows)
rows_within_limits [] readable = tt
rows_within_limits (r ∷ rows) readable = (few_items r readable.0, rows_within_limits rows readable.1)

-- ---- their order

later_path : (r s : Row) → path_order r s ≡ Less → path_before s r ≡ false
later_path r s h = ap is_lt (nat_list_cmp_total.antisymm s.path r.path ∙ ap ordering_reverse h)

other_path : (r s : Row) → path_order r s ≡ Less → bytes_eq s.path r.path ≡ false
other_path r s h = sym (is_eq-slice_cmp s.path r.path) ∙ ap is_eq (nat_list_cmp_total.antisymm s.path r.path ∙ ap
    ordering_reverse h)

either_row : (b : Bool) → (b ≡ true → ⊥) → b ≡ false
either_row true h = absurd (h refl)
either_row false h = refl

other_row : (r s : Row) → path_order r s ≡ Less → same_row s r ≡ false
other_row r s h = either_row (same_row s r) (λ e.
    let one : s ≡ r = same_is s r e in
    let tied : path_order r s ≡ Equal = ap (path_order r) one ∙ tied_itself nat_list_cmp_total r.path in
    let P : Ordering → Type 0 = λ o. o ≡ Equal in
    let both : Less ≡ Equal = subst P h tied in
    absurd cc)

sorted_already : (rows : List Row) → IsStrictlySortedBy path_order rows → sorted path_before rows ≡ rows
unfolding IsStrictlySortedBy
sorted_already [] h = refl
sorted_already (r ∷ rows) h = ap (put path_before r) (sorted_already rows h.1) ∙ put_first r rows h.0 where
  put_first : (r : Row) (rows : List Row) → AllByRecursion (λ s. path_order r s ≡ Less) rows
      → put path_before r rows ≡ r ∷ rows
  put_first r [] h = refl
  put_first r (s ∷ rows) h = rw (later_path r s h.0) refl

each_once : (r : Row) (rows : List Row) → IsStrictlySortedBy path_order (r ∷ rows)
    → dedup_from same_row r rows ≡ r ∷ rows
unfolding IsStrictlySortedBy
each_once r [] h = refl
each_once r (s ∷ rows) h = rw (other_row r s h.0.0) (ap (λ (t : List Row). r ∷ t) (each_once s rows h.1))

none_twice : (r : Row) (rows : List Row) → IsStrictlySortedBy path_order (r ∷ rows) → twice_after r rows ≡ None
unfolding IsStrictlySortedBy twice_after
none_twice r [] h = refl
none_twice r (s ∷ rows) h = rw (other_path r s h.0.0) (none_twice s rows h.1)

in_order_already : (rows : List Row) → IsStrictlySortedBy path_order rows → in_order rows ≡ rows
in_order_already [] h = refl
in_order_already (r ∷ rows) h = ap (dedup same_row) (sorted_already (r ∷ rows) h) ∙ each_once r rows h

no_path_twice : (rows : List Row) → IsStrictlySortedBy path_order rows → path_twice rows ≡ None
no_path_twice [] h = refl
no_path_twice (r ∷ rows) h = none_twice r rows h

pub rows_again : (rows : List Row) (bytes : List ℕ)
    → opened_at bytes ≡ Ok (reader_of (written_tree list_type) (map row_value rows)) → AllByRecursion RowFits rows
    → AllByRecursion IsReadable rows → IsStrictlySortedBy path_order rows → length rows ≤ 65536
    → rows_of bytes ≡ Ok rows
unfolding rows_of rows_ahead
rows_again rows bytes opened fit readable rising few =
    let small : nat_le (length rows) 65536 ≡ true = le-leb (length rows) 65536 few in
    rw (
      opened,
      fields_fit,
      rows_by (fields_in (written_tree list_type)) (map row_value rows) rows
          (rows_say rows fit readable),
      in_order_already rows rising,
      no_path_twice rows rising,
      small,
    ) refl
