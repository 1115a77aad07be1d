-- What is found on a shelf is what applies.
use Rattle.std.proofs.Common.{◌≡◌, ℕ, ◌+◌, Bool, true, false, not, ◌&&◌, ◌||◌, List, refl, sym, ap, ◌∙◌, add-one}
use Rattle.std.proofs.Common.{nat_le, nat_lt, Option, Some, None, is_none, is_some}
use Rattle.std.specs.Bool.{one_answer}
use Rattle.std.specs.Cmp.{Equal-is}
use Rattle.std.specs.Cmp.Lexicographic.{slice_cmp}
use Rattle.std.specs.Option.{option_cmp, option_eq}
use Rattle.std.specs.Str.{bytes_eq}
use Rattle.std.specs.declared.cmp.Ordering.{Ordering}
use Rattle.std.specs.declared.cmp.Ordering.TheVariants.{Less, Equal, Greater}
use Rattle.std.specs.Ordering.{int_cmp, int_eq, nat_cmp, is_eq, ordering_then}
use Rattle.std.proofs.lemmas.Cmp.{int_eq_equiv}
use Rattle.std.proofs.lemmas.Map.Text.{is_eq-slice_cmp}
use Rattle.ice_value.specs.declared.cell.Cell.{Cell}
use Rattle.ice_value.specs.declared.file_content.FileContent.{FileContent}
use Rattle.ice_value.specs.declared.file_content.FileContent.TheVariants.{Data, PositionDeletes, EqualityDeletes}
use Rattle.ice_value.specs.Applying.{DataKey, DeleteKey, applies, applies_as, same_partition}
use Rattle.ice_value.specs.Cells.{tuple_cmp, same_tuple}
use Rattle.ice_value.specs.Equality.{tuple_decides, tuple_cmp_equal}
use Rattle.ice_deletes.specs.declared.group.Group.TheVariants.{Positions, Referenced, Equalities, Everywhere}
use Rattle.ice_deletes.specs.Groups.{SortKey, sort_key, partition_cmp, is_in, is_within}
use Rattle.ice_deletes.specs.Found.{is_content}

-- what is sought for a data file, from a sequence number on
abbrev pub key_for : DataKey → ℕ → SortKey
key_for x from = record { path = Some x.path; spec_id = x.spec_id; tuple = x.tuple; sequence_number = from }

is_eq-then : (o q : Ordering) → is_eq (ordering_then o q) ≡ (is_eq o && is_eq q)
is_eq-then Less q = refl
is_eq-then Equal q = refl
is_eq-then Greater q = refl

tuples_tie : (a b : List Cell) → is_eq (tuple_cmp b a) ≡ same_tuple a b
tuples_tie a b =
    let e = tuple_cmp_equal b a in
    let q = Equal-is (tuple_cmp b a) in
    one_answer (is_eq (tuple_cmp b a)) (same_tuple a b) (λ h. sym (e.0 (q.0 h)), λ h. q.1 (e.1 (sym h)))
    (tuple_decides a b)

-- a tie of partitions is the same partition
partitions_tie : (x : DataKey) (d : DeleteKey) (from : ℕ)
    → is_eq (partition_cmp (sort_key d) (key_for x from)) ≡ same_partition x d
partitions_tie x d from =
    is_eq-then (int_cmp d.spec_id x.spec_id) (tuple_cmp d.tuple x.tuple)
    ∙ ap (λ v. v && is_eq (tuple_cmp d.tuple x.tuple)) (int_eq_equiv.symm d.spec_id x.spec_id)
    ∙ ap (λ v. int_eq x.spec_id d.spec_id && v) (tuples_tie x.tuple d.tuple)

-- a tie of paths is the same path
paths_tie : (o : Option (List ℕ)) (path : List ℕ) → is_eq (option_cmp (slice_cmp nat_cmp) o (Some path))
    ≡ option_eq bytes_eq o (Some path)
paths_tie None path = refl
paths_tie (Some named) path = is_eq-slice_cmp named path

later : (a b : ℕ) → nat_le (a + 1) b ≡ nat_lt a b
later a b = rw add-one refl

positions_order : (none same newer named : Bool) → none ≡ true → (same && newer) ≡ (newer && same && (none || named))
positions_order true true true named h = refl
positions_order true true false named h = refl
positions_order true false true named h = refl
positions_order true false false named h = refl
positions_order false same newer named h = absurd cc

referenced_order : (some named same newer : Bool) → some ≡ true
    → (named && same && newer) ≡ (newer && same && (not some || named))
referenced_order true true true true h = refl
referenced_order true true true false h = refl
referenced_order true true false true h = refl
referenced_order true true false false h = refl
referenced_order true false true true h = refl
referenced_order true false true false h = refl
referenced_order true false false true h = refl
referenced_order true false false false h = refl
referenced_order false named same newer h = absurd cc

equalities_order : (unpartitioned same newer : Bool) → not unpartitioned ≡ true
    → (same && newer) ≡ (newer && (same || unpartitioned))
equalities_order true same newer h = absurd cc
equalities_order false true true h = refl
equalities_order false true false h = refl
equalities_order false false true h = refl
equalities_order false false false h = refl

everywhere_order : (unpartitioned same newer : Bool) → unpartitioned ≡ true → newer ≡ (newer && (same || unpartitioned))
everywhere_order true true true h = refl
everywhere_order true true false h = refl
everywhere_order true false true h = refl
everywhere_order true false false h = refl
everywhere_order false same newer h = absurd cc

-- what is found on the shelf of each group
module _ (x : DataKey) (d : DeleteKey) where
  pub positions_apply : is_in Positions d ≡ true
      → is_within Positions (key_for x x.sequence_number) d ≡ applies x d
  positions_apply h = go d.content h where
    go : (K : FileContent) → (is_content PositionDeletes K && is_none d.referenced) ≡ true
        → is_within Positions (key_for x x.sequence_number) d ≡ applies_as K x d
    go Data h = absurd cc
    go PositionDeletes h =
        ap (λ v. v && nat_le x.sequence_number d.sequence_number) (partitions_tie x d x.sequence_number)
        ∙ positions_order (is_none d.referenced) (same_partition x d) (nat_le x.sequence_number d.sequence_number)
        (option_eq bytes_eq d.referenced (Some x.path)) h
    go EqualityDeletes h = absurd cc

  pub referenced_apply : is_in Referenced d ≡ true
      → is_within Referenced (key_for x x.sequence_number) d ≡ applies x d
  referenced_apply h = go d.content h where
    go : (K : FileContent) → (is_content PositionDeletes K && is_some d.referenced) ≡ true
        → is_within Referenced (key_for x x.sequence_number) d ≡ applies_as K x d
    go Data h = absurd cc
    go PositionDeletes h =
        ap (λ v. v && nat_le x.sequence_number d.sequence_number)
        (is_eq-then (option_cmp (slice_cmp nat_cmp) d.referenced (Some x.path))
        (partition_cmp (sort_key d) (key_for x x.sequence_number))
        ∙ ap (λ v. v && is_eq (partition_cmp (sort_key d) (key_for x x.sequence_number)))
        (paths_tie d.referenced x.path)
        ∙ ap (λ v. option_eq bytes_eq d.referenced (Some x.path) && v) (partitions_tie x d x.sequence_number))
        ∙ referenced_order (is_some d.referenced) (option_eq bytes_eq d.referenced (Some x.path)) (same_partition x d)
        (nat_le x.sequence_number d.sequence_number) h
    go EqualityDeletes h = absurd cc

  pub equalities_apply : is_in Equalities d ≡ true
      → is_within Equalities (key_for x (x.sequence_number + 1)) d ≡ applies x d
  equalities_apply h = go d.content h where
    go : (K : FileContent) → (is_content EqualityDeletes K && not d.unpartitioned) ≡ true
        → is_within Equalities (key_for x (x.sequence_number + 1)) d ≡ applies_as K x d
    go Data h = absurd cc
    go PositionDeletes h = absurd cc
    go EqualityDeletes h =
        ap (λ v. v && nat_le (x.sequence_number + 1) d.sequence_number) (partitions_tie x d (x.sequence_number + 1))
        ∙ ap (λ v. same_partition x d && v) (later x.sequence_number d.sequence_number)
        ∙ equalities_order d.unpartitioned (same_partition x d) (nat_lt x.sequence_number d.sequence_number) h

  pub everywhere_apply : is_in Everywhere d ≡ true
      → is_within Everywhere (key_for x (x.sequence_number + 1)) d ≡ applies x d
  everywhere_apply h = go d.content h where
    go : (K : FileContent) → (is_content EqualityDeletes K && d.unpartitioned) ≡ true
        → is_within Everywhere (key_for x (x.sequence_number + 1)) d ≡ applies_as K x d
    go Data h = absurd cc
    go PositionDeletes h = absurd cc
    go EqualityDeletes h = later x.sequence_number d.sequence_number
        ∙ everywhere_order d.unpartitioned (same_partition x d) (nat_lt x.sequence_number d.sequence_number) h
