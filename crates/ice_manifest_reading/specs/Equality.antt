-- The test of rows says whether they are one.
use Rattle.std.proofs.Common.{◌≡◌, ℕ, ℤ, Bool, true, false, ◌&&◌, ◌==◌, List, Option, Some, None, refl, sym, ap, subst}
use Rattle.std.proofs.Common.{◌∙◌, eqb-true, eq-eqb}
use Rattle.std.specs.Cmp.{IsEquivalence, decided}
use Rattle.std.specs.Bool.{Decides}
use Rattle.std.specs.Option.{option_eq}
use Rattle.std.specs.Ordering.{int_eq}
use Rattle.std.specs.Str.{bytes_eq}
use Rattle.std.specs.Cmp.Lexicographic.{pointwise}
use Rattle.std.proofs.lemmas.Bool.Decides.{Decides-int_eq, Decides-like}
use Rattle.std.proofs.lemmas.Slice.Eq.{slice_eq-Decides, bytes_eq-Decides}
use Rattle.ice_value.specs.declared.file_bounds.Summary.{Summary}
use Rattle.ice_value.specs.Summaries.{same_summary}
use Rattle.ice_value.specs.Equality.{summary_decides}
use Rattle.ice_manifest_reading.specs.declared.counts.Counts.{Counts}
use Rattle.ice_manifest_reading.specs.declared.row.Row.{Row}
use Rattle.ice_manifest_reading.specs.declared.row.ManifestContent.{ManifestContent}
use Rattle.ice_manifest_reading.specs.declared.row.ManifestContent.TheVariants.{Data, Deletes}
use Rattle.ice_manifest_reading.specs.Lists.{same_content, same_counts, same_row}

-- rows of the same manifest
abbrev pub manifests_same : Row → Row → Bool
manifests_same r s = bytes_eq r.path s.path
    && (int_eq r.length s.length && (int_eq r.spec_id s.spec_id && same_content r.content s.content))

-- rows that say the same commits and snapshot
abbrev pub numbers_same : Row → Row → Bool
numbers_same r s = (r.sequence_number == s.sequence_number)
    && ((r.min_sequence_number == s.min_sequence_number) && int_eq r.added_snapshot_id s.added_snapshot_id)

abbrev pub rows_same : Row → Row → Bool
rows_same r s = manifests_same r s && (numbers_same r s && (same_counts r.counts s.counts
    && option_eq (pointwise same_summary) r.partitions s.partitions))

both : (a b : Bool) → (a && b) ≡ true → (a ≡ true) × (b ≡ true)
both true b h = (refl, h)
both false b h = absurd (cc)

content_is : (x y : ManifestContent) → same_content x y ≡ true → x ≡ y
content_is Data Data h = refl
content_is Data Deletes h = absurd (cc)
content_is Deletes Data h = absurd (cc)
content_is Deletes Deletes h = refl

content_self : (x : ManifestContent) → same_content x x ≡ true
content_self Data = refl
content_self Deletes = refl

-- ---- counts and summaries

pub numbers : (a b : Option ℤ) → Decides (option_eq int_eq a b) (a ≡ b)
numbers None None = (λ h. refl, λ h. refl)
numbers None (Some y) = (λ h. absurd cc, λ h. absurd cc)
numbers (Some x) None = (λ h. absurd cc, λ h. absurd cc)
numbers (Some x) (Some y) = Decides-like _ (λ h. ap Some h) (λ h. cc) (Decides-int_eq x y)

counts_made : Option ℤ → Option ℤ → Option ℤ → Option ℤ → Option ℤ → Option ℤ → Counts
counts_made a b c d e f = record {
  added_files = a;
  existing_files = b;
  deleted_files = c;
  added_rows = d;
  existing_rows = e;
  deleted_rows = f;
}

counts_is : (a : Counts) → a ≡ counts_made a.added_files a.existing_files a.deleted_files a.added_rows a.existing_rows
    a.deleted_rows
unfolding counts_made
counts_is a = refl

counts_same : (a b : Counts) → same_counts a b ≡ true → a ≡ b
counts_same a b h =
    let p = both (option_eq int_eq a.added_files b.added_files) _ h in
    let q = both (option_eq int_eq a.existing_files b.existing_files) _ p.1 in
    let r = both (option_eq int_eq a.deleted_files b.deleted_files) _ q.1 in
    let s = both (option_eq int_eq a.added_rows b.added_rows) _ r.1 in
    let t = both (option_eq int_eq a.existing_rows b.existing_rows) _ s.1 in
    let one : a.added_files ≡ b.added_files = (numbers a.added_files b.added_files).0 p.0 in
    let two : a.existing_files ≡ b.existing_files = (numbers a.existing_files b.existing_files).0 q.0 in
    let three : a.deleted_files ≡ b.deleted_files = (numbers a.deleted_files b.deleted_files).0 r.0 in
    let four : a.added_rows ≡ b.added_rows = (numbers a.added_rows b.added_rows).0 s.0 in
    let five : a.existing_rows ≡ b.existing_rows = (numbers a.existing_rows b.existing_rows).0 t.0 in
    let six : a.deleted_rows ≡ b.deleted_rows = (numbers a.deleted_rows b.deleted_rows).0 t.1 in
    counts_is a ∙ rw (one, two, three, four, five, six) refl ∙ sym (counts_is b)

counts_self : (a : Counts) → same_counts a a ≡ true
counts_self a = rw (
  (numbers a.added_files a.added_files).1 refl,
  (numbers a.existing_files a.existing_files).1 refl,
  (numbers a.deleted_files a.deleted_files).1 refl,
  (numbers a.added_rows a.added_rows).1 refl,
  (numbers a.existing_rows a.existing_rows).1 refl,
) ((numbers a.deleted_rows a.deleted_rows).1 refl)

partitions : (a b : Option (List Summary)) → Decides (option_eq (pointwise same_summary) a b) (a ≡ b)
partitions None None = (λ h. refl, λ h. refl)
partitions None (Some y) = (λ h. absurd cc, λ h. absurd cc)
partitions (Some x) None = (λ h. absurd cc, λ h. absurd cc)
partitions (Some x) (Some y) = Decides-like _ (λ h. ap Some h) (λ h. cc) (slice_eq-Decides summary_decides
    x y (pointwise same_summary x y) refl)

-- ---- rows

row_made : List ℕ → ℤ → ℤ → ManifestContent → ℕ → ℕ → ℤ → Counts → Option (List Summary) → Row
row_made path length spec content sequence least snapshot counts partitions =
    record {
      path = path;
      length = length;
      spec_id = spec;
      content = content;
      sequence_number = sequence;
      min_sequence_number = least;
      added_snapshot_id = snapshot;
      counts = counts;
      partitions = partitions;
    }

row_is : (r : Row) → r ≡ row_made r.path r.length r.spec_id r.content r.sequence_number r.min_sequence_number
    r.added_snapshot_id r.counts r.partitions
unfolding row_made
row_is r = refl

pub same_is : (r s : Row) → same_row r s ≡ true → r ≡ s
unfolding same_row
same_is r s h =
    let a = both (bytes_eq r.path s.path) _ h in
    let b = both (int_eq r.length s.length) _ a.1 in
    let c = both (int_eq r.spec_id s.spec_id) _ b.1 in
    let d = both (same_content r.content s.content) _ c.1 in
    let e = both (r.sequence_number == s.sequence_number) _ d.1 in
    let f = both (r.min_sequence_number == s.min_sequence_number) _ e.1 in
    let g = both (int_eq r.added_snapshot_id s.added_snapshot_id) _ f.1 in
    let i = both (same_counts r.counts s.counts) _ g.1 in
    let path : r.path ≡ s.path = (bytes_eq-Decides r.path s.path).0 a.0 in
    let length : r.length ≡ s.length = (Decides-int_eq r.length s.length).0 b.0 in
    let spec : r.spec_id ≡ s.spec_id = (Decides-int_eq r.spec_id s.spec_id).0 c.0 in
    let content : r.content ≡ s.content = content_is r.content s.content d.0 in
    let sequence : r.sequence_number ≡ s.sequence_number = eqb-true r.sequence_number s.sequence_number e.0 in
    let least : r.min_sequence_number ≡ s.min_sequence_number = eqb-true r.min_sequence_number s.min_sequence_number
    f.0 in
    let snapshot : r.added_snapshot_id ≡ s.added_snapshot_id =
    (Decides-int_eq r.added_snapshot_id s.added_snapshot_id).0 g.0 in
    let counts : r.counts ≡ s.counts = counts_same r.counts s.counts i.0 in
    let parts : r.partitions ≡ s.partitions = (partitions r.partitions s.partitions).0 i.1 in
    row_is r ∙ rw (path, length, spec, content, sequence, least, snapshot, counts, parts) refl ∙ sym (row_is s)

pub same_self : (r : Row) → same_row r r ≡ true
unfolding same_row
same_self r = rw (
  (bytes_eq-Decides r.path r.path).1 refl,
  (Decides-int_eq r.length r.length).1 refl,
  (Decides-int_eq r.spec_id r.spec_id).1 refl,
  content_self r.content,
  eq-eqb r.sequence_number r.sequence_number
      refl,
  eq-eqb r.min_sequence_number r.min_sequence_number refl,
  (Decides-int_eq r.added_snapshot_id
      r.added_snapshot_id).1 refl,
  counts_self r.counts,
) ((partitions r.partitions r.partitions).1 refl)

pub same_equal : (r s : Row) → r ≡ s → same_row r s ≡ true
same_equal r s e = let P : Row → Type 0 = λ v. same_row r v ≡ true in subst P e (same_self r)

pub equality : IsEquivalence same_row
equality = decided same_row (λ r s. (same_is r s, same_equal r s))
