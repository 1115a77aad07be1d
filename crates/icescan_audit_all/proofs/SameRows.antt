-- Rows that the test of their type takes for one are one.
use Rattle.std.proofs.Common.{◌≡◌, Bool, true, ◌&&◌, ◌==◌, ap, refl, sym, ◌∙◌}
use Rattle.std.specs.Cmp.Lexicographic.{pointwise}
use Rattle.std.specs.Option.{option_eq}
use Rattle.std.specs.Ordering.{int_eq}
use Rattle.std.specs.Str.{bytes_eq}
use Rattle.ice_manifest_reading.specs.Equality.{same_is}
use Rattle.ice_manifest_reading.specs.Lists.{same_content, same_counts, same_row}
use Rattle.ice_manifest_reading.specs.contracts.row.ManifestContentPartialEq.TheImpl as content_test
use Rattle.ice_manifest_reading.specs.contracts.row.RowPartialEq.TheImpl as row_test
use Rattle.ice_manifest_reading.specs.declared.row.ManifestContent.{ManifestContent}
use Rattle.ice_manifest_reading.specs.declared.row.ManifestContent.TheVariants.{Data, Deletes}
use Rattle.ice_manifest_reading.specs.declared.row.Row.{Row}
use Rattle.ice_value.specs.Summaries.{same_summary}

content_same : (a b : ManifestContent) → content_test.ghosts.eq a b ≡ same_content a b
content_same Data Data = refl
content_same Data Deletes = refl
content_same Deletes Data = refl
content_same Deletes Deletes = refl

rows_same : (x y : Row) → row_test.ghosts.eq x y ≡ same_row x y
unfolding same_row
rows_same x y = ap (λ (v : Bool). bytes_eq x.path y.path && (int_eq x.length y.length
    && (int_eq x.spec_id y.spec_id && (v && ((x.sequence_number == y.sequence_number)
    && ((x.min_sequence_number == y.min_sequence_number) && (int_eq x.added_snapshot_id y.added_snapshot_id
    && (same_counts x.counts y.counts && option_eq (pointwise same_summary) x.partitions y.partitions))))))))
    (content_same x.content y.content)

pub one_row : (x y : Row) → row_test.ghosts.eq x y ≡ true → x ≡ y
one_row x y h = same_is x y (sym (rows_same x y) ∙ h)
