use Rattle.std.proofs.Common.{◌≡◌, ◌∙◌, ◌==◌, Bool, true, false, ◌&&◌, refl, ap}
use Rattle.std.specs.Option.{option_eq}
use Rattle.std.specs.Ordering.{int_eq}
use Rattle.std.specs.Str.{bytes_eq}
use Rattle.std.specs.Cmp.Lexicographic.{pointwise}
use Rattle.ice_value.specs.Summaries.{same_summary}
use Rattle.ice_manifest_reading.specs.declared.row.Row.{Row}
use Rattle.ice_manifest_reading.specs.Lists.{same_content, same_counts, same_row}
use Rattle.ice_manifest_reading.specs.Equality.{rows_same}
use Rattle.ice_manifest_reading.proofs.row.LentRowPartialEq.eq.Goals as goal

four : (a b c d x : Bool) → ((a && (b && (c && d))) && x) ≡ (a && (b && (c && (d && x))))
four false b c d x = refl
four true false c d x = refl
four true true false d x = refl
four true true true d x = refl

three : (a b c x : Bool) → ((a && (b && c)) && x) ≡ (a && (b && (c && x)))
three false b c x = refl
three true false c x = refl
three true true c x = refl

parts_same : (r s : Row) → rows_same r s ≡ same_row r s
unfolding same_row
parts_same r s =
    let rest : Bool = same_counts r.counts s.counts && option_eq (pointwise same_summary) r.partitions s.partitions in
    let all : Bool = (r.sequence_number == s.sequence_number) && ((r.min_sequence_number == s.min_sequence_number)
    && int_eq r.added_snapshot_id s.added_snapshot_id) in
    four (bytes_eq r.path s.path) (int_eq r.length s.length) (int_eq r.spec_id s.spec_id)
    (same_content r.content s.content) (all && rest)
    ∙ ap (λ (v : Bool). bytes_eq r.path s.path && (int_eq r.length s.length && (int_eq r.spec_id s.spec_id
    && (same_content r.content s.content && v)))) (three (r.sequence_number == s.sequence_number)
    (r.min_sequence_number == s.min_sequence_number) (int_eq r.added_snapshot_id s.added_snapshot_id) rest)

pub returns : goal.returns
returns c = c.is_same.ensures ∙ parts_same c.args.self.now c.args.other.now
