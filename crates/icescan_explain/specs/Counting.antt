-- How much of a snapshot a filter leaves out.
use Rattle.std.specs.Prelude.{ℕ, ℤ, pos, ◌+◌, ◌^◌, ◌+ℤ◌, ◌-ℤ◌, ◌≤ℤ◌, Bool, true, false, not, ◌&&◌, List, [], ◌∷◌}
use Rattle.std.specs.Prelude.{filter, if◌then◌else◌, length}
use Rattle.icescan_explain.specs.Fates.{is_kept}
use Rattle.icescan_explain.specs.declared.verdict.Fate.{Fate}
use Rattle.icescan_explain.specs.declared.verdict.Fate.TheVariants as fate
use Rattle.icescan_explain.specs.declared.verdict.Subject.{Subject}
use Rattle.icescan_explain.specs.declared.verdict.Subject.TheVariants as subject
use Rattle.icescan_explain.specs.declared.verdict.Verdict.{Verdict}
use Rattle.icescan_explain.specs.declared.counts.Cause.{Cause}
use Rattle.icescan_explain.specs.declared.counts.Cause.TheVariants.{Kept, Partition, Bounds}
use Rattle.icescan_explain.specs.declared.counts.Counts.{Counts}

abbrev pub same_subject : Subject → Subject → Bool
same_subject subject.Manifest subject.Manifest = true
same_subject subject.Data subject.Data = true
same_subject subject.Deletes subject.Deletes = true
same_subject _ _ = false

-- it is kept, or left out for this cause
abbrev pub has_cause : Cause → Fate → Bool
has_cause Kept fate.Kept = true
has_cause Partition (fate.ByPartition field) = true
has_cause Bounds (fate.ByBounds column) = true
has_cause _ _ = false

abbrev pub is_counted : Subject → Cause → Verdict → Bool
is_counted subject cause v = same_subject v.subject subject && has_cause cause v.fate

abbrev pub how_many : Subject → Cause → List Verdict → ℕ
how_many subject cause vs = length (filter (is_counted subject cause) vs)

-- the bytes of what is left out
abbrev pub bytes_in : Subject → Verdict → ℤ
bytes_in subject v = if same_subject v.subject subject && not (is_kept v.fate) then v.bytes else pos 0

abbrev pub bytes_left : Subject → List Verdict → ℤ
bytes_left subject [] = pos 0
bytes_left subject (v ∷ vs) = bytes_in subject v +ℤ bytes_left subject vs

abbrev pub counts_of : Subject → List Verdict → Counts
counts_of subject vs = record {
  kept = how_many subject Kept vs;
  by_partition = how_many subject Partition vs;
  by_bounds = how_many subject Bounds vs;
  bytes = bytes_left subject vs;
}

-- ---- one verdict after the other

-- the counts so far, and a verdict
abbrev pub counts_with : Subject → Verdict → Counts → Counts
counts_with subject v c = record {
  kept = c.kept + (if is_counted subject Kept v then 1 else 0);
  by_partition = c.by_partition + (if is_counted subject Partition v then 1 else 0);
  by_bounds = c.by_bounds + (if is_counted subject Bounds v then 1 else 0);
  bytes = c.bytes +ℤ bytes_in subject v;
}

-- a sum of 128 bits that may still grow or shrink by any of 64
abbrev pub IsFarFromLimits : ℤ → Type 0
IsFarFromLimits sum = ((pos (2 ^ 63) -ℤ pos (2 ^ 127)) ≤ℤ sum) × (sum ≤ℤ (pos (2 ^ 127) -ℤ pos (2 ^ 63)))
