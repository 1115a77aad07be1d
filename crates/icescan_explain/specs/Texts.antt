-- The program's own text of an explanation. (10 is the line feed.)
use Rattle.std.specs.Prelude.{ℕ, ◌+◌, List, [], ◌∷◌, ◌++◌, codes, Option, Some, None}
use Rattle.std.specs.List.{flat_map}
use Rattle.icescan_explain.specs.declared.verdict.Fate.{Fate}
use Rattle.icescan_explain.specs.declared.verdict.Fate.TheVariants.{Kept, ByPartition, ByBounds}
use Rattle.icescan_explain.specs.declared.verdict.Subject.{Subject}
use Rattle.icescan_explain.specs.declared.verdict.Subject.TheVariants.{Manifest, Data, Deletes}
use Rattle.icescan_explain.specs.declared.verdict.Verdict.{Verdict}
use Rattle.icescan_print.specs.Pieces.{named_number, named_path, named_signed}
use Rattle.ice_state.specs.Lines.{OwnedLine}
use Rattle.icescan_explain.specs.Applying.{applied}
use Rattle.icescan_explain.specs.Counting.{counts_of}
use Rattle.icescan_explain.specs.declared.counts.Counts.{Counts}
use Rattle.icescan_explain.specs.declared.manifests.Explanation.{Explanation}

abbrev pub subject_name : Subject → List ℕ
subject_name Manifest = codes "manifest"
subject_name Data = codes "data"
subject_name Deletes = codes "delete"

-- what stands before the name of a partition field
abbrev pub partition_word : Subject → List ℕ
partition_word Manifest = codes " pruned by "
partition_word Data = codes " pruned by partition "
partition_word Deletes = codes " pruned by partition "

-- what says that it is kept; of a delete file, to how many data files of the plan it applies
abbrev pub kept_text : List OwnedLine → Subject → List ℕ → List ℕ
kept_text plan Manifest path = codes " wanted"
kept_text plan Data path = codes " kept"
kept_text plan Deletes path = named_number (codes " applies ") (applied plan path)

-- what says that it is left out, with a name behind the words; where no predicate is to blame there is none
abbrev pub left_out_text : List ℕ → Option (List ℕ) → List ℕ
left_out_text words (Some name) = named_path words name
left_out_text words None = codes " pruned"

abbrev pub fate_text : List OwnedLine → Subject → List ℕ → Fate → List ℕ
fate_text plan subject path Kept = kept_text plan subject path
fate_text plan subject path (ByPartition field) = left_out_text (partition_word subject) field
fate_text plan subject path (ByBounds column) = left_out_text (codes " pruned by bounds ") column

-- the line of a verdict
unfoldable pub verdict_text : List OwnedLine → Verdict → List ℕ
verdict_text plan v = subject_name v.subject ++ (named_path (codes " ") v.path
    ++ (fate_text plan v.subject v.path v.fate ++ 10 ∷ []))

-- how many there are in all
abbrev pub all_of : Counts → ℕ
all_of c = c.kept + (c.by_partition + c.by_bounds)

-- the last three lines
unfoldable pub manifest_totals : Counts → List ℕ
manifest_totals c = named_number (codes "manifests ") (all_of c) ++ (named_number (codes " wanted ") c.kept
    ++ (named_number (codes " pruned ") c.by_partition ++ (named_signed (codes " bytes ") c.bytes ++ 10 ∷ [])))

unfoldable pub data_left_out : Counts → List ℕ
data_left_out c = named_number (codes " partition ") c.by_partition ++ (named_number (codes " bounds ") c.by_bounds
    ++ (named_signed (codes " bytes ") c.bytes ++ 10 ∷ []))

unfoldable pub data_totals : Counts → List ℕ
data_totals c = named_number (codes "data ") (all_of c) ++ (named_number (codes " kept ") c.kept ++ data_left_out c)

unfoldable pub delete_totals : Counts → List ℕ
delete_totals c = named_number (codes "deletes ") (all_of c) ++ (named_number (codes " kept ") c.kept
    ++ (named_number (codes " partition ") c.by_partition ++ 10 ∷ []))

unfoldable pub totals_text : List Verdict → List ℕ
totals_text vs = manifest_totals (counts_of Manifest vs) ++ (data_totals (counts_of Data vs)
    ++ delete_totals (counts_of Deletes vs))

-- the verdicts, and then the last lines
unfoldable pub explanation_text : Explanation → List ℕ
explanation_text x = flat_map (verdict_text x.plan) x.verdicts ++ totals_text x.verdicts
