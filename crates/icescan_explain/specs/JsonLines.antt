-- An explanation as lines of JSON, an object each; and what is written of an explanation in a form.
use Rattle.std.specs.Prelude.{◌≡◌, ℕ, List, [], ◌∷◌, ◌++◌, codes, Option, Result, Ok, OnOk, IsErrOf}
use Rattle.std.specs.List.{flat_map}
use Rattle.serde_json.specs.Data.{Data, boolean, null, string}
use Rattle.ice_desk.specs.Given.{Giving}
use Rattle.ice_state.specs.Lines.{OwnedLine}
use Rattle.icescan_explain.specs.AnyFiles.{IsAnExplanation}
use Rattle.icescan_explain.specs.Applying.{applied}
use Rattle.icescan_explain.specs.Counting.{counts_of}
use Rattle.icescan_explain.specs.Fates.{is_kept}
use Rattle.icescan_explain.specs.Texts.{all_of, explanation_text, subject_name, totals_text, verdict_text}
use Rattle.icescan_explain.specs.declared.counts.Counts.{Counts}
use Rattle.icescan_explain.specs.declared.manifests.Explanation.{Explanation}
use Rattle.icescan_explain.specs.declared.verdict.Fate.{Fate}
use Rattle.icescan_explain.specs.declared.verdict.Fate.TheVariants.{Kept, ByPartition, ByBounds}
use Rattle.icescan_explain.specs.declared.verdict.Subject.{Subject}
use Rattle.icescan_explain.specs.declared.verdict.Subject.TheVariants.{Manifest, Data as DataFile, Deletes}
use Rattle.icescan_explain.specs.declared.verdict.Verdict.{Verdict}
use Rattle.icescan_forms.specs.Objects.{count_json, number_json, object_line, text_if}
use Rattle.icescan_forms.specs.declared.format.Format.{Format}
use Rattle.icescan_forms.specs.declared.format.Format.TheVariants as format
use Rattle.icescan_print.specs.Written.{Appends, AppendsFront}
use Rattle.icescan_text.specs.declared.fault.RunFault.{RunFault}
use Rattle.icescan_text.specs.declared.fault.RunFault.TheVariants as run
use Rattle.icescan_text.specs.declared.request.Request.{Request}

-- of a delete file that is kept, to how many data files of the plan it applies
abbrev pub applies_json : List OwnedLine → Subject → List ℕ → Fate → Data
applies_json plan Deletes path Kept = count_json (applied plan path)
applies_json plan _ path fate = null

-- what it is left out by, and the partition field or the column; where no predicate is to blame there is none
abbrev pub by_json : Fate → Data
by_json Kept = null
by_json (ByPartition field) = string (codes "partition")
by_json (ByBounds column) = string (codes "bounds")

abbrev pub name_json : Fate → Data
name_json Kept = null
name_json (ByPartition field) = text_if field
name_json (ByBounds column) = text_if column

-- a manifest or a file, and what became of it
abbrev pub verdict_json : List OwnedLine → Verdict → List (List ℕ × Data)
verdict_json plan v =
    (codes "kind", string (subject_name v.subject)) ∷ (codes "path", string v.path)
    ∷ (codes "kept", boolean (is_kept v.fate)) ∷ (codes "by", by_json v.fate) ∷ (codes "name", name_json v.fate)
    ∷ (codes "applies", applies_json plan v.subject v.path v.fate) ∷ []

unfoldable pub verdict_object : List OwnedLine → Verdict → List ℕ
verdict_object plan v = object_line (verdict_json plan v)

-- how many manifests, data files or delete files there are, are kept, and are left out by what; and the bytes of those
-- that are left out
abbrev pub totals_json : Subject → Counts → List (List ℕ × Data)
totals_json subject c =
    (codes "kind", string (codes "totals")) ∷ (codes "of", string (subject_name subject))
    ∷ (codes "all", count_json (all_of c)) ∷ (codes "kept", count_json c.kept)
    ∷ (codes "partition", count_json c.by_partition) ∷ (codes "bounds", count_json c.by_bounds)
    ∷ (codes "bytes", number_json c.bytes) ∷ []

unfoldable pub totals_object : List Verdict → Subject → List ℕ
totals_object vs subject = object_line (totals_json subject (counts_of subject vs))

unfoldable pub totals_objects : List Verdict → List ℕ
totals_objects vs = totals_object vs Manifest ++ (totals_object vs DataFile ++ totals_object vs Deletes)

-- the verdicts, and then the counts
unfoldable pub explanation_objects : Explanation → List ℕ
explanation_objects x = flat_map (verdict_object x.plan) x.verdicts ++ totals_objects x.verdicts

-- the line of a verdict in a form
abbrev pub verdict_told : Format → List OwnedLine → Verdict → List ℕ
verdict_told format.Text plan v = verdict_text plan v
verdict_told format.Json plan v = verdict_object plan v

-- the last lines in a form
abbrev pub totals_told : Format → List Verdict → List ℕ
totals_told format.Text vs = totals_text vs
totals_told format.Json vs = totals_objects vs

-- an explanation in a form
abbrev pub explanation_told : Format → Explanation → List ℕ
explanation_told format.Text x = explanation_text x
explanation_told format.Json x = explanation_objects x

-- what was written is the explanation that is asked for, in a form, or a front of it
abbrev pub WroteExplanationAs : Format → Result Explanation RunFault → Option (List ℕ) → Option (List ℕ) → Type 0
WroteExplanationAs form read output output' = (x : Explanation) × (read ≡ Ok x)
    × Appends output output' (explanation_told form x)

abbrev pub WroteExplanationFrontAs : Format → Result Explanation RunFault → Option (List ℕ) → Option (List ℕ) → Type 0
WroteExplanationFrontAs form read output output' = (x : Explanation) × (read ≡ Ok x)
    × AppendsFront output output' (explanation_told form x)

-- over any files: what was written is such an explanation, in a form
abbrev pub WroteAnExplanationAs : Format → Giving → List ℕ → Request → Option (List ℕ) → Option (List ℕ) → Type 0
WroteAnExplanationAs form gives metadata request output output' = (x : Explanation)
    × IsAnExplanation gives metadata request x × Appends output output' (explanation_told form x)

-- What was written: such an explanation, in a form, and after a failed write a front of one.
pub record WritesAnExplanation (form : Format) (gives : Giving) (metadata : List ℕ) (request : Request)
    (result : Result Unit RunFault) (output output' : Option (List ℕ)) : Type 0 where
  pub all : OnOk result (WroteAnExplanationAs form gives metadata request output output')
  pub front : IsErrOf result run.Write → (x : Explanation) × IsAnExplanation gives metadata request x
      × AppendsFront output output' (explanation_told form x)
