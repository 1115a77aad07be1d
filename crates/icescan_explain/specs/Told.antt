-- What explanations tell of plans.
use Rattle.std.specs.Prelude.{ℕ, ◌&&◌, List, map, filter}
use Rattle.icescan_explain.specs.Fates.{is_kept}
use Rattle.icescan_explain.specs.declared.verdict.Subject.TheVariants as subject
use Rattle.icescan_explain.specs.declared.verdict.Verdict.{Verdict}
use Rattle.icescan_explain.specs.Counting.{same_subject}
use Rattle.ice_manifest_reading.specs.declared.entry.Entry.{Entry}
use Rattle.ice_state.specs.Lines.{OwnedLine}
use Rattle.ice_state.specs.Pruning.{holds}
use Rattle.ice_value.specs.declared.file_content.FileContent.TheVariants.{Data}

-- the paths of the data files that are told as kept
abbrev pub paths_kept : List Verdict → List (List ℕ)
paths_kept vs =
    map (λ (v : Verdict). v.path) (filter (λ (v : Verdict). same_subject v.subject subject.Data && is_kept v.fate) vs)

-- those of the data files among entries
abbrev pub paths_of_data : List Entry → List (List ℕ)
paths_of_data xs = map (λ (x : Entry). x.file.path) (filter (holds Data) xs)

-- those of a plan
abbrev pub paths_planned : List OwnedLine → List (List ℕ)
paths_planned plan = map (λ (l : OwnedLine). l.file.file.path) plan
