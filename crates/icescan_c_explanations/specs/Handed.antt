-- Explanations of tables whose files are handed in: the list of the snapshot, and then the manifests that are wanted.
use Rattle.std.specs.Prelude.{ℕ, List, [], ◌∷◌, ◌++◌, Bool, true, false, Result, Ok, Err}
use Rattle.std.specs.FinMap.{get}
use Rattle.contract_words.specs.Outcome.{◌>>=◌}
use Rattle.icescan_explain.specs.Explanations.{explained}
use Rattle.icescan_explain.specs.JsonLines.{explanation_objects}
use Rattle.icescan_requests.specs.Plans.{manifests, selected_rows}
use Rattle.icescan_requests.specs.Selections.{selected}
use Rattle.icescan_requests.specs.declared.selected_rows.SelectedRows.{SelectedRows}
use Rattle.icescan_text.specs.declared.fault.RunFault.{RunFault}
use Rattle.icescan_text.specs.declared.request.Request.{Request}
use Rattle.icescan_c_requests.specs.Handed.{begins, none_of}
use Rattle.icescan_c_requests.specs.Handed.{took as took_file}
use Rattle.icescan_c_requests.specs.declared.handed.HandedFiles.{HandedFiles}
use Rattle.icescan_c_explanations.specs.declared.handed.HandedExplanation.{HandedExplanation}

-- ---- what is wanted of a table

-- the manifests that the scan of the list's rows wants; none where the list can't be read
abbrev pub manifests_for : Result SelectedRows RunFault → List (List ℕ)
manifests_for (Ok found) = manifests found.specs found.filter.parts found.rows
manifests_for (Err fault) = []

-- ---- what is done

-- an explanation of what a request asks, of whose table nothing was handed in
unfoldable pub asked : List ℕ → Request → Result HandedExplanation RunFault
asked metadata request = do
  selection ← selected metadata request
  Ok (record { metadata = metadata; request = request; files = none_of (selection.list ∷ []) })

-- the first file names the others
abbrev pub with_named : Bool → HandedFiles → List ℕ → Request → HandedFiles
with_named true files metadata request = record files {
  wanted = files.wanted ++ manifests_for (selected_rows (λ path. get files.kept path) metadata request);
}
with_named false files metadata request = files

-- the next file was handed in
unfoldable pub took : HandedExplanation → List ℕ → HandedExplanation
took x bytes = record x { files = with_named (begins x.files) (took_file x.files bytes) x.metadata x.request }

-- the explanation on what was handed in, as lines of JSON, or why there is none
unfoldable pub told_in : HandedExplanation → Result (List ℕ) RunFault
told_in x = do
  explanation ← explained (λ path. get x.files.kept path) x.metadata x.request
  Ok (explanation_objects explanation)
