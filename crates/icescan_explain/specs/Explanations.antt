-- Explanations of plans: what became of each manifest and each live file.
use Rattle.std.specs.Prelude.{◌≡◌, ℕ, List, Option, Some, Result, Ok, IfErr, IfOk}
use Rattle.contract_words.specs.Outcome.{◌>>=◌}
use Rattle.ice_desk.specs.Worlds.{EndsAt}
use Rattle.icescan_explain.specs.Asking.{ice_filter_tests}
use Rattle.icescan_explain.specs.declared.tests.FilterTests.{FilterTests}
use Rattle.ice_manifest_reading.specs.declared.row.Row.{Row}
use Rattle.icescan_requests.specs.Plans.{over_wanted_rows, reads, rows_plan}
use Rattle.icescan_requests.specs.Selections.{selected}
use Rattle.icescan_requests.specs.declared.selection.Selection.{Selection}
use Rattle.ice_state.specs.Contents.{World}
use Rattle.ice_state.specs.Scans.{by_row_path}
use Rattle.icescan_text.specs.Reads.{MayEnd, file_in, rows_at}
use Rattle.icescan_text.specs.Workers.{by_workers}
use Rattle.icescan_text.specs.declared.fault.RunFault.{RunFault}
use Rattle.icescan_text.specs.declared.request.Request.{Request}
use Rattle.icescan_explain.specs.Columns.{columns_in}
use Rattle.icescan_explain.specs.RowsTold.{rows_told}
use Rattle.icescan_explain.specs.declared.manifests.Explanation.{Explanation}

-- what is asked for a request
abbrev pub tests_for : Selection → Request → FilterTests
tests_for selection request = ice_filter_tests selection.specs selection.filter.parts (columns_in request.filter)

-- The plan of these rows, with what became of each manifest, by path, and of its live files; or the refusal of the
-- plan.
unfoldable pub rows_explained : World → Selection → Request → List Row → Result Explanation RunFault
rows_explained world selection request rows = do
  plan ← rows_plan over_wanted_rows world selection.specs selection.filter.parts rows
  Ok (record { plan = plan; verdicts = rows_told (tests_for selection request) world (by_row_path rows) })

-- the same that a request asks for, or the first refusal
unfoldable pub explained : World → List ℕ → Request → Result Explanation RunFault
explained world metadata request = do
  selection ← selected metadata request
  rows ← rows_at world selection.list
  rows_explained world selection request rows

-- the same of the metadata in the file at a path, by so many workers; their number comes before all else
unfoldable pub explained_at : World → List ℕ → Request → ℕ → Result Explanation RunFault
explained_at world path request workers =
    by_workers workers (file_in world path >>= λ metadata. explained world metadata request)

-- What explaining gives where the world is told: the explanation, or its refusal; or another fault, where memory ran
-- out or one of the reads failed that may.
abbrev pub Explains : Option World → (List ℕ → Type 0) → List ℕ → Request → Result Explanation RunFault → Type 0
Explains told may_fail metadata request result = (world : World) → told ≡ Some world →
    IfOk result (λ x. explained world metadata request ≡ Ok x)
    × IfErr result (MayEnd (explained world metadata request) (EndsAt world may_fail (reads world metadata request)) ⊥)
