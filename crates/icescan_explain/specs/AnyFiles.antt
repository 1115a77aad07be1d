-- What an explanation says over any files, also those that tell no world, as they may change from one read to the next.
use Rattle.std.specs.Prelude.{◌≡◌, ℕ, List, Ok}
use Rattle.std.specs.List.Sorted.{IsPermutation}
use Rattle.ice_manifest_reading.specs.declared.row.Row.{Row}
use Rattle.ice_desk.specs.Given.{Giving}
use Rattle.icescan_requests.specs.GivenPlans.{IsRowsPlanOfGiven}
use Rattle.icescan_requests.specs.Selections.{selected}
use Rattle.icescan_requests.specs.declared.selection.Selection.{Selection}
use Rattle.ice_state.specs.Scans.{by_row_path}
use Rattle.icescan_text.specs.Reads.{AreRowsGiven}
use Rattle.icescan_text.specs.declared.request.Request.{Request}
use Rattle.icescan_explain.specs.Explanations.{tests_for}
use Rattle.icescan_explain.specs.RowsTold.{AreToldOf}
use Rattle.icescan_explain.specs.Told.{paths_kept, paths_planned}
use Rattle.icescan_explain.specs.declared.manifests.Explanation.{Explanation}

-- An explanation of the plan that a request asks for of the table whose metadata these are the bytes of: a read gave
-- the manifest list, and of each wanted row's manifest a read gave the bytes. The plan is that of such bytes, and the data
-- files that are told as kept are those of the plan.
pub record IsAnExplanation (gives : Giving) (metadata : List ℕ) (request : Request) (x : Explanation) : Type 0 where
  pub selection : Selection
  pub rows : List Row
  pub asked : selected metadata request ≡ Ok selection
  pub listed : AreRowsGiven gives selection.list rows
  pub planned : IsRowsPlanOfGiven gives selection.specs selection.filter.parts rows x.plan
  pub told : AreToldOf gives (tests_for selection request) (by_row_path rows) x.verdicts
  pub kept : IsPermutation (paths_kept x.verdicts) (paths_planned x.plan)
