-- The rows that are planned of both snapshots, over files that may change from one read to the next.
use Rattle.std.specs.Prelude.{◌≡◌, ℕ, List}
use Rattle.ice_desk.specs.Given.{Giving}
use Rattle.icescan_requests.specs.GivenPlans.{AreSelectedOfGiven}
use Rattle.icescan_requests.specs.declared.selected_rows.SelectedRows.{SelectedRows}
use Rattle.icescan_text.specs.declared.request.ChangesRequest.{ChangesRequest}
use Rattle.icescan_shared_manifests.specs.Both.{leaves_out, planned_of}
use Rattle.icescan_shared_manifests.specs.declared.both_rows.BothRows.{BothRows}

-- reads of both manifest lists gave them
pub record AreBothOfGiven (gives : Giving) (metadata : List ℕ) (request : ChangesRequest) (both : BothRows)
    : Type 0 where
  pub earlier : SelectedRows
  pub earlier_is : AreSelectedOfGiven gives metadata request.earlier earlier
  pub later : SelectedRows
  pub later_is : AreSelectedOfGiven gives metadata request.later later
  pub is : both ≡ planned_of (leaves_out request earlier later) earlier later
