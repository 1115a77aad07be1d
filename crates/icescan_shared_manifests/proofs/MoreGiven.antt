-- What reads gave is given also where reads may give more.
use Rattle.std.proofs.Common.{ℕ, List, Option}
use Rattle.ice_desk.specs.Given.{Giving}
use Rattle.icescan_requests.proofs.GivenPlans.{more_rows}
use Rattle.icescan_requests.specs.GivenPlans.{AreSelectedOfGiven}
use Rattle.icescan_requests.specs.declared.selected_rows.SelectedRows.{SelectedRows}
use Rattle.icescan_text.specs.declared.request.ChangesRequest.{ChangesRequest}
use Rattle.icescan_text.specs.declared.request.Request.{Request}
use Rattle.icescan_shared_manifests.specs.GivenBoth.{AreBothOfGiven}
use Rattle.icescan_shared_manifests.specs.declared.both_rows.BothRows.{BothRows}

module _ (gives more : Giving) (wider : (path : List ℕ) (found : Option (List ℕ)) → gives path found → more path found)
    (metadata : List ℕ) where
  more_selected : (request : Request) (found : SelectedRows) → AreSelectedOfGiven gives metadata request found
      → AreSelectedOfGiven more metadata request found
  more_selected request found is = record {
    selection = is.selection;
    asked = is.asked;
    listed = more_rows gives more wider is.selection.list found.rows is.listed;
    specs_are = is.specs_are;
    filter_is = is.filter_is;
  }

  pub more_both : (request : ChangesRequest) (both : BothRows) → AreBothOfGiven gives metadata request both
      → AreBothOfGiven more metadata request both
  more_both request both is = record {
    earlier = is.earlier;
    earlier_is = more_selected request.earlier is.earlier is.earlier_is;
    later = is.later;
    later_is = more_selected request.later is.later is.later_is;
    is = is.is;
  }
