-- What is told of bytes that reads gave.
use Rattle.std.proofs.Common.{ℕ, List, Option}
use Rattle.ice_desk.specs.Given.{Giving}
use Rattle.icescan_changes.specs.Answers.{AreChangesOfBoth, AreChangesOfGiven}
use Rattle.icescan_forms.specs.declared.format.Format.{Format}
use Rattle.icescan_requests.proofs.GivenPlans.{more_rows_plans}
use Rattle.icescan_shared_manifests.proofs.MoreGiven.{more_both}
use Rattle.icescan_shared_manifests.specs.declared.both_rows.BothRows.{BothRows}
use Rattle.icescan_text.specs.declared.request.ChangesRequest.{ChangesRequest}

module _ (gives more : Giving) (wider : (path : List ℕ) (found : Option (List ℕ)) → gives path found → more path found)
    (form : Format) where
  between : (both : BothRows) (text : List ℕ) → AreChangesOfBoth form gives both text
      → AreChangesOfBoth form more both text
  between both text is = record {
    earlier = is.earlier;
    earlier_is = more_rows_plans gives more wider both.earlier.specs both.earlier.filter.parts both.earlier.rows
        is.earlier is.earlier_is;
    later = is.later;
    later_is = more_rows_plans gives more wider both.later.specs both.later.filter.parts both.later.rows is.later
        is.later_is;
    is = is.is;
  }

  pub more_changes : (metadata : List ℕ) (request : ChangesRequest) (text : List ℕ)
      → AreChangesOfGiven form gives metadata request text → AreChangesOfGiven form more metadata request text
  more_changes metadata request text is = record {
    follows = is.follows;
    both = is.both;
    both_is = more_both gives more wider metadata request is.both is.both_is;
    told = between is.both text is.told;
  }
