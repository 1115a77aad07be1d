-- What reads gave is given also where reads may give more.
use Rattle.std.proofs.Common.{ℕ, List, Option}
use Rattle.ice_desk.proofs.Given.{more_given}
use Rattle.ice_desk.specs.Given.{Giving}
use Rattle.ice_state.specs.Lines.{OwnedLine}
use Rattle.ice_state.specs.Scans.{Scanned}
use Rattle.icescan_text.specs.declared.request.Request.{Request}
use Rattle.icescan_text.specs.declared.share.Share.{Share}
use Rattle.icescan_shares.specs.Given.{IsPlanOfStates, IsScanOfGiven, WrotePlanOfStates, WroteShare}

module _ (gives more : Giving) (wider : (path : List ℕ) (found : Option (List ℕ)) → gives path found → more path found)
  where
    more_scan : (metadata : List ℕ) (request : Request) (name : List ℕ) (scan : Scanned)
        → IsScanOfGiven gives metadata request name scan → IsScanOfGiven more metadata request name scan
    more_scan metadata request name scan is = record {
      selection = is.selection;
      asked = is.asked;
      list = is.list;
      read = wider is.selection.list _ is.read;
      scan_is = is.scan_is;
      name_is = is.name_is;
    }

    pub more_share : (path : List ℕ) (request : Request) (share : Share) (o o' : Option (List ℕ))
        → WroteShare gives path request share o o' → WroteShare more path request share o o'
    more_share path request share o o' (metadata, read, bytes, is, wrote) = (
      metadata,
      wider path _ read,
      bytes,
      record {
        name = is.name;
        scan = is.scan;
        of_request = more_scan metadata request is.name is.scan is.of_request;
        content = is.content;
        of_scan = is.of_scan;
        whole = is.whole;
        given = more_given gives more wider is.scan is.scan.wanted is.content is.given;
        is = is.is;
      },
      wrote,
    )

    pub more_states : (kept : Giving) (metadata : List ℕ) (request : Request) (paths : List (List ℕ))
        (plan : List OwnedLine) → IsPlanOfStates gives kept metadata request paths plan
        → IsPlanOfStates more kept metadata request paths plan
    more_states kept metadata request paths plan is = record {
      name = is.name;
      scan = is.scan;
      of_request = more_scan metadata request is.name is.scan is.of_request;
      content = is.content;
      of_states = is.of_states;
      is = is.is;
    }

    pub more_finished : (kept : Giving) (path : List ℕ) (request : Request) (paths : List (List ℕ))
        (o o' : Option (List ℕ)) → WrotePlanOfStates gives kept path request paths o o'
        → WrotePlanOfStates more kept path request paths o o'
    more_finished kept path request paths o o' (metadata, read, wrote) = (
      metadata,
      wider path _ read,
      (wrote.0, more_states kept metadata request paths wrote.0 wrote.1, wrote.2),
    )
