use Rattle.ice_catalog_laws.proofs.Squares.{begins, pinned_where}
use Rattle.ice_catalog_laws.proofs.laws.a_scan_begins_with_nothing_taken.Goals as goal

pub returns : goal.returns
returns c = record { pinned = pinned_where; state = begins }
