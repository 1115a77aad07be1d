use Rattle.ice_catalog_laws.proofs.Counts.{counts_add_up, events_on, receipt_has_number, seat_is_seen}
use Rattle.ice_catalog_laws.proofs.laws.commits_are_counted.Goals as goal

pub returns : goal.returns
returns c = record {
  journal = events_on;
  receipt = receipt_has_number;
  all_seats = counts_add_up;
  one_seat = seat_is_seen;
}
