use Rattle.std.proofs.Common.{◌≡◌, ◌+◌, vec_len}
use Rattle.std.specs.Prelude.{sum}
use Rattle.ice_catalog_book.proofs.catalog.seated.Given as goal

abbrev pub invariant-loop-seat : goal.invariant-loop-seat
invariant-loop-seat g l = record {
  parts : l.all.parts + l._seat ≡ l.count;
  amount : l.all.amount ≡ 0;
  seats : vec_len l.seats ≡ l._seat;
  none : sum l.seats.items ≡ 0;
}
