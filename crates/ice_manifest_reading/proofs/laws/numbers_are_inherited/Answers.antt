use Rattle.ice_manifest_reading.proofs.Said.{keeps_its_number, inherits_the_rows, needs_its_own, has_zero_under_zero}
use Rattle.ice_manifest_reading.proofs.laws.numbers_are_inherited.Goals as goal

pub returns : goal.returns
returns c = record {
  own = keeps_its_number;
  added = inherits_the_rows;
  existing = needs_its_own;
  zero = has_zero_under_zero;
}
