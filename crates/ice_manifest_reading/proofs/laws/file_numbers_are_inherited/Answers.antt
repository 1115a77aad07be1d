use Rattle.ice_manifest_reading.proofs.Said.{keeps_its_file_number, inherits_the_rows_for_its_file, has_no_file_number}
use Rattle.ice_manifest_reading.proofs.Said.{has_zero_for_its_file}
use Rattle.ice_manifest_reading.proofs.laws.file_numbers_are_inherited.Goals as goal

pub returns : goal.returns
returns c = record {
  own = keeps_its_file_number;
  added = inherits_the_rows_for_its_file;
  existing = has_no_file_number;
  zero = has_zero_for_its_file;
}
