use Rattle.ice_manifest_reading.proofs.Absent.{is_zero_where_absent, is_refused_where_null, has_rows_of_version_one}
use Rattle.ice_manifest_reading.proofs.Absent.{has_files_of_version_one}
use Rattle.ice_manifest_reading.proofs.laws.absent_fields_are_zero.Goals as goal

pub returns : goal.returns
returns c = record {
  absent = is_zero_where_absent;
  null = is_refused_where_null;
  row = has_rows_of_version_one;
  file = has_files_of_version_one;
}
