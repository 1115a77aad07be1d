use Rattle.ice_manifest_reading.proofs.Told.{tells_the_first_row, tells_the_lists_end, tells_the_first_entry}
use Rattle.ice_manifest_reading.proofs.Told.{tells_the_manifests_end}
use Rattle.ice_manifest_reading.proofs.laws.first_faults_are_told.Goals as goal

pub returns : goal.returns
returns c = record {
  row = tells_the_first_row;
  list_end = tells_the_lists_end;
  entry = tells_the_first_entry;
  manifest_end = tells_the_manifests_end;
}
