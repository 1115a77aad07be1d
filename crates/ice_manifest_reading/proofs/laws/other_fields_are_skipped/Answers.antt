use Rattle.ice_manifest_reading.proofs.Alike.{skips_other_fields_of_entries, skips_other_fields_of_rows}
use Rattle.ice_manifest_reading.proofs.laws.other_fields_are_skipped.Goals as goal

pub returns : goal.returns
returns c = record { entries = skips_other_fields_of_entries; rows = skips_other_fields_of_rows }
