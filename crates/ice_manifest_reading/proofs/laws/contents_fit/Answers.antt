use Rattle.ice_manifest_reading.proofs.Contents.{fits_its_row, is_of_deletes_where_referenced, are_of_their_spec}
use Rattle.ice_manifest_reading.proofs.Contents.{has_a_cell_for_each}
use Rattle.ice_manifest_reading.proofs.laws.contents_fit.Goals as goal

pub returns : goal.returns
returns c = record {
  content = fits_its_row;
  referenced = is_of_deletes_where_referenced;
  spec = are_of_their_spec;
  cells = has_a_cell_for_each;
}
