use Rattle.ice_manifest_reading.proofs.Sets.{gives_the_rows, refuses_two, refuses_the_least}
use Rattle.ice_manifest_reading.proofs.Whole.{reads_rows_exactly}
use Rattle.ice_manifest_reading.proofs.Held.{gives_held_rows}
use Rattle.ice_manifest_reading.proofs.laws.rows_are_a_set.Goals as goal

pub returns : goal.returns
returns c = record {
  exactly = reads_rows_exactly;
  held = gives_held_rows c.held_is_read.ensures.read c.held_is_read.ensures.only;
  same = gives_the_rows;
  twice = refuses_two;
  least = refuses_the_least;
}
