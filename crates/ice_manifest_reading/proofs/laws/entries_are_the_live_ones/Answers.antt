use Rattle.ice_manifest_reading.proofs.Whole.{reads_entries_exactly}
use Rattle.ice_manifest_reading.proofs.Held.{gives_held_entries}
use Rattle.ice_manifest_reading.proofs.laws.entries_are_the_live_ones.Goals as goal

pub returns : goal.returns
returns c = record {
  exactly = reads_entries_exactly;
  held = gives_held_entries c.held_is_read.ensures.read
      c.held_is_read.ensures.only;
}
