use Rattle.std.proofs.Common.{◌≡◌, ◌+◌, ◌≤◌}
use Rattle.avro_file.specs.Ahead.{Ahead, still_ahead}
use Rattle.avro_file.specs.Files.{ahead, type_of}
use Rattle.avro_file_picked.specs.Finding.{layout_tree}
use Rattle.avro_file_picked.specs.Placing.{FitsLayout}
use Rattle.ice_manifest_fields.specs.Schemas.{fields_in}
use Rattle.ice_manifest_reading.specs.Manifests.{entries_ahead}
use Rattle.ice_manifest_reading.specs.Collecting.{given_of, kept_each, told_each}
use Rattle.ice_manifest_reading.specs.Tallying.{tallies_in, objects_ahead}
use Rattle.ice_manifest_reading.specs.Counted.{AreWithin}
use Rattle.ice_manifest_fields.proofs.Joining.{joined}
use Rattle.ice_manifest_reading.proofs.Counting.{with_tallies}
use Rattle.ice_manifest_reading.proofs.manifest.all_entries.Given as goal

abbrev pub invariant-objects : goal.invariant-objects
invariant-objects g l =
    let tells = told_each (g.T.Tell.told l.asked.tell.now) in
    let keeps = kept_each (g.K.Keep.kept l.asked.keep.now) in
    let gathered = g.G.Gather.gathered in
    let now = entries_ahead l.source.row.now l.source.spec.now (fields_in (layout_tree l.layout)) l.position
    (ahead l.reader) in
    let first = entries_ahead l.source.row.now l.source.spec.now (fields_in (layout_tree l.layout)) 0
    (ahead l.initial.reader) in
    let objects = λ (those : Ahead). tallies_in (objects_ahead (fields_in (layout_tree l.layout)) those) in
    record {
      told : joined l.told.items (given_of tells now) ≡ given_of tells first;
      gathered : joined (gathered l.gather) (given_of keeps now) ≡ joined (gathered l.fn.gather) (given_of keeps first);
      kept : g.G.Gather.keeps l.fn.gather l.gather;
      tallied : with_tallies l.tallies (objects (ahead l.reader)) ≡ objects (ahead l.initial.reader);
      within : AreWithin l.position l.tallies;
      few : l.position + still_ahead (ahead l.reader) ≤ still_ahead (ahead l.initial.reader);
      schema : layout_tree l.layout ≡ type_of l.reader;
      fits : FitsLayout l.layout l.places;
    }

abbrev pub decreases-objects : goal.decreases-objects
decreases-objects g l = still_ahead (ahead l.reader)
