use Rattle.std.proofs.Common.{◌≡◌, take, map}
use Rattle.std.specs.List.{AllByRecursion}
use Rattle.avro_file.specs.Value.{small}
use Rattle.avro_file.specs.View.{views}
use Rattle.ice_manifest.specs.Adding.{IsId}
use Rattle.ice_manifest.proofs.written_entries.some_ids.Given as goal

abbrev pub invariant-ids : goal.invariant-ids
invariant-ids l = record {
  value : views l.values.items ≡ map small (take l.id-index l.ids);
  fits : AllByRecursion IsId (take l.id-index l.ids);
}
