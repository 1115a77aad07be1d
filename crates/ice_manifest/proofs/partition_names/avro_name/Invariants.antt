use Rattle.std.proofs.Common.{◌≡◌, ◌++◌, flat_map, chars, string_bytes}
use Rattle.ice_manifest.specs.PartitionNames.{spelled, before}
use Rattle.ice_manifest.proofs.partition_names.avro_name.Given as goal

abbrev pub invariant-characters : goal.invariant-characters
invariant-characters l = string_bytes l.said ≡ before (chars l.name) ++ flat_map spelled l.yielded
