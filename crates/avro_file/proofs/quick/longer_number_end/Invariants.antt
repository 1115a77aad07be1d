use Rattle.avro_file_parts.proofs.NumberPlaces.{GroupsUpTo}
use Rattle.avro_file.proofs.quick.longer_number_end.Given as goal

abbrev pub invariant-groups : goal.invariant-groups
invariant-groups l = GroupsUpTo l.bytes l.at l.counter l.here
