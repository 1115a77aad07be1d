use Rattle.std.proofs.Common.{◌≡◌, ◌^◌, ◌<◌, ◌≤◌, ◌-◌}
use Rattle.avro_file_parts.specs.Number.{groups_at}
use Rattle.avro_file_parts.proofs.Groups.{with_low}
use Rattle.avro_file_parts.proofs.number.longer_unsigned_of.Given as goal

abbrev pub invariant-groups : goal.invariant-groups
invariant-groups l =
    record {
      read : with_low l.value l.place (groups_at (10 - l.counter) l.rest) ≡ groups_at 10 l.bytes;
      place : l.place ≡ 128 ^ l.counter;
      low : l.value < l.place;
      most : l.counter ≤ 9;
    }
