-- What entries share: what many have in common, the commits that they came from, and the paths that position deletes
-- name.
use Rattle.std.specs.Prelude.{◌<◌, List, length, IfSome}
use Rattle.std.specs.List.{AllByRecursion}
use Rattle.std.specs.Option.{option_map}
use Rattle.path_arena.specs.Arena.{string, KeepsNumbers}
use Rattle.ice_manifest_reading.specs.declared.entry.Entry.{Entry}
use Rattle.ice_state_entries.specs.declared.record.Shared.{Shared}
use Rattle.ice_state_entries.specs.CameFrom.{origin_at, KeepsOrigins}
use Rattle.ice_state_entries.specs.InCommon.{common_at, KeepsCommons}
use Rattle.ice_state_entries.specs.Own.{Own, Row}

-- the entry of a path and a record
abbrev pub entry_in : Shared → Row → Entry
entry_in shared row =
    let common = common_at shared.commons row.1.common in let origin = origin_at shared.origins row.1.origin in
    record {
      position = row.1.position;
      spec_id = common.spec_id;
      unpartitioned = common.unpartitioned;
      snapshot_id = origin.snapshot_id;
      sequence_number = origin.sequence_number;
      file_sequence_number = origin.file_sequence_number;
      file = record {
        content = common.content;
        format = common.format;
        path = row.0;
        tuple = common.tuple;
        record_count = row.1.record_count;
        file_size = row.1.file_size;
        equality_ids = common.equality_ids;
        referenced = option_map (string shared.names) row.1.referenced;
      };
    }

-- what a record shares is there
abbrev pub IsWithin : Shared → Own → Type 0
IsWithin shared r =
    (r.common < length shared.commons) × (r.origin < length shared.origins) ×
    IfSome r.referenced (λ n. n < length shared.names)

abbrev pub HasShared : Shared → Row → Type 0
HasShared shared row = IsWithin shared row.1

abbrev pub AreWithin : Shared → List Row → Type 0
AreWithin shared rows = AllByRecursion (HasShared shared) rows

-- each number stands for the same as before
pub record KeepsShared (old new : Shared) : Type 0 where
  pub commons : KeepsCommons old.commons new.commons
  pub origins : KeepsOrigins old.origins new.origins
  pub names : KeepsNumbers old.names new.names
