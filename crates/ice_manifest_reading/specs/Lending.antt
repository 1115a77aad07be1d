-- An entry that is lent.
use Rattle.std.specs.Prelude.{◌≤◌, length, IfSome}
use Rattle.std.specs.Option.{option_copied}
use Rattle.ice_manifest_reading.specs.declared.entry.Entry.{Entry}
use Rattle.ice_manifest_reading.specs.declared.entry.LentEntry.{LentEntry}

-- the entry that it lends
abbrev pub lent : LentEntry → Entry
lent x =
    record {
      position = x.position;
      spec_id = x.spec_id;
      unpartitioned = x.unpartitioned;
      snapshot_id = x.snapshot_id;
      sequence_number = x.sequence_number;
      file_sequence_number = x.file_sequence_number;
      file = record {
        content = x.content;
        format = x.format;
        path = x.path.now;
        tuple = x.tuple.now;
        record_count = x.record_count;
        file_size = x.file_size;
        equality_ids = x.equality_ids.now;
        referenced = option_copied x.referenced;
      };
    }

-- its paths have at most 65,535 bytes
abbrev pub HasShortPaths : LentEntry → Type 0
HasShortPaths x = (length x.path.now ≤ 65535) × IfSome x.referenced (λ path. length path.now ≤ 65535)
