-- Entries that are kept, as what they share and their rows.
use Rattle.std.specs.Prelude.{map}
use Rattle.ice_state_entries.specs.declared.record.Shared.{Shared}
use Rattle.ice_state_entries.specs.Kept.{Kept}
use Rattle.ice_state_entries.specs.Sharing.{entry_in, AreWithin}
use Rattle.ice_state_entries.specs.Tables.{Rows}

abbrev pub kept_of : Shared → Rows → Kept
kept_of shared rows =
    record {
      records = map (entry_in shared) rows.records;
      clashes = map (entry_in shared) rows.clashes;
    }

-- what the rows share is there
abbrev pub HasAllOf : Shared → Rows → Type 0
HasAllOf shared rows = AreWithin shared rows.records × AreWithin shared rows.clashes
