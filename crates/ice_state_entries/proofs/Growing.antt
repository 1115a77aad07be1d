-- Entries stay the same where what they share grows.
use Rattle.std.proofs.Common.{◌≡◌, ℕ, ◌<◌, List, length, refl, ap}
use Rattle.std.specs.Prelude.{map, Option, None, Some, IfSome}
use Rattle.std.specs.Option.{option_map}
use Rattle.path_arena.specs.Arena.{string, KeepsNumbers}
use Rattle.ice_manifest_reading.specs.declared.entry.Entry.{Entry}
use Rattle.ice_state_entries.specs.declared.common.Common.{Common}
use Rattle.ice_state_entries.specs.declared.record.Shared.{Shared}
use Rattle.ice_state_entries.specs.CameFrom.{CameFrom}
use Rattle.ice_state_entries.specs.Own.{Own, Row}
use Rattle.ice_state_entries.specs.Sharing.{entry_in, HasShared, IsWithin, AreWithin, KeepsShared}
use Rattle.ice_state_entries.proofs.Lists.{all_weaker, map_same}

-- the entry of a path and a record that share this
abbrev made : Common → CameFrom → Option (List ℕ) → Row → Entry
made common origin referenced row =
    record {
      position = row.1.position;
      spec_id = common.spec_id;
      unpartitioned = common.unpartitioned;
      snapshot_id = origin.snapshot_id;
      sequence_number = origin.sequence_number;
      file_sequence_number = origin.file_sequence_number;
      file = record {
        content = common.content;
        format = common.format;
        path = row.0;
        tuple = common.tuple;
        record_count = row.1.record_count;
        file_size = row.1.file_size;
        equality_ids = common.equality_ids;
        referenced = referenced;
      };
    }

named-keeps : (old new : List (List ℕ)) (r : Option ℕ) → KeepsNumbers old new → IfSome r (λ n. n < length old) →
    option_map (string new) r ≡ option_map (string old) r
named-keeps old new None keeps within = refl
named-keeps old new (Some n) keeps within = ap Some (keeps n within).1

pub entry_in-keeps : (old new : Shared) (row : Row) → KeepsShared old new → IsWithin old row.1 →
    entry_in new row ≡ entry_in old row
entry_in-keeps old new row keeps within =
    let common = (keeps.commons row.1.common within.0).1 in
    let origin = (keeps.origins row.1.origin within.1).1 in
    let referenced = named-keeps old.names new.names row.1.referenced keeps.names within.2 in
    λ i. made (common i) (origin i) (referenced i) row

name_within-keeps : (old new : List (List ℕ)) (r : Option ℕ) → KeepsNumbers old new → IfSome r (λ n. n < length old) →
    IfSome r (λ n. n < length new)
name_within-keeps old new None keeps within = within
name_within-keeps old new (Some n) keeps within = (keeps n within).0

pub within-keeps : (old new : Shared) (r : Own) → KeepsShared old new → IsWithin old r → IsWithin new r
within-keeps old new r keeps within = (
  (keeps.commons r.common within.0).0,
  (keeps.origins r.origin within.1).0,
  name_within-keeps old.names new.names r.referenced keeps.names within.2,
)

pub all_within-keeps : (old new : Shared) (rows : List Row) → KeepsShared old new → AreWithin old rows →
    AreWithin new rows
all_within-keeps old new rows keeps all =
    all_weaker (HasShared old) (HasShared new) (λ row within. within-keeps old new row.1 keeps within) rows all

pub entries-keep : (old new : Shared) (rows : List Row) → KeepsShared old new → AreWithin old rows →
    map (entry_in new) rows ≡ map (entry_in old) rows
entries-keep old new rows keeps all =
    map_same (entry_in new) (entry_in old) (HasShared old) (λ row within. entry_in-keeps old new row keeps within)
    rows all
