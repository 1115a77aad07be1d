-- The snapshot log: when which snapshot came to be the current one, the newest entry last (Apache Iceberg table spec
-- v2, "Table Metadata Fields").
use Rattle.std.specs.Prelude.{ℤ, codes, Option, None, Some, option_and_then}
use Rattle.serde_json.specs.Data as json
use Rattle.serde_json.specs.Data.{Data, Items}
use Rattle.serde_json.specs.Find.{get, as_array, as_i64, as_number}
use Rattle.ice_meta.specs.declared.fault.Member.TheVariants as member
use Rattle.ice_meta.specs.Members.{member_name}

-- the last of items that come behind this one
abbrev pub last_behind : Data → Items → Data
last_behind d json.no_items = d
last_behind d (json.item e ds) = last_behind e ds

abbrev pub last_of : Items → Option Data
last_of json.no_items = None
last_of (json.item d ds) = Some (last_behind d ds)

-- the time of an entry in milliseconds, where it is a whole number of 64 bits
abbrev pub time_of : Data → Option ℤ
time_of d = option_and_then as_i64 (option_and_then as_number (get (member_name member.TimestampMs) d))

-- the newest entry of the log of these metadata
abbrev pub newest_entry : Data → Option Data
newest_entry d = option_and_then last_of (option_and_then as_array (get (codes "snapshot-log") d))

-- its time
abbrev pub newest_time : Data → Option ℤ
newest_time d = option_and_then time_of (newest_entry d)
