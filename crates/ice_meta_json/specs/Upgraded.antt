-- The metadata of a table that was upgraded from format version 1 (Apache Iceberg table spec v2, "Snapshots" and
-- "Appendix E: Format version changes", Version 2). Version 1 leaves out the sequence number of a snapshot, and 0 is
-- read. What is kept of the metadata has the number of each snapshot, since version 2 writes it.
use Rattle.std.specs.Prelude.{◌≡◌, ◌&&◌, ◌||◌, ℕ, List, Bool, false, not, if◌then◌else◌, codes}
use Rattle.std.specs.Option.{is_some}
use Rattle.serde_json.specs.Data as json
use Rattle.serde_json.specs.Data.{Data, Items}
use Rattle.serde_json.specs.Find.{get, as_object}
use Rattle.ice_meta_json.specs.Objects.{natural, inside, set, items_of}

-- the names of the two members
abbrev pub snapshots : List ℕ
snapshots = codes "snapshots"

abbrev pub sequence_number : List ℕ
sequence_number = codes "sequence-number"

-- an object that leaves out its sequence number
abbrev pub lacks_number : Data → Bool
lacks_number d = is_some (as_object d) && not (is_some (get sequence_number d))

abbrev pub some_lacks : Items → Bool
some_lacks json.no_items = false
some_lacks (json.item d ds) = lacks_number d || some_lacks ds

-- a snapshot with its number: 0 where it is left out
abbrev pub numbered : Data → Data
numbered d = if lacks_number d then set sequence_number (natural 0) d else d

abbrev pub each_numbered : Items → Items
each_numbered json.no_items = json.no_items
each_numbered (json.item d ds) = json.item (numbered d) (each_numbered ds)

-- the snapshots of a metadata document
abbrev pub snapshot_items : Data → Items
snapshot_items d = items_of (inside snapshots d)

-- the document with the number of each snapshot; all else stays
unfoldable pub filled : Data → Data
filled d =
    if some_lacks (snapshot_items d) then set snapshots (json.array (each_numbered (snapshot_items d))) d else d

-- no snapshot of the document leaves out its number
abbrev pub IsFilled : Data → Type 0
IsFilled d = some_lacks (snapshot_items d) ≡ false
