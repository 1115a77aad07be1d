-- The entries of a row as a part of a section, and which entries the manifest of a row may have.
use Rattle.std.specs.Prelude.{ℕ, ◌-◌, ◌^◌, ℤ, List, [], ◌∷◌, ◌++◌, length, Bool, true, false, ◌&&◌}
use Rattle.std.specs.Prelude.{Option, Some, None, Ok, Err, nat_lt, nat_le, ◌==◌, if◌then◌else◌}
use Rattle.std.specs.Prelude.{◌≤◌, slice_get, IsTrue, IfSome}
use Rattle.std.specs.Ordering.{int_eq}
use Rattle.std.specs.Str.{is_utf8}
use Rattle.std.proofs.Math.Bool.{beq}
use Rattle.contract_words.specs.Outcome.{◌>>=◌}
use Rattle.ice_value.specs.declared.file_content.FileContent.{FileContent}
use Rattle.ice_value.specs.declared.file_content.FileContent.TheVariants as holds
use Rattle.ice_meta.specs.declared.spec.Spec.{Spec}
use Rattle.ice_meta.specs.Partitioning.{is_unpartitioned}
use Rattle.ice_manifest_reading.specs.declared.row.Row.{Row}
use Rattle.ice_manifest_reading.specs.declared.row.ManifestContent.{ManifestContent}
use Rattle.ice_manifest_reading.specs.declared.row.ManifestContent.TheVariants.{Data, Deletes}
use Rattle.ice_manifest_reading.specs.declared.data_file.DataFile.{DataFile}
use Rattle.ice_manifest_reading.specs.declared.entry.Entry.{Entry}
use Rattle.ice_state_sections.specs.declared.before.Before.{Before}
use Rattle.ice_state_sections.specs.declared.section_fault.SectionFault.TheVariants.{NoSection, NotOfRow}
use Rattle.ice_state_sections.specs.Parts.{Read, number, long, truth, optional, behind}
use Rattle.ice_state_sections.specs.Files.{file}

-- ---- what is known of an entry before it is read

pub record Known : Type 0 where
  -- the position of the entry before it
  pub position : Option ℕ
  pub snapshot_id : ℤ
  pub path : List ℕ

-- of the entry before; at the first one, of the row
abbrev pub known_from : Row → Option Entry → Known
known_from row None = record { position = None; snapshot_id = row.added_snapshot_id; path = [] }
known_from row (Some e) = record { position = Some e.position; snapshot_id = e.snapshot_id; path = e.file.path }

-- behind these entries
unfoldable pub known : Row → List Entry → Known
known row front = known_from row (slice_get front (length front - 1))

-- what is known, wherever it lies in memory
abbrev pub seen : Before → Known
seen b = record { position = b.position; snapshot_id = b.snapshot_id; path = b.path.now }

-- ---- what the manifest of a row may have

-- data in a manifest of data, and deletes of either kind in one of deletes
abbrev pub content_fits : ManifestContent → FileContent → Bool
content_fits Data holds.Data = true
content_fits Deletes holds.PositionDeletes = true
content_fits Deletes holds.EqualityDeletes = true
content_fits of_row content = false

-- a text of at most 65,535 bytes
abbrev pub is_path : List ℕ → Bool
is_path path = nat_le (length path) 65535 && is_utf8 path

-- position deletes may name the file that they are about
abbrev pub reference_fits : FileContent → Option (List ℕ) → Bool
reference_fits content None = true
reference_fits holds.PositionDeletes (Some path) = is_path path
reference_fits content (Some path) = false

-- with so many partition values
abbrev pub file_fits : ManifestContent → ℕ → DataFile → Bool
file_fits of_row values f =
    content_fits of_row f.content && is_path f.path && (length f.tuple == values)
    && reference_fits f.content f.referenced

-- the position is behind that of the entry before, where there is one
abbrev pub is_behind : Option ℕ → ℕ → Bool
is_behind None position = true
is_behind (Some before) position = nat_lt before position

-- the manifest of the row may have the entry behind one of which this is known
unfoldable pub fits : Row → Spec → Known → Entry → Bool
fits row spec before e =
    is_behind before.position e.position && int_eq e.spec_id row.spec_id
    && beq e.unpartitioned (is_unpartitioned spec) && file_fits row.content (length spec.fields) e.file

-- the manifest of the row may have the entries behind those of the front
unfoldable pub are_behind : Row → Spec → List Entry → List Entry → Bool
are_behind row spec front [] = true
are_behind row spec front (e ∷ es) = fits row spec (known row front) e && are_behind row spec (front ++ e ∷ []) es

-- the manifest of the row may have these entries, in this order
abbrev pub AreOfRow : Row → Spec → List Entry → Type 0
AreOfRow row spec es = IsTrue (are_behind row spec [] es)

-- the paths of the entry's file have at most 65,535 bytes
abbrev pub HasShortPaths : Entry → Type 0
HasShortPaths e = (length e.file.path ≤ 65535) × IfSome e.file.referenced (λ path. length path ≤ 65535)

-- ---- reading

-- the snapshot that is known, or another
unfoldable pub snapshot : ℤ → List ℕ → Read ℤ
snapshot same bytes = do
  other ← truth bytes
  if other.0 then long other.1 else Ok (same, other.1)

-- a sequence number
unfoldable pub sequence : List ℕ → Read ℕ
sequence bytes = do
  n ← number bytes
  if nat_lt n.0 (2 ^ 63) then Ok n else Err NoSection

-- an entry that was read, where the manifest of the row may have it
abbrev pub checked : Row → Spec → Known → Entry → List ℕ → Read Entry
checked row spec before e rest = if fits row spec before e then Ok (e, rest) else Err NotOfRow

-- an entry of a row, behind one of which this is known
unfoldable pub entry_behind : Row → Spec → Known → List ℕ → Read Entry
entry_behind row spec before bytes = do
  position ← number bytes
  of ← snapshot before.snapshot_id position.1
  commit ← sequence of.1
  added ← optional sequence commit.1
  said ← file (length spec.fields) before.path added.1
  checked row spec before (record {
    position = position.0;
    spec_id = row.spec_id;
    unpartitioned = is_unpartitioned spec;
    snapshot_id = of.0;
    sequence_number = commit.0;
    file_sequence_number = added.0;
    file = said.0;
  }) said.1

-- the entry behind these
abbrev pub entry : Row → Spec → List Entry → List ℕ → Read Entry
entry row spec front bytes = entry_behind row spec (known row front) bytes

-- how many entries, and these
unfoldable pub entries : Row → Spec → List ℕ → Read (List Entry)
entries row spec bytes = do
  count ← number bytes
  behind (entry row spec) count.0 [] count.1
