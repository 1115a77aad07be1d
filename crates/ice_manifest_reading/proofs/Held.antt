-- What a file holds is what reading it gives, and only that.
use Rattle.std.proofs.Common.{◌≡◌, ℕ, ◌^◌, ◌<◌, List, length, None, Ok, refl}
use Rattle.avro_schema.specs.Tree.{Tree, Fields}
use Rattle.avro_file.specs.Value.{Value}
use Rattle.avro_file.specs.Ahead.{running}
use Rattle.avro_file.specs.Holding.{AreWithinLimits}
use Rattle.avro_file.specs.Files.{opened_at, Opened, reader_of, HoldsFile}
use Rattle.ice_manifest_fields.specs.Schemas.{Fault, row_fields}
use Rattle.ice_manifest_reading.specs.ManifestSchemas.{entry_fields}
use Rattle.ice_manifest_reading.specs.Laws.{IsFile, HoldsObjects, GivesHeldRows, GivesHeldEntries}
use Rattle.ice_manifest_reading.proofs.Whole.{reads_rows_exactly, reads_entries_exactly}

-- what containers promise
abbrev pub ReadsHeld : Type 0
ReadsHeld = (s : Tree) (vs : List Value) (bytes : List ℕ) → length bytes < 2 ^ 64 → HoldsFile s vs bytes
    → AreWithinLimits vs → opened_at bytes ≡ Ok (reader_of s vs)

abbrev pub ReadsOnlyHeld : Type 0
ReadsOnlyHeld = (bytes : List ℕ) (o : Opened) (vs : List Value) → opened_at bytes ≡ Ok o → o.ahead ≡ running vs None
    → HoldsFile o.schema vs bytes × AreWithinLimits vs

opened_so : ReadsHeld → (check : Fields → Fault) (bytes : List ℕ) (fs : Fields) (vs : List Value)
    → length bytes < 2 ^ 64 → HoldsObjects check bytes fs vs → IsFile check bytes fs vs None
opened_so read check bytes fs vs short h = (h.0, read h.0 vs bytes short h.1 h.2, h.3, h.4)

held_so : ReadsOnlyHeld → (check : Fields → Fault) (bytes : List ℕ) (fs : Fields) (vs : List Value)
    → IsFile check bytes fs vs None → HoldsObjects check bytes fs vs
held_so only check bytes fs vs h =
    let holds = only bytes (reader_of h.0 vs) vs h.1 refl in
    (h.0, holds.0, holds.1, h.2, h.3)

pub gives_held_rows : ReadsHeld → ReadsOnlyHeld → GivesHeldRows
gives_held_rows read only bytes found short = (
  λ e.
      let h = (reads_rows_exactly bytes found).0 e in
      (h.1.0, h.1.1, h.0, held_so only row_fields bytes h.1.0 h.1.1 h.1.2, h.1.3, h.2, h.3, h.4),
  λ h. (reads_rows_exactly bytes found).1 (
    h.2,
    (h.0, h.1, opened_so read row_fields bytes h.0 h.1 short h.3, h.4),
    h.5,
    h.6,
    h.7,
  ),
)

pub gives_held_entries : ReadsHeld → ReadsOnlyHeld → GivesHeldEntries
gives_held_entries read only row spec bytes found short = (
  λ e.
      let h = (reads_entries_exactly row spec bytes found).0 e in
      (h.0, h.1, h.2, held_so only (entry_fields spec) bytes h.0 h.1 h.3, h.4, h.5),
  λ h. (reads_entries_exactly row spec bytes found).1 (
    h.0,
    h.1,
    h.2,
    opened_so read (entry_fields spec) bytes h.0 h.1
        short h.3,
    h.4,
    h.5,
  ),
)
