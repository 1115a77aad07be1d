-- Tallies of the entries of a manifest while they are counted.
use Rattle.std.specs.Prelude.{◌≡◌, ◌≤◌, ℕ, ◌+◌, ◌*◌, ◌^◌, ℤ, pos, ◌+ℤ◌, ◌-ℤ◌, ◌≤ℤ◌, Ok}
use Rattle.avro_file.specs.Picking.{Typed}
use Rattle.ice_manifest_reading.specs.declared.status.Status.{Status}
use Rattle.ice_manifest_reading.specs.declared.status.Status.TheVariants.{Existing, Added, Deleted}
use Rattle.ice_manifest_reading.specs.declared.tally.Tallies.{Tallies}
use Rattle.ice_manifest_reading.specs.declared.tally.Tally.{Tally}
use Rattle.ice_manifest_reading.specs.declared.tally.Counted.{Counted}
use Rattle.ice_manifest_reading.specs.Manifests.{status_at}
use Rattle.ice_manifest_reading.specs.Tallying.{rows_of}

-- what counts of the entry that an object says
pub record IsCountedOf (x : Typed) (counted : Counted) : Type 0 where
  pub status : status_at x ≡ Ok counted.status
  pub rows : counted.rows ≡ rows_of x

-- with one more entry, whose file has this many rows
abbrev pub with_file : ℤ → Tally → Tally
with_file rows t = record { files = t.files + 1; rows = t.rows +ℤ rows }

abbrev pub with_status : Status → ℤ → Tallies → Tallies
with_status Added rows t = record t { added = with_file rows t.added }
with_status Existing rows t = record t { existing = with_file rows t.existing }
with_status Deleted rows t = record t { deleted = with_file rows t.deleted }

abbrev pub with_entry : Counted → Tallies → Tallies
with_entry entry t = with_status entry.status entry.rows t

-- at most so many entries, of which each says a number of 64 bits
pub record IsWithin (n : ℕ) (t : Tally) : Type 0 where
  pub files : t.files ≤ n
  pub low : (pos 0 -ℤ pos (n * 2 ^ 63)) ≤ℤ t.rows
  pub high : t.rows ≤ℤ pos (n * 2 ^ 63)

pub record AreWithin (n : ℕ) (t : Tallies) : Type 0 where
  pub added : IsWithin n t.added
  pub existing : IsWithin n t.existing
  pub deleted : IsWithin n t.deleted
