-- The commits that entries came from.
use Rattle.std.specs.Prelude.{◌≡◌, ℕ, ℤ, ◌<◌, List, length, slice_index_or, Option, None, pos}
use Rattle.ice_manifest_reading.specs.declared.entry.Entry.{Entry}

-- what an entry says of them
pub record CameFrom : Type 0 where
  pub snapshot_id : ℤ
  pub sequence_number : ℕ
  pub file_sequence_number : Option ℕ

abbrev pub origin_in : Entry → CameFrom
origin_in e =
    record {
      snapshot_id = e.snapshot_id;
      sequence_number = e.sequence_number;
      file_sequence_number = e.file_sequence_number;
    }

-- the sequence number is the same
abbrev pub AreOfOneNumber : CameFrom → CameFrom → Type 0
AreOfOneNumber a b = a.sequence_number ≡ b.sequence_number

-- what no number stands for
abbrev pub no_origin : CameFrom
no_origin = record { snapshot_id = pos 0; sequence_number = 0; file_sequence_number = None }

abbrev pub origin_at : List CameFrom → ℕ → CameFrom
origin_at origins n = slice_index_or origins n no_origin

-- this one has the number
abbrev pub IsOriginAt : List CameFrom → ℕ → CameFrom → Type 0
IsOriginAt origins n origin = (n < length origins) × (origin_at origins n ≡ origin)

-- each number stands for the same one as before
abbrev pub KeepsOrigins : List CameFrom → List CameFrom → Type 0
KeepsOrigins old new = (n : ℕ) → n < length old → IsOriginAt new n (origin_at old n)
