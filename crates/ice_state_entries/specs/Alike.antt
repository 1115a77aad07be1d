-- Entries of a kind.
use Rattle.std.specs.Prelude.{◌≡◌}
use Rattle.ice_manifest_reading.specs.declared.entry.Entry.{Entry}
use Rattle.ice_state_entries.specs.declared.common.Common.{Common}

-- the files of two entries hold the same and are of one spec, with the same partition values and the same sequence
-- number
pub record AreAlike (a b : Entry) : Type 0 where
  pub content : a.file.content ≡ b.file.content
  pub spec : a.spec_id ≡ b.spec_id
  pub tuple : a.file.tuple ≡ b.file.tuple
  pub number : a.sequence_number ≡ b.sequence_number

-- the files hold the same, are of one spec and have the same partition values
abbrev pub AreOfKind : Common → Common → Type 0
AreOfKind a b = (a.content ≡ b.content) × (a.spec_id ≡ b.spec_id) × (a.tuple ≡ b.tuple)
