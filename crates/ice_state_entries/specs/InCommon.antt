-- What entries have in common.
use Rattle.std.specs.Prelude.{◌≡◌, ℕ, ◌<◌, false, List, [], length, slice_index_or, None, pos}
use Rattle.ice_value.specs.declared.file_content.FileContent.TheVariants.{Data}
use Rattle.ice_manifest_reading.specs.declared.entry.Entry.{Entry}
use Rattle.ice_state_entries.specs.declared.common.Common.{Common}
use Rattle.ice_state_entries.specs.declared.common.LentCommon.{LentCommon}

-- what is lent
abbrev pub common_of : LentCommon → Common
common_of c =
    record {
      content = c.content;
      format = c.format;
      spec_id = c.spec_id;
      unpartitioned = c.unpartitioned;
      tuple = c.tuple.now;
      equality_ids = c.equality_ids.now;
    }

-- what an entry has in common with others
abbrev pub common_in : Entry → Common
common_in e =
    record {
      content = e.file.content;
      format = e.file.format;
      spec_id = e.spec_id;
      unpartitioned = e.unpartitioned;
      tuple = e.file.tuple;
      equality_ids = e.file.equality_ids;
    }

-- the files are of one kind, one format and one spec
abbrev pub IsOfSpec : Common → Common → Type 0
IsOfSpec a b = (a.spec_id ≡ b.spec_id) × (a.unpartitioned ≡ b.unpartitioned) × (a.content ≡ b.content)
    × (a.format ≡ b.format)

-- the partition values and the equality ids are the same
abbrev pub HasListsOf : Common → Common → Type 0
HasListsOf a b = (a.tuple ≡ b.tuple) × (a.equality_ids ≡ b.equality_ids)

-- the files are of one spec and have the same partition values
abbrev pub AreOfPartition : Common → Common → Type 0
AreOfPartition a b = (a.spec_id ≡ b.spec_id) × (a.tuple ≡ b.tuple)

-- what no number stands for
abbrev pub no_common : Common
no_common =
    record { content = Data; format = None; spec_id = pos 0; unpartitioned = false; tuple = []; equality_ids = [] }

abbrev pub common_at : List Common → ℕ → Common
common_at commons n = slice_index_or commons n no_common

-- this one has the number
abbrev pub IsCommonAt : List Common → ℕ → Common → Type 0
IsCommonAt commons n common = (n < length commons) × (common_at commons n ≡ common)

-- each number stands for the same one as before
abbrev pub KeepsCommons : List Common → List Common → Type 0
KeepsCommons old new = (n : ℕ) → n < length old → IsCommonAt new n (common_at old n)
