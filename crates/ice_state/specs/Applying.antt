-- Which delete files apply to a data file: what an entry is under the rules of `ice_value`.
use Rattle.std.specs.Prelude.{Bool}
use Rattle.ice_value.specs.Applying.{DataKey, DeleteKey, Applies as KeyApplies, applies as key_applies}
use Rattle.ice_manifest_reading.specs.declared.entry.Entry.{Entry}

-- what the rules ask of an entry as a data file, and as a delete file
abbrev pub data_key_of : Entry → DataKey
data_key_of x = record {
  spec_id = x.spec_id;
  tuple = x.file.tuple;
  sequence_number = x.sequence_number;
  path = x.file.path;
}

abbrev pub delete_key_of : Entry → DeleteKey
delete_key_of d = record {
  content = d.file.content;
  spec_id = d.spec_id;
  unpartitioned = d.unpartitioned;
  tuple = d.file.tuple;
  sequence_number = d.sequence_number;
  referenced = d.file.referenced;
}

-- the delete file d applies to the data file x
abbrev pub Applies : Entry → Entry → Type 0
Applies x d = KeyApplies (data_key_of x) (delete_key_of d)

-- the same as a test
abbrev pub applies : Entry → Entry → Bool
applies x d = key_applies (data_key_of x) (delete_key_of d)
