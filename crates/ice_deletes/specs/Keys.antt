-- What the rules of applying see of a record and of a delete file that is kept, and what is sought.
use Rattle.std.specs.Prelude.{ℕ}
use Rattle.std.specs.Option.{option_copied}
use Rattle.ice_value.specs.Applying.{DeleteKey}
use Rattle.ice_deletes.specs.declared.record.Record.{Record}
use Rattle.ice_deletes.specs.declared.delete.Delete.{Delete}
use Rattle.ice_deletes.specs.declared.keyed.Keyed.{Keyed}
use Rattle.ice_deletes.specs.declared.search_key.SearchKey.{SearchKey}
use Rattle.ice_deletes.specs.Groups.{SortKey}

abbrev pub key_of : Record → DeleteKey
key_of r = record {
  content = r.content;
  spec_id = r.spec_id;
  unpartitioned = r.unpartitioned;
  tuple = r.tuple.now;
  sequence_number = r.sequence_number;
  referenced = option_copied r.referenced;
}

abbrev pub key_in : Delete → DeleteKey
key_in d = record {
  content = d.content;
  spec_id = d.spec_id;
  unpartitioned = d.unpartitioned;
  tuple = d.tuple;
  sequence_number = d.sequence_number;
  referenced = d.referenced;
}

-- a delete file with its number
abbrev pub entry_of : Delete → ℕ × DeleteKey
entry_of d = (d.number, key_in d)

-- a record with its number
abbrev pub entry_of_keyed : Keyed → ℕ × DeleteKey
entry_of_keyed k = (k.number, key_of k.file.now)

abbrev pub sought : SearchKey → SortKey
sought k = record {
  path = option_copied k.path;
  spec_id = k.spec_id;
  tuple = k.tuple.now;
  sequence_number = k.sequence_number;
}
