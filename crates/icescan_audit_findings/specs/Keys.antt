-- What delete files go by, of live files.
use Rattle.std.specs.Prelude.{Option, Some, None, Box, if◌then◌else◌}
use Rattle.std.specs.Global.{Global}
use Rattle.ice_manifest_reading.specs.declared.entry.Entry.{Entry}
use Rattle.icescan_audit_findings.specs.declared.basis.Basis.{Basis}
use Rattle.icescan_audit_findings.specs.declared.file_key.FileKey.{FileKey}

-- the key, where it is kept
abbrev pub key_kept : Option (Box FileKey Global) → Option FileKey
key_kept (Some key) = Some key.value
key_kept None = None

-- the key of a live entry's file
abbrev pub file_key : Entry → FileKey
file_key x = record {
  content = x.file.content;
  spec_id = x.spec_id;
  unpartitioned = x.unpartitioned;
  tuple = x.file.tuple;
  sequence_number = x.sequence_number;
  referenced = x.file.referenced;
}

-- It is kept where the snapshot has delete files.
abbrev pub key_of : Basis → Entry → Option FileKey
key_of basis x = if basis.has_deletes then Some (file_key x) else None
