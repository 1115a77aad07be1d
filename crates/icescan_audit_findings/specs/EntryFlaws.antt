-- What a manifest says of a live entry and of its file and what can't be: Apache Iceberg table spec, version 2,
-- "Manifests".
use Rattle.std.specs.Prelude.{ℤ, pos, int_lt, nat_lt, Bool, true, false, ◌||◌, List, [], ◌++◌, is_none}
use Rattle.ice_value.specs.declared.file_content.FileContent.{FileContent}
use Rattle.ice_value.specs.declared.file_content.FileContent.TheVariants.{EqualityDeletes}
use Rattle.ice_manifest_reading.specs.declared.data_file.DataFile.{DataFile}
use Rattle.ice_manifest_reading.specs.declared.entry.Entry.{Entry}
use Rattle.ice_manifest_reading.specs.declared.row.Row.{Row}
use Rattle.icescan_audit_findings.specs.declared.finding.EntryFlaw.{EntryFlaw}
use Rattle.icescan_audit_findings.specs.declared.finding.EntryFlaw.TheVariants.{AboveManifest, NegativeSize}
use Rattle.icescan_audit_findings.specs.declared.finding.EntryFlaw.TheVariants.{NoEqualityIds, UnknownFormat}
use Rattle.icescan_audit_findings.specs.declared.finding.Flaw.{Flaw}
use Rattle.icescan_audit_findings.specs.declared.finding.Flaw.TheVariants.{OfEntry}
use Rattle.icescan_audit_findings.specs.Flaws.{flaw_where}

-- a file of this content deletes by the values of columns, and these are none
abbrev pub deletes_by_none : FileContent → List ℤ → Bool
deletes_by_none EqualityDeletes [] = true
deletes_by_none _ _ = false

-- the file has fewer than no rows, or than no bytes
abbrev pub has_negative_size : DataFile → Bool
has_negative_size file = int_lt file.record_count (pos 0) || int_lt file.file_size (pos 0)

-- the entry has this flaw beside its row
abbrev pub has_flaw : EntryFlaw → Row → Entry → Bool
has_flaw AboveManifest row x = nat_lt row.sequence_number x.sequence_number
has_flaw NoEqualityIds row x = deletes_by_none x.file.content x.file.equality_ids
has_flaw NegativeSize row x = has_negative_size x.file
has_flaw UnknownFormat row x = is_none x.file.format

abbrev pub entry_flaw : EntryFlaw → Row → Entry → List Flaw
entry_flaw flaw row x = flaw_where (has_flaw flaw row x) (OfEntry flaw)

-- what is wrong with the entry, in this order
abbrev pub entry_flaws : Row → Entry → List Flaw
entry_flaws row x = entry_flaw AboveManifest row x ++ (entry_flaw NoEqualityIds row x
    ++ (entry_flaw NegativeSize row x ++ entry_flaw UnknownFormat row x))
