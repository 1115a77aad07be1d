-- What a manifest list counts in a manifest, held against the manifest's entries: Apache Iceberg table spec, version 2,
-- "Manifest Lists".
use Rattle.std.specs.Prelude.{ℤ, pos, Bool, true, not, List, [], ◌∷◌, map, filter, Option, Some, None}
use Rattle.std.specs.Ordering.{int_eq}
use Rattle.ice_manifest_reading.specs.declared.counts.Counts.{Counts}
use Rattle.ice_manifest_reading.specs.declared.row.Row.{Row}
use Rattle.ice_manifest_reading.specs.declared.tally.Tallies.{Tallies}
use Rattle.icescan_audit_findings.specs.declared.finding.Count.{Count}
use Rattle.icescan_audit_findings.specs.declared.finding.Count.TheVariants.{AddedFiles, ExistingFiles, DeletedFiles}
use Rattle.icescan_audit_findings.specs.declared.finding.Count.TheVariants.{AddedRows, ExistingRows, DeletedRows}
use Rattle.icescan_audit_findings.specs.declared.finding.Flaw.{Flaw}
use Rattle.icescan_audit_findings.specs.declared.finding.Flaw.TheVariants.{Miscounted}

-- what the list counts, where the writer did not leave it out
abbrev pub listed : Counts → Count → Option ℤ
listed counts AddedFiles = counts.added_files
listed counts ExistingFiles = counts.existing_files
listed counts DeletedFiles = counts.deleted_files
listed counts AddedRows = counts.added_rows
listed counts ExistingRows = counts.existing_rows
listed counts DeletedRows = counts.deleted_rows

-- how many there are
abbrev pub there_are : Tallies → Count → ℤ
there_are tallies AddedFiles = pos tallies.added.files
there_are tallies ExistingFiles = pos tallies.existing.files
there_are tallies DeletedFiles = pos tallies.deleted.files
there_are tallies AddedRows = tallies.added.rows
there_are tallies ExistingRows = tallies.existing.rows
there_are tallies DeletedRows = tallies.deleted.rows

-- a count is of this number, or there is none
abbrev pub is_borne_out : Option ℤ → ℤ → Bool
is_borne_out None number = true
is_borne_out (Some count) number = int_eq count number

abbrev pub has_all : Counts → Tallies → Count → Bool
has_all counts tallies count = is_borne_out (listed counts count) (there_are tallies count)

-- those of the counts that the list has and that are of another number
abbrev pub miscounted : Counts → Tallies → List Count → List Count
miscounted counts tallies which = filter (λ count. not (has_all counts tallies count)) which

abbrev pub all_counts : List Count
all_counts = AddedFiles ∷ ExistingFiles ∷ DeletedFiles ∷ AddedRows ∷ ExistingRows ∷ DeletedRows ∷ []

-- the counts of a row that the manifest's entries do not bear out
abbrev pub count_flaws : Row → Tallies → List Flaw
count_flaws row tallies = map Miscounted (miscounted row.counts tallies all_counts)
