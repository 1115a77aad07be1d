-- What a manifest list's row says of its manifest, held against the manifest, its spec and its snapshot: Apache Iceberg
-- table spec, version 2, "Manifests" (the metadata of a manifest) and "Manifest Lists".
use Rattle.std.specs.Prelude.{ℕ, pos, nat_lt, Bool, false, not, ◌==◌, List, [], ◌∷◌, ◌++◌, length, drop, codes}
use Rattle.std.specs.Prelude.{Option, Some, None, Result, Ok, Err, if◌then◌else◌}
use Rattle.std.specs.Fmt.{signed_decimal}
use Rattle.std.specs.Ordering.{int_eq}
use Rattle.std.specs.Str.{bytes_eq}
use Rattle.contract_words.specs.Outcome.{◌>>=◌}
use Rattle.avro_file_parts.specs.Parts.{Read}
use Rattle.avro_file_parts.specs.declared.refusal.Refusal.{Refusal}
use Rattle.avro_file.specs.Header.{Property, last_under, properties_at}
use Rattle.ice_value.specs.declared.file_bounds.Summary.{Summary}
use Rattle.ice_meta.specs.declared.spec.Spec.{Spec}
use Rattle.ice_manifest_reading.specs.declared.row.ManifestContent.{ManifestContent}
use Rattle.ice_manifest_reading.specs.declared.row.ManifestContent.TheVariants.{Data, Deletes}
use Rattle.ice_manifest_reading.specs.declared.row.Row.{Row}
use Rattle.ice_state.specs.Specs.{spec_of}
use Rattle.icescan_audit_findings.specs.declared.basis.Basis.{Basis}
use Rattle.icescan_audit_findings.specs.declared.finding.Finding.{Finding}
use Rattle.icescan_audit_findings.specs.declared.finding.Flaw.TheVariants.{OfRow}
use Rattle.icescan_audit_findings.specs.declared.finding.RowFlaw.{RowFlaw}
use Rattle.icescan_audit_findings.specs.declared.finding.RowFlaw.TheVariants.{AboveSnapshot, OtherContent, OtherLength}
use Rattle.icescan_audit_findings.specs.declared.finding.RowFlaw.TheVariants.{OtherSpec, OtherSummaries}
use Rattle.icescan_audit_findings.specs.Findings.{manifest_finding}

-- ---- the metadata of a manifest

-- what is under a key of the properties that are read, behind what was found before
abbrev pub found_at : List ℕ → Option (List ℕ) → Read (List Property) → Read (Option (List ℕ))
found_at key found read = read >>= λ x. Ok (last_under key found x.0, x.1)

-- what is under a key of the metadata that these bytes begin with
abbrev pub property_under : List ℕ → List ℕ → Result (Option (List ℕ)) Refusal
property_under key bytes = properties_at bytes >>= λ x. Ok (last_under key None x.0)

abbrev pub where_read : Result (Option (List ℕ)) Refusal → Option (List ℕ)
where_read (Ok found) = found
where_read (Err fault) = None

-- what is under a key of a file's metadata, which stand behind the four bytes with which a file begins
abbrev pub property_in : List ℕ → List ℕ → Option (List ℕ)
property_in key file = where_read (property_under key (drop 4 file))

-- ---- the flaws

-- something is said, and it is another text
abbrev pub says_other : Option (List ℕ) → List ℕ → Bool
says_other None text = false
says_other (Some said) text = not (bytes_eq said text)

abbrev pub has_other_spec : Row → List ℕ → Bool
has_other_spec row file = says_other (property_in (codes "partition-spec-id") file) (signed_decimal row.spec_id)

abbrev pub content_name : ManifestContent → List ℕ
content_name Data = codes "data"
content_name Deletes = codes "deletes"

-- there are summaries, and they are of another number of fields than the spec has
abbrev pub are_other_summaries : Option (List Summary) → Option Spec → Bool
are_other_summaries None spec = false
are_other_summaries (Some ss) None = false
are_other_summaries (Some ss) (Some spec) = not (length ss == length spec.fields)

abbrev pub has_other_summaries : Basis → Row → Bool
has_other_summaries basis row = are_other_summaries row.partitions (spec_of basis.specs row.spec_id)

-- the row, whose manifest is this file, has the flaw
abbrev pub has_row_flaw : RowFlaw → Basis → Row → List ℕ → Bool
has_row_flaw OtherSpec basis row file = has_other_spec row file
has_row_flaw OtherContent basis row file = says_other (property_in (codes "content") file) (content_name row.content)
has_row_flaw OtherLength basis row file = not (int_eq row.length (pos (length file)))
has_row_flaw OtherSummaries basis row file = has_other_summaries basis row
has_row_flaw AboveSnapshot basis row file = nat_lt basis.snapshot row.sequence_number

abbrev pub row_finding : RowFlaw → Basis → Row → List ℕ → List Finding
row_finding flaw basis row file = if has_row_flaw flaw basis row file then manifest_finding row (OfRow flaw) ∷ [] else []

-- what is wrong with the row, in this order
abbrev pub row_findings : Basis → Row → List ℕ → List Finding
row_findings basis row file = row_finding OtherSpec basis row file ++ (row_finding OtherContent basis row file
    ++ (row_finding OtherLength basis row file ++ (row_finding OtherSummaries basis row file
    ++ row_finding AboveSnapshot basis row file)))
