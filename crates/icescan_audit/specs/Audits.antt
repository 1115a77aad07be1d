-- Audits of a snapshot: every manifest is read, also those that no filter wants.
use Rattle.std.specs.Prelude.{◌≡◌, ℕ, ◌+◌, List, [], ◌∷◌, ◌++◌, length, Option, Some, None, Result, Ok, Err}
use Rattle.std.specs.Prelude.{IfErr, IfOk}
use Rattle.contract_words.specs.Outcome.{◌>>=◌}
use Rattle.icescan_audit_findings.specs.declared.basis.Basis.{Basis}
use Rattle.icescan_audit_findings.specs.Bases.{among}
use Rattle.icescan_audit_findings.specs.Dangling.{delete_findings}
use Rattle.icescan_audit_findings.specs.Findings.{manifest_findings}
use Rattle.icescan_audit_findings.specs.Repeats.{live_files, repeats}
use Rattle.icescan_audit_findings.specs.RowFlaws.{row_findings}
use Rattle.icescan_audit_findings.specs.Totals.{false_totals}
use Rattle.icescan_audit_findings.specs.declared.finding.Finding.{Finding}
use Rattle.icescan_audit_findings.specs.declared.totals.SaidTotal.{SaidTotal}
use Rattle.ice_desk.specs.Wanted.{paths_of}
use Rattle.ice_desk.specs.Worlds.{EndsAt}
use Rattle.ice_manifest_fields.specs.declared.fault.ManifestFault.{ManifestFault}
use Rattle.ice_manifest_fields.specs.declared.fault.ManifestFault.TheVariants as manifest
use Rattle.ice_manifest_reading.specs.declared.entry.Live.{Live}
use Rattle.ice_manifest_reading.specs.declared.row.Row.{Row}
use Rattle.ice_manifest_reading.specs.Manifests.{live_of}
use Rattle.ice_manifest_reading.specs.Tallying.{tallies_of}
use Rattle.ice_meta.specs.declared.metadata.Target.{Target}
use Rattle.ice_meta.specs.declared.spec.Spec.{Spec}
use Rattle.ice_state.specs.Contents.{World}
use Rattle.ice_state.specs.Specs.{spec_of}
use Rattle.ice_state.specs.declared.fault.FinishFault.TheVariants as finish
use Rattle.ice_state.specs.declared.fault.ScanFault.TheVariants as scan
use Rattle.icescan_text.specs.Reads.{MayEnd, as_run, file_in, rows_at}
use Rattle.icescan_text.specs.Workers.{by_workers}
use Rattle.icescan_text.specs.declared.fault.RunFault.{RunFault}
use Rattle.icescan_text.specs.declared.fault.RunFault.TheVariants as run
use Rattle.icescan_audit.specs.declared.audit.Audit.{Audit}
use Rattle.icescan_audit.specs.declared.audit.Reading.{Reading}
use Rattle.icescan_audit.specs.declared.subject.Subject.{Subject}
use Rattle.icescan_audit.specs.Subjects.{subject_of}

-- the spec of a row, which has to be there
abbrev pub or_unknown : Row → Option Spec → Result Spec RunFault
or_unknown row None = Err (run.Scan (scan.NoSuchSpec row.spec_id))
or_unknown row (Some spec) = Ok spec

abbrev pub spec_for : List Spec → Row → Result Spec RunFault
spec_for specs row = or_unknown row (spec_of specs row.spec_id)

-- each row's spec is there, or the first that is not
abbrev pub all_known : List Spec → List Row → Result Unit RunFault
all_known specs [] = Ok tt
all_known specs (row ∷ rows) = spec_for specs row >>= λ _. all_known specs rows

-- why the manifest at a path can't be read
abbrev pub of_manifest : List ℕ → ManifestFault → RunFault
of_manifest path manifest.Memory = run.Memory
of_manifest path fault = run.Finish (finish.Bad path fault)

-- what is read of no manifest, and of some and then others
abbrev pub nothing : Reading
nothing = record { manifests = 0; entries = 0; findings = []; live = [] }

abbrev pub joined : Reading → Reading → Reading
joined a b = record {
  manifests = a.manifests + b.manifests;
  entries = a.entries + b.entries;
  findings = a.findings ++ b.findings;
  live = a.live ++ b.live;
}

-- what is found of a row and of its manifest, which has these bytes and these live entries
abbrev pub bytes_findings : Basis → Row → Spec → List ℕ → List Live → List Finding
bytes_findings basis row spec bytes lives =
    row_findings basis row bytes ++ manifest_findings basis row spec (tallies_of bytes) lives

-- what is read of a row's manifest, or the first refusal: its spec is missing, it is absent, or it can't be read
unfoldable pub row_audit : World → Basis → Row → Result Reading RunFault
row_audit world basis row = do
  spec ← spec_for basis.specs row
  bytes ← file_in world row.path
  lives ← as_run (of_manifest row.path) (live_of row spec bytes)
  Ok (record {
    manifests = 1;
    entries = length lives;
    findings = bytes_findings basis row spec bytes lives;
    live = live_files basis row lives;
  })

-- what is read of the manifests of these rows, in their order, or the first refusal
unfoldable pub rows_audit : World → Basis → List Row → Result Reading RunFault
rows_audit world basis [] = Ok nothing
rows_audit world basis (row ∷ rows) = do
  first ← row_audit world basis row
  others ← rows_audit world basis rows
  Ok (joined first others)

-- the audit that reads this: behind what was found manifest by manifest stand the delete files that name or reach no
-- live data file, and then the files whose path another has; beside them stand the totals that the snapshot's summary
-- says and that the live files do not come to
abbrev pub whole : List SaidTotal → Reading → Audit
whole said read = record {
  manifests = read.manifests;
  entries = read.entries;
  findings = read.findings ++ delete_findings read.live ++ repeats read.live;
  false_totals = false_totals read.live said;
}

-- the audit of a snapshot of the table whose metadata these are the bytes of, or the first refusal: the metadata's,
-- that of the manifest list, that a row's spec is missing, or that of a manifest
unfoldable pub audit_of : World → List ℕ → Target → Result Audit RunFault
audit_of world metadata target = do
  subject ← subject_of metadata target
  rows ← rows_at world subject.list
  _ ← all_known subject.basis.specs rows
  read ← rows_audit world (among rows subject.basis) rows
  Ok (whole subject.said read)

-- the paths that are read, in this order: the list's, and then those of the manifests
abbrev pub manifests_of : Result (List Row) RunFault → List (List ℕ)
manifests_of (Ok rows) = paths_of rows
manifests_of (Err fault) = []

abbrev pub reads_of : World → Result Subject RunFault → List (List ℕ)
reads_of world (Ok subject) = subject.list ∷ manifests_of (rows_at world subject.list)
reads_of world (Err fault) = []

unfoldable pub audit_reads : World → List ℕ → Target → List (List ℕ)
audit_reads world metadata target = reads_of world (subject_of metadata target)

-- What auditing gives where the world is told: the audit, or its refusal; or another fault, where memory ran out or one
-- of the reads failed that may.
abbrev pub Audits : Option World → (List ℕ → Type 0) → List ℕ → Target → Result Audit RunFault → Type 0
Audits told may_fail metadata target result = (world : World) → told ≡ Some world →
    IfOk result (λ audit. audit_of world metadata target ≡ Ok audit)
    × IfErr result (MayEnd (audit_of world metadata target) (EndsAt world may_fail (audit_reads world metadata target))
    ⊥)

-- ---- the metadata in a file

-- the audit of a snapshot of the table whose metadata is in the file at a path, by so many workers; their number comes
-- before all else
unfoldable pub audit_at : World → List ℕ → Target → ℕ → Result Audit RunFault
audit_at world path target workers =
    by_workers workers (file_in world path >>= λ metadata. audit_of world metadata target)

abbrev pub reads_behind : World → Target → Result (List ℕ) RunFault → List (List ℕ)
reads_behind world target (Ok metadata) = audit_reads world metadata target
reads_behind world target (Err fault) = []

unfoldable pub audit_reads_at : World → List ℕ → Target → List (List ℕ)
audit_reads_at world path target = path ∷ reads_behind world target (file_in world path)
