-- Commits to tables whose files are handed in: the list of the current snapshot, and then its manifests.
use Rattle.std.specs.Prelude.{◌≡◌, ◌≢◌, ℕ, List, [], ◌∷◌, ◌++◌, Bool, true, false, Result, Ok, Err}
use Rattle.contract_words.specs.Outcome.{◌>>=◌}
use Rattle.ice_catalog_changes.specs.declared.change.Ids.{Ids}
use Rattle.ice_catalog_versions.specs.Histories.{Step, opened, prepared_on}
use Rattle.ice_desk.specs.Wanted.{paths_of}
use Rattle.ice_manifest_fields.specs.declared.fault.ListFault.{ListFault}
use Rattle.ice_manifest_reading.specs.Lists.{rows_of}
use Rattle.ice_manifest_reading.specs.declared.row.Row.{Row}
use Rattle.ice_meta.specs.Targets.{list_of, metadata_of}
use Rattle.ice_meta.specs.declared.fault.MetaFault.{MetaFault}
use Rattle.ice_meta.specs.declared.metadata.Target.TheVariants.{Main}
use Rattle.icescan_text.specs.Changes.{change_of}
use Rattle.icescan_text.specs.Faults.{of_change, of_meta, of_prepare}
use Rattle.icescan_text.specs.Reads.{as_run}
use Rattle.icescan_text.specs.declared.change.ChangeKind.TheVariants as kind
use Rattle.icescan_text.specs.declared.fault.RunFault.{RunFault}
use Rattle.icescan_text.specs.declared.fault.RunFault.TheVariants as run
use Rattle.icescan_c_requests.specs.Handed.{begins, none_of}
use Rattle.icescan_c_requests.specs.Handed.{took as took_file}
use Rattle.icescan_c_requests.specs.declared.handed.HandedFiles.{HandedFiles}
use Rattle.icescan_c_commits.specs.Next.{AreOf}
use Rattle.icescan_c_commits.specs.declared.files.CommitFiles.{CommitFiles}
use Rattle.icescan_c_commits.specs.declared.handed.HandedCommit.{HandedCommit}

-- ---- what is wanted of a table

-- the list of the current snapshot; nothing where there is none
abbrev pub or_none : Result (List ℕ) MetaFault → List (List ℕ)
or_none (Ok list) = list ∷ []
or_none (Err fault) = []

unfoldable pub first_wanted : List ℕ → Result (List (List ℕ)) RunFault
first_wanted bytes = do
  metadata ← as_run of_meta (metadata_of bytes)
  Ok (or_none (list_of Main metadata.table))

-- and then the manifests that it names; nothing where it can't be read
abbrev pub named_by : Result (List Row) ListFault → List (List ℕ)
named_by (Ok rows) = paths_of rows
named_by (Err fault) = []

abbrev pub manifests_in : List ℕ → List (List ℕ)
manifests_in bytes = named_by (rows_of bytes)

-- ---- what is done

-- a commit of the change that a text says, of whose table nothing was handed in
unfoldable pub asked : List ℕ → List ℕ → Ids → Result HandedCommit RunFault
asked metadata text ids = do
  change ← as_run of_change (change_of kind.RowDelta text)
  wanted ← first_wanted metadata
  Ok (record { metadata = metadata; change = change; ids = ids; files = none_of wanted })

-- the first file names the others
abbrev pub with_named : Bool → HandedFiles → List ℕ → HandedFiles
with_named true files bytes = record files { wanted = files.wanted ++ manifests_in bytes }
with_named false files bytes = files

-- the next file was handed in
unfoldable pub took : HandedCommit → List ℕ → HandedCommit
took commit bytes = record commit { files = with_named (begins commit.files) (took_file commit.files bytes) bytes }

-- the commit on what was handed in, or why it can't be made
unfoldable pub prepared : HandedCommit → Result Step RunFault
prepared commit = do
  base ← as_run of_meta (opened (record { bytes = commit.metadata; world = commit.files.kept }))
  as_run of_prepare (prepared_on base (record { change = commit.change; ids = commit.ids }))

-- its files, or why there are none, unless memory ran out
abbrev pub Commits : HandedCommit → Result CommitFiles RunFault → Type 0
Commits commit (Ok files) = (step : Step) × (prepared commit ≡ Ok step) × AreOf step files
Commits commit (Err fault) = fault ≢ run.Memory → prepared commit ≡ Err fault
