-- A drill: threads that commit to one table in memory at once. Threads and the commits of a thread count from 0.
use Rattle.std.specs.Prelude.{◌≡◌, ℕ, ◌+◌, ◌*◌, ◌<◌, ◌≤◌, pos, Bool, true, false, List, [], ◌∷◌, ◌++◌, length, codes}
use Rattle.std.specs.Prelude.{Option, None, Some, Result, Ok, sum, vec_len}
use Rattle.std.specs.Global.{Vec}
use Rattle.std.specs.List.{list_any}
use Rattle.std.specs.FinMap as map
use Rattle.std.specs.Fmt.{decimal}
use Rattle.std.specs.Option.{option_map}
use Rattle.std.specs.Str.{bytes_eq}
use Rattle.std.specs.Int.{to_be_bytes, w128}
use Rattle.contract_words.specs.Outcome.{◌>>=◌}
use Rattle.ice_catalog_versions.specs.Histories.{History, state_of}
use Rattle.ice_catalog_versions.specs.States.{State}
use Rattle.ice_catalog_changes.specs.declared.change.Commit.{Commit}
use Rattle.ice_catalog_changes.specs.declared.change.Ids.{Ids}
use Rattle.ice_manifest.specs.declared.new_file.NewFile.{NewFile}
use Rattle.ice_meta.specs.declared.metadata.Target.TheVariants.{Main}
use Rattle.ice_meta.specs.Targets.{bound_specs, list_of}
use Rattle.ice_state.specs.Contents.{content, every_row}
use Rattle.ice_state.specs.Lines.{OwnedLine}
use Rattle.ice_state.specs.Outcomes.{outcome}
use Rattle.ice_state.specs.Scans.{Scanned, scan_of}
use Rattle.ice_value.specs.declared.file_content.FileContent.TheVariants.{Data}
use Rattle.icescan_text.specs.Faults.{of_finish, of_meta, of_scan}
use Rattle.icescan_text.specs.Reads.{all_present, as_run, rows_at, schema_of}
use Rattle.icescan_print.specs.Pieces.{named_number}
use Rattle.icescan_print.specs.PlanTexts.{totals_text}
use Rattle.icescan_print.specs.Written.{Appends, AppendsFront}
use Rattle.icescan_text.specs.declared.drill.Drill.{Drill}
use Rattle.icescan_text.specs.declared.drill_fault.DrillFault.TheVariants as drill
use Rattle.icescan_text.specs.declared.fault.RunFault.{RunFault}
use Rattle.icescan_text.specs.declared.fault.RunFault.TheVariants as run

-- ---- one commit

-- a thread and a commit that a drill may have
abbrev pub IsTurn : ℕ → ℕ → Type 0
IsTurn thread commit = (thread < 64) × (commit < 100)

-- mem://drill/THREAD-COMMIT.parquet
abbrev pub file_path : ℕ → ℕ → List ℕ
file_path thread commit =
    codes "mem://drill/" ++ (decimal thread ++ (codes "-" ++ (decimal commit ++ codes ".parquet")))

-- data of one row and one byte, in a table without partitions
abbrev pub new_file : ℕ → ℕ → NewFile
new_file thread commit = record {
  content = Data;
  path = file_path thread commit;
  format = codes "parquet";
  spec_id = pos 0;
  tuple = [];
  record_count = pos 1;
  file_size = pos 1;
  equality_ids = [];
  referenced = None;
}

-- no two commits have one number
abbrev pub number_of : ℕ → ℕ → ℕ
number_of thread commit = 100 * thread + commit + 1

-- it is the snapshot's id, and the uuid's number
abbrev pub ids_of : ℕ → ℕ → Ids
ids_of thread commit = record {
  snapshot = pos (number_of thread commit);
  uuid = to_be_bytes w128 (number_of thread commit);
  now_ms = pos 0;
}

-- the file is appended, and nothing else
abbrev pub commit_of : ℕ → ℕ → Commit
commit_of thread commit = record {
  change = record { files = new_file thread commit ∷ []; deletes = [] };
  ids = ids_of thread commit;
}

-- ---- the plan of a version

-- the scan of the current snapshot, without a filter, or the first refusal
unfoldable pub scan_of_state : State → Result Scanned RunFault
scan_of_state s = do
  list ← as_run of_meta (list_of Main s.metadata.table)
  schema ← as_run of_meta (schema_of Main s.metadata.table)
  rows ← rows_at (λ path. map.get s.world path) list
  as_run of_scan (scan_of rows (bound_specs schema s.metadata.table) [])

-- its plan
unfoldable pub plan_of_state : State → Result (List OwnedLine) RunFault
plan_of_state s = do
  scan ← scan_of_state s
  _ ← all_present (λ path. map.get s.world path) scan.wanted
  as_run of_finish (outcome scan (content (λ path. map.get s.world path) scan (every_row scan)))

-- a version has this plan
abbrev pub IsPlanOf : List OwnedLine → History → Type 0
IsPlanOf plan h = option_map plan_of_state (state_of h) ≡ Some (Ok plan)

-- a plan has a data file of this path
abbrev pub has_file : List OwnedLine → List ℕ → Bool
has_file plan path = list_any (λ line. bytes_eq line.file.file.path path) plan

-- a plan has the file of each commit of a thread
abbrev pub HasEachFile : List OwnedLine → ℕ → ℕ → Type 0
HasEachFile plan thread commits = (commit : ℕ) → commit < commits → has_file plan (file_path thread commit) ≡ true

-- the fault names a file of a thread that a plan lacks
pub record IsLost (plan : List OwnedLine) (thread commits : ℕ) (fault : RunFault) : Type 0 where
  pub commit : ℕ
  pub within : commit < commits
  pub is : fault ≡ run.Drill (drill.Lost (file_path thread commit))
  pub lacks : has_file plan (file_path thread commit) ≡ false

-- a thread with so many commits saw its files in the plan of a version with at least as many
pub record SawItsFiles (thread commits : ℕ) : Type 0 where
  pub version : History
  pub plan : List OwnedLine
  pub number : commits ≤ length version.journal
  pub plan_is : IsPlanOf plan version
  pub each : HasEachFile plan thread commits

-- each of so many threads did, from the first of them on
abbrev pub EachSawItsFiles : ℕ → ℕ → ℕ → Type 0
EachSawItsFiles first count commits = (i : ℕ) → i < count → SawItsFiles (first + i) commits

-- The seats of threads, of which this is the first, after a drill of so many commits each: as many seats, which have
-- counted all commits; and each of the threads saw its files.
abbrev pub HaveDrilled : ℕ → ℕ → Vec ℕ → Vec ℕ → Type 0
HaveDrilled first commits before after = (vec_len after ≡ vec_len before)
    × (sum after.items ≡ sum before.items + vec_len before * commits) × EachSawItsFiles first (vec_len before) commits

-- ---- what a drill prints

-- how many commits the last version has, its last sequence number, and the last line of its plan
unfoldable pub drill_text : ℕ → ℕ → List OwnedLine → List ℕ
drill_text commits sequence plan =
    named_number (codes "commits ") commits
    ++ (named_number (codes "\nlast-sequence-number ") sequence ++ (codes "\n" ++ totals_text plan))

abbrev pub sequence_of : History → Option ℕ
sequence_of h = option_map (λ s. s.metadata.table.last_sequence_number) (state_of h)

-- the text of a version that has a commit for each commit of each thread
pub record IsTextOf (asked : Drill) (text : List ℕ) : Type 0 where
  pub version : History
  pub sequence : ℕ
  pub plan : List OwnedLine
  pub each_commit : length version.journal ≡ asked.threads * asked.commits
  pub sequence_is : sequence_of version ≡ Some sequence
  pub plan_is : IsPlanOf plan version
  pub text_is : text ≡ drill_text (asked.threads * asked.commits) sequence plan

abbrev pub WroteDrill : Drill → Option (List ℕ) → Option (List ℕ) → Type 0
WroteDrill asked output output' = (text : List ℕ) × IsTextOf asked text × Appends output output' text

abbrev pub WroteDrillFront : Drill → Option (List ℕ) → Option (List ℕ) → Type 0
WroteDrillFront asked output output' = (text : List ℕ) × IsTextOf asked text × AppendsFront output output' text
