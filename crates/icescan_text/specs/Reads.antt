-- What is read of a table's files, and what a run makes of the faults of its parts.
use Rattle.std.specs.Prelude.{◌≡◌, ℕ, List, [], ◌∷◌, Option, Some, None, Result, Ok, Err}
use Rattle.contract_words.specs.Outcome.{◌>>=◌}
use Rattle.ice_desk.specs.Given.{Giving}
use Rattle.ice_manifest_reading.specs.declared.row.Row.{Row}
use Rattle.ice_manifest_reading.specs.Lists.{rows_of}
use Rattle.ice_meta.specs.declared.fault.Member.TheVariants as member
use Rattle.ice_meta.specs.declared.fault.MetaFault.{MetaFault}
use Rattle.ice_meta.specs.declared.fault.MetaFault.TheVariants.{Dangling}
use Rattle.ice_meta.specs.declared.metadata.Target.{Target}
use Rattle.ice_meta.specs.declared.schema.Schema.{Schema}
use Rattle.ice_meta.specs.declared.table.Table.{Table}
use Rattle.ice_meta.specs.Members.{asked}
use Rattle.ice_meta.specs.Targets.{schema_for}
use Rattle.ice_state.specs.Contents.{World}
use Rattle.icescan_text.specs.Faults.{of_list}
use Rattle.icescan_text.specs.declared.fault.RunFault.{RunFault}
use Rattle.icescan_text.specs.declared.fault.RunFault.TheVariants as run

-- a part's answer, with its fault as the run's
abbrev pub as_run : {A E : Type 0} → (E → RunFault) → Result A E → Result A RunFault
as_run of (Ok x) = Ok x
as_run of (Err e) = Err (of e)

-- the bytes of a file that has to be there
abbrev pub or_absent : List ℕ → Option (List ℕ) → Result (List ℕ) RunFault
or_absent path None = Err (run.Absent path)
or_absent path (Some bytes) = Ok bytes

unfoldable pub file_in : World → List ℕ → Result (List ℕ) RunFault
file_in world path = or_absent path (world path)

-- the faults of reading a file
abbrev pub IsOfFile : RunFault → Type 0
IsOfFile (run.Absent path) = Unit {0}
IsOfFile (run.Device path) = Unit {0}
IsOfFile run.Memory = Unit {0}
IsOfFile _ = ⊥

-- why the file at a path was not read: there is none, reading it failed, or memory ran out
abbrev pub IsUnread : Giving → (List ℕ → Type 0) → List ℕ → RunFault → Type 0
IsUnread gives may_fail path (run.Absent other) = (other ≡ path) × gives path None
IsUnread gives may_fail path (run.Device other) = (other ≡ path) × may_fail path
IsUnread gives may_fail path run.Memory = Unit {0}
IsUnread gives may_fail path _ = ⊥

-- the rows of a manifest list
unfoldable pub rows_in : List ℕ → Result (List Row) RunFault
rows_in bytes = as_run of_list (rows_of bytes)

-- the rows of the manifest list at a path
unfoldable pub rows_at : World → List ℕ → Result (List Row) RunFault
rows_at world list = file_in world list >>= rows_in

-- the rows of the manifest list that a read of its path gave
abbrev pub AreRowsGiven : Giving → List ℕ → List Row → Type 0
AreRowsGiven gives list rows = (bytes : List ℕ) × gives list (Some bytes) × (rows_in bytes ≡ Ok rows)

-- the manifests of these rows are there, or the first that is absent
unfoldable pub all_present : World → List Row → Result Unit RunFault
all_present world [] = Ok tt
all_present world (row ∷ rows) = file_in world row.path >>= λ _. all_present world rows

-- the schema whose columns the filter names; metadata that was read has one
abbrev pub schema_of : Target → Table → Result Schema MetaFault
schema_of target table = asked (Dangling member.CurrentSchemaId) (schema_for target table)

-- Why a run ends with a fault: memory ran out, a read failed at a path where it may, a write failed that may fail, or
-- the fault is the answer's.
abbrev pub MayEnd : {A : Type 0} → Result A RunFault → (List ℕ → Type 0) → Type 0 → RunFault → Type 0
MayEnd read may_fail_at write_may_fail run.Memory = Unit {0}
MayEnd read may_fail_at write_may_fail (run.Device path) = may_fail_at path
MayEnd read may_fail_at write_may_fail run.Write = write_may_fail
MayEnd read may_fail_at write_may_fail fault = read ≡ Err fault
