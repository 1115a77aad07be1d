-- Whether one snapshot follows another by appends alone, by the parents and the operations that the table's metadata
-- says.
use Rattle.std.specs.Prelude.{ℕ, zero, suc, ◌+◌, ℤ, Bool, false, List, length, Option, Some, None, Result, Ok, Err}
use Rattle.std.specs.Prelude.{if◌then◌else◌, codes, option_and_then, option_map}
use Rattle.std.specs.Ordering.{int_eq}
use Rattle.std.specs.Str.{bytes_eq}
use Rattle.contract_words.specs.Outcome.{◌>>=◌}
use Rattle.ice_meta.specs.Targets.{metadata_of, resolved, snapshot_with}
use Rattle.ice_meta.specs.declared.metadata.Target.{Target}
use Rattle.ice_meta.specs.declared.snapshot.Snapshot.{Snapshot}
use Rattle.ice_meta.specs.declared.table.Table.{Table}
use Rattle.icescan_text.specs.Faults.{of_meta}
use Rattle.icescan_text.specs.Reads.{as_run}
use Rattle.icescan_text.specs.declared.fault.RunFault.{RunFault}
use Rattle.icescan_text.specs.declared.fault.RunFault.TheVariants as run
use Rattle.icescan_text.specs.declared.lineage_fault.LineageFault.{LineageFault}
use Rattle.icescan_text.specs.declared.lineage_fault.LineageFault.TheVariants as lineage
use Rattle.icescan_text.specs.declared.request.ChangesRequest.{ChangesRequest}

-- an append adds data files and does nothing else
abbrev pub is_append : Snapshot → Bool
is_append snapshot = named snapshot.operation
  where
    named : Option (List ℕ) → Bool
    named (Some operation) = bytes_eq operation (codes "append")
    named None = false

-- the parent of a snapshot, and whether the snapshot is an append; none where the table has no such snapshot, or it has
-- no parent
abbrev pub came_from : ℤ → Table → Option (ℤ × Bool)
came_from id table = option_and_then (λ (s : Snapshot). option_map (λ parent. (parent, is_append s)) s.parent_id)
    (snapshot_with id table)

-- where the first snapshot that is no append is this, if one is none
abbrev pub followed : Option ℤ → Result Unit LineageFault
followed (Some id) = Err (lineage.NotAppended id)
followed None = Ok tt

abbrev pub by_parent : (ℤ → Result Unit LineageFault) → ℤ → Option (ℤ × Bool) → Result Unit LineageFault
by_parent before id None = Err lineage.NotAncestor
by_parent before id (Some (parent, appends)) = before parent >>= λ _. followed (if appends then None else Some id)

-- Whether the snapshot of an id follows the earlier one by appends alone, with less than so many steps from one to its
-- parent: of the snapshots after the earlier one the first that is no append is told. Where no way by parents leads to
-- it, it is no ancestor.
abbrev pub follows : ℕ → Table → ℤ → ℤ → Result Unit LineageFault
follows zero table earlier id = Err lineage.NotAncestor
follows (suc steps) table earlier id =
    if int_eq id earlier then Ok tt else by_parent (follows steps table earlier) id (came_from id table)

-- the same of the snapshots of two targets: no way back is longer than the table has snapshots
unfoldable pub between : Table → Target → Target → Result Unit RunFault
between table from to = do
  earlier ← as_run of_meta (resolved from table)
  later ← as_run of_meta (resolved to table)
  as_run run.Lineage (follows (length table.snapshots + 1) table earlier later)

-- the same of the metadata that these are the bytes of
abbrev pub between_in : List ℕ → Target → Target → Result Unit RunFault
between_in metadata from to = as_run of_meta (metadata_of metadata) >>= λ d. between d.table from to

-- where it is asked for
unfoldable pub lineage_of : List ℕ → ChangesRequest → Result Unit RunFault
lineage_of metadata request =
    if request.appends then between_in metadata request.earlier.target request.later.target else Ok tt

-- the faults of a lineage
abbrev pub IsOfLineage : RunFault → Type 0
IsOfLineage (run.Metadata fault) = Unit {0}
IsOfLineage (run.Lineage fault) = Unit {0}
IsOfLineage run.Memory = Unit {0}
IsOfLineage _ = ⊥
