-- What the program's faults come from, and the status that each ends with.
use Rattle.std.specs.Prelude.{ℕ, Bool, true, false, if◌then◌else◌}
use Rattle.avro_schema.specs.declared.fault.SchemaFault.{SchemaFault}
use Rattle.avro_schema.specs.declared.fault.SchemaFault.TheVariants as schema
use Rattle.avro_file.specs.declared.fault.AvroFault.{AvroFault}
use Rattle.avro_file.specs.declared.fault.AvroFault.TheVariants as avro
use Rattle.ice_manifest_fields.specs.declared.fault.ListFault.{ListFault}
use Rattle.ice_manifest_fields.specs.declared.fault.ListFault.TheVariants as list
use Rattle.ice_manifest_fields.specs.declared.fault.ManifestFault.{ManifestFault}
use Rattle.ice_manifest_fields.specs.declared.fault.ManifestFault.TheVariants as manifest
use Rattle.ice_meta.specs.declared.fault.MetaFault.{MetaFault}
use Rattle.ice_meta.specs.declared.fault.MetaFault.TheVariants as meta
use Rattle.ice_filter.specs.declared.fault.FilterFault.{FilterFault}
use Rattle.ice_filter.specs.declared.fault.FilterFault.TheVariants as filter
use Rattle.ice_state.specs.declared.fault.ScanFault.{ScanFault}
use Rattle.ice_state.specs.declared.fault.ScanFault.TheVariants as scan
use Rattle.ice_state.specs.declared.fault.FinishFault.{FinishFault}
use Rattle.ice_state.specs.declared.fault.FinishFault.TheVariants as finish
use Rattle.ice_desk.specs.declared.fault.WantedFault.{WantedFault}
use Rattle.ice_desk.specs.declared.fault.WantedFault.TheVariants as wanted
use Rattle.ice_desk.specs.declared.fault.PlanFault.{PlanFault}
use Rattle.ice_desk.specs.declared.fault.PlanFault.TheVariants as plan
use Rattle.icescan_text.specs.declared.drill_fault.DrillFault.{DrillFault}
use Rattle.icescan_text.specs.declared.drill_fault.DrillFault.TheVariants as drill
use Rattle.ice_catalog_changes.specs.declared.fault.PrepareFault.{PrepareFault}
use Rattle.ice_catalog_changes.specs.declared.fault.PrepareFault.TheVariants as prepare
use Rattle.icescan_text.specs.declared.change.fault.ChangeFault.{ChangeFault}
use Rattle.icescan_text.specs.declared.change.fault.ChangeFault.TheVariants as change
use Rattle.icescan_text.specs.declared.fault.RunFault.{RunFault}
use Rattle.icescan_text.specs.declared.fault.RunFault.TheVariants as run
use Rattle.ice_meta_files.specs.declared.newest_fault.NewestFault.{NewestFault}
use Rattle.ice_meta_files.specs.declared.newest_fault.NewestFault.TheVariants as newest

-- a lower fault as the program's: want of memory is the program's own
abbrev pub of_list : ListFault → RunFault
of_list list.Memory = run.Memory
of_list fault = run.List fault

abbrev pub of_scan : ScanFault → RunFault
of_scan scan.Memory = run.Memory
of_scan fault = run.Scan fault

abbrev pub of_finish : FinishFault → RunFault
of_finish finish.Memory = run.Memory
of_finish fault = run.Finish fault

abbrev pub of_meta : MetaFault → RunFault
of_meta meta.Memory = run.Memory
of_meta fault = run.Metadata fault

abbrev pub of_filter : FilterFault → RunFault
of_filter filter.Memory = run.Memory
of_filter fault = run.Filter fault

abbrev pub of_change : ChangeFault → RunFault
of_change change.Memory = run.Memory
of_change fault = run.Change fault

abbrev pub of_prepare : PrepareFault → RunFault
of_prepare prepare.Memory = run.Memory
of_prepare fault = run.Prepare fault

abbrev pub of_newest : NewestFault → RunFault
of_newest newest.Memory = run.Memory
of_newest fault = run.Locate fault

abbrev pub of_wanted : WantedFault → RunFault
of_wanted (wanted.Absent path) = run.Absent path
of_wanted (wanted.Device path) = run.Device path
of_wanted wanted.Memory = run.Memory

abbrev pub of_plan : PlanFault → RunFault
of_plan (plan.Finish fault) = of_finish fault
of_plan (plan.Absent path) = run.Absent path
of_plan (plan.Device path) = run.Device path
of_plan plan.Memory = run.Memory
of_plan plan.Workers = run.Workers

-- a fault in which memory ran out, however deep
abbrev pub schema_wants_memory : SchemaFault → Bool
schema_wants_memory schema.Memory = true
schema_wants_memory _ = false

abbrev pub avro_wants_memory : AvroFault → Bool
avro_wants_memory avro.Memory = true
avro_wants_memory (avro.Schema fault) = schema_wants_memory fault
avro_wants_memory _ = false

abbrev pub list_wants_memory : ListFault → Bool
list_wants_memory list.Memory = true
list_wants_memory (list.Avro fault) = avro_wants_memory fault
list_wants_memory _ = false

abbrev pub manifest_wants_memory : ManifestFault → Bool
manifest_wants_memory manifest.Memory = true
manifest_wants_memory (manifest.Avro fault) = avro_wants_memory fault
manifest_wants_memory _ = false

abbrev pub scan_wants_memory : ScanFault → Bool
scan_wants_memory scan.Memory = true
scan_wants_memory (scan.NoSuchSpec id) = false

abbrev pub finish_wants_memory : FinishFault → Bool
finish_wants_memory finish.Memory = true
finish_wants_memory (finish.Bad path fault) = manifest_wants_memory fault
finish_wants_memory _ = false

abbrev pub meta_wants_memory : MetaFault → Bool
meta_wants_memory meta.Memory = true
meta_wants_memory _ = false

abbrev pub prepare_wants_memory : PrepareFault → Bool
prepare_wants_memory prepare.Memory = true
prepare_wants_memory _ = false

-- 1: the table or a commit to it is refused, or a snapshot does not follow another by appends alone; 2: the words, the
-- number of workers, the bundle, the filter, the change file or a state; 3: a read or a write failed, or a folder has no
-- newest metadata that can be read; 4: the place of a commit's metadata is taken; 5: memory ran out
abbrev pub refused_status : Bool → ℕ
refused_status wants_memory = if wants_memory then 5 else 1

abbrev pub filter_status : FilterFault → ℕ
filter_status filter.Memory = 5
filter_status _ = 2

-- 4: a commit met another one too often; 1: a file is not there
abbrev pub drill_status : DrillFault → ℕ
drill_status drill.Conflict = 4
drill_status (drill.Lost path) = 1

abbrev pub change_status : ChangeFault → ℕ
change_status change.Memory = 5
change_status _ = 2

abbrev pub newest_status : NewestFault → ℕ
newest_status newest.Memory = 5
newest_status _ = 3

abbrev pub status_of : RunFault → ℕ
status_of (run.Bundle line) = 2
status_of (run.Words text) = 2
status_of run.Workers = 2
status_of (run.List fault) = refused_status (list_wants_memory fault)
status_of (run.Scan fault) = refused_status (scan_wants_memory fault)
status_of (run.Finish fault) = refused_status (finish_wants_memory fault)
status_of (run.Metadata fault) = refused_status (meta_wants_memory fault)
status_of (run.Filter fault) = filter_status fault
status_of (run.Change fault) = change_status fault
status_of (run.Prepare fault) = refused_status (prepare_wants_memory fault)
status_of (run.Conflict path) = 4
status_of (run.Absent path) = 3
status_of (run.Device path) = 3
status_of (run.Drill fault) = drill_status fault
status_of (run.Locate fault) = newest_status fault
status_of (run.Lineage fault) = 1
status_of (run.State path flaw) = 2
status_of run.Input = 3
status_of run.Write = 3
status_of run.Memory = 5
