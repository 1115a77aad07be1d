-- The program's own line for a fault: number, name and arguments, with a nested fault in place of its argument.
-- S is a fault of a schema, V of a container, M of metadata, N of a list or a manifest, F of a filter, X of a scan, Z
-- of a plan, C of a change file, K of a commit, L of a snapshot's ancestors, B of the bundle, P of a read or of the
-- number of workers, W of a write.
use Rattle.std.specs.Prelude.{ℕ, List, [], ◌∷◌, ◌++◌, codes}
use Rattle.avro_schema.specs.declared.fault.SchemaFault.{SchemaFault}
use Rattle.avro_schema.specs.declared.fault.SchemaFault.TheVariants as schema
use Rattle.avro_file.specs.declared.fault.AvroFault.{AvroFault}
use Rattle.avro_file.specs.declared.fault.AvroFault.TheVariants as avro
use Rattle.ice_manifest_fields.specs.declared.fault.ListFault.{ListFault}
use Rattle.ice_manifest_fields.specs.declared.fault.ListFault.TheVariants as list
use Rattle.ice_manifest_fields.specs.declared.fault.ManifestFault.{ManifestFault}
use Rattle.ice_manifest_fields.specs.declared.fault.ManifestFault.TheVariants as manifest
use Rattle.ice_meta.specs.declared.fault.MetaFault.{MetaFault}
use Rattle.ice_meta.specs.declared.fault.MetaFault.TheVariants as meta
use Rattle.ice_meta.specs.Members.{member_name}
use Rattle.ice_filter.specs.declared.fault.FilterFault.{FilterFault}
use Rattle.ice_filter.specs.declared.fault.FilterFault.TheVariants as filter
use Rattle.ice_state.specs.declared.fault.ScanFault.{ScanFault}
use Rattle.ice_state.specs.declared.fault.ScanFault.TheVariants as scan
use Rattle.ice_state.specs.declared.fault.FinishFault.{FinishFault}
use Rattle.ice_state.specs.declared.fault.FinishFault.TheVariants as finish
use Rattle.icescan_text.specs.declared.drill_fault.DrillFault.{DrillFault}
use Rattle.icescan_text.specs.declared.drill_fault.DrillFault.TheVariants as drill
use Rattle.icescan_text.specs.declared.lineage_fault.LineageFault.{LineageFault}
use Rattle.icescan_text.specs.declared.lineage_fault.LineageFault.TheVariants as lineage
use Rattle.icescan_text.specs.declared.state_flaw.StateFlaw.{StateFlaw}
use Rattle.icescan_text.specs.declared.state_flaw.StateFlaw.TheVariants as flaw
use Rattle.ice_catalog_changes.specs.declared.fault.PrepareFault.{PrepareFault}
use Rattle.ice_catalog_changes.specs.declared.fault.PrepareFault.TheVariants as prepare
use Rattle.icescan_text.specs.Changes.{member_name as change_member_name}
use Rattle.icescan_text.specs.declared.change.fault.ChangeFault.{ChangeFault}
use Rattle.icescan_text.specs.declared.change.fault.ChangeFault.TheVariants as change
use Rattle.icescan_text.specs.declared.fault.RunFault.{RunFault}
use Rattle.icescan_text.specs.declared.fault.RunFault.TheVariants as run
use Rattle.ice_meta_files.specs.declared.newest_fault.NewestFault.{NewestFault}
use Rattle.ice_meta_files.specs.declared.newest_fault.NewestFault.TheVariants as newest
use Rattle.icescan_print.specs.Pieces.{named_path, named_signed, named_number}

unfoldable pub schema_text : SchemaFault → List ℕ
schema_text schema.NotJson = codes "S1 NotJson"
schema_text schema.UnknownType = codes "S2 UnknownType"
schema_text schema.UnknownName = codes "S3 UnknownName"
schema_text schema.Recursive = codes "S4 Recursive"
schema_text schema.TooBig = codes "S5 TooBig"
schema_text (schema.FieldTwice id) = named_signed (codes "S6 FieldTwice ") id
schema_text schema.Memory = codes "S7 Memory"
schema_text schema.NameTwice = codes "S8 NameTwice"

unfoldable pub avro_text : AvroFault → List ℕ
avro_text avro.NotAvro = codes "V1 NotAvro"
avro_text (avro.Codec name) = named_path (codes "V2 Codec ") name
avro_text (avro.Truncated offset) = named_number (codes "V3 Truncated ") offset
avro_text avro.BadNumber = codes "V4 BadNumber"
avro_text avro.BadUnion = codes "V5 BadUnion"
avro_text avro.BadUtf8 = codes "V6 BadUtf8"
avro_text avro.BadSync = codes "V7 BadSync"
avro_text avro.BlockSize = codes "V8 BlockSize"
avro_text (avro.Schema fault) = codes "V9 Schema " ++ schema_text fault
avro_text avro.Memory = codes "V10 Memory"
avro_text avro.BadBoolean = codes "V11 BadBoolean"
avro_text avro.TooManyItems = codes "V12 TooManyItems"

unfoldable pub list_text : ListFault → List ℕ
list_text (list.Avro fault) = codes "N1 Avro " ++ avro_text fault
list_text (list.MissingField id) = named_signed (codes "N2 MissingField ") id
list_text (list.WrongFieldType id) = named_signed (codes "N3 WrongFieldType ") id
list_text (list.OutOfRange id) = named_signed (codes "N4 OutOfRange ") id
list_text list.BadContent = codes "N6 BadContent"
list_text (list.ManifestTwice path) = named_path (codes "N9 ManifestTwice ") path
list_text list.Memory = codes "N10 Memory"
list_text list.TooManyRows = codes "N11 TooManyRows"

unfoldable pub manifest_text : ManifestFault → List ℕ
manifest_text (manifest.Avro fault) = codes "N1 Avro " ++ avro_text fault
manifest_text (manifest.MissingField id) = named_signed (codes "N2 MissingField ") id
manifest_text (manifest.WrongFieldType id) = named_signed (codes "N3 WrongFieldType ") id
manifest_text (manifest.OutOfRange id) = named_signed (codes "N4 OutOfRange ") id
manifest_text manifest.BadStatus = codes "N5 BadStatus"
manifest_text manifest.BadContent = codes "N6 BadContent"
manifest_text manifest.NoSequence = codes "N7 NoSequence"
manifest_text (manifest.FloatPartition id) = named_signed (codes "N8 FloatPartition ") id
manifest_text manifest.Memory = codes "N10 Memory"

unfoldable pub scan_text : ScanFault → List ℕ
scan_text (scan.NoSuchSpec id) = named_signed (codes "X1 NoSuchSpec ") id
scan_text scan.Memory = codes "X2 Memory"

unfoldable pub finish_text : FinishFault → List ℕ
finish_text (finish.Missing path) = named_path (codes "Z1 Missing ") path
finish_text (finish.Bad path fault) = named_path (codes "Z2 Bad ") path ++ (codes " " ++ manifest_text fault)
finish_text (finish.PathTwice path) = named_path (codes "Z3 PathTwice ") path
finish_text finish.Memory = codes "Z4 Memory"

unfoldable pub meta_text : MetaFault → List ℕ
meta_text meta.NotJson = codes "M1 NotJson"
meta_text (meta.Version n) = named_signed (codes "M2 Version ") n
meta_text (meta.Missing member) = codes "M3 Missing " ++ member_name member
meta_text (meta.WrongKind member) = codes "M4 WrongKind " ++ member_name member
meta_text (meta.UnknownType text) = named_path (codes "M5 UnknownType ") text
meta_text meta.NoSuchRef = codes "M6 NoSuchRef"
meta_text meta.NoSuchSnapshot = codes "M7 NoSuchSnapshot"
meta_text meta.NoSnapshot = codes "M8 NoSnapshot"
meta_text (meta.IdTwice id) = named_signed (codes "M9 IdTwice ") id
meta_text meta.Memory = codes "M10 Memory"
meta_text (meta.Dangling member) = codes "M11 Dangling " ++ member_name member
meta_text meta.TooBig = codes "M12 TooBig"

-- the offset is that of a byte of the filter's text
unfoldable pub filter_text : FilterFault → List ℕ
filter_text (filter.Syntax offset) = named_number (codes "F1 Syntax ") offset
filter_text filter.NoSuchColumn = codes "F2 NoSuchColumn"
filter_text filter.WrongLiteral = codes "F3 WrongLiteral"
filter_text filter.NotComparable = codes "F4 NotComparable"
filter_text filter.TooBig = codes "F5 TooBig"
filter_text filter.Memory = codes "F6 Memory"

unfoldable pub newest_text : NewestFault → List ℕ
newest_text newest.NoFolder = codes "P6 NoFolder"
newest_text newest.NoMetadata = codes "P7 NoMetadata"
newest_text (newest.TwoOfOneNumber first second) =
    named_path (codes "P8 TwoOfOneNumber ") first ++ named_path (codes " ") second
newest_text (newest.Compressed name) = named_path (codes "P9 Compressed ") name
newest_text newest.Memory = codes "Memory"

unfoldable pub drill_fault_text : DrillFault → List ℕ
drill_fault_text drill.Conflict = codes "Conflict"
drill_fault_text (drill.Lost path) = named_path (codes "Lost ") path

-- the id is that of a snapshot
unfoldable pub lineage_text : LineageFault → List ℕ
lineage_text (lineage.NotAppended id) = named_signed (codes "L1 NotAppended ") id
lineage_text lineage.NotAncestor = codes "L2 NotAncestor"

-- the path is that of a state's file
abbrev pub state_flaw_name : StateFlaw → List ℕ
state_flaw_name flaw.NotAState = codes "Y1 NotAState "
state_flaw_name flaw.OtherVersion = codes "Y2 OtherVersion "
state_flaw_name flaw.Damaged = codes "Y3 Damaged "
state_flaw_name flaw.OtherScan = codes "Y4 OtherScan "
state_flaw_name flaw.NotOfScan = codes "Y5 NotOfScan "

abbrev pub state_text : List ℕ → StateFlaw → List ℕ
state_text path flaw = named_path (state_flaw_name flaw) path

unfoldable pub change_text : ChangeFault → List ℕ
change_text change.NotJson = codes "C1 BadChange -"
change_text (change.Bad member) = codes "C1 BadChange " ++ change_member_name member
change_text change.Memory = codes "Memory"

unfoldable pub prepare_text : PrepareFault → List ℕ
prepare_text prepare.SnapshotTaken = codes "K1 SnapshotTaken"
prepare_text (prepare.PathTaken path) = named_path (codes "K2 PathTaken ") path
prepare_text (prepare.PathTwice path) = named_path (codes "K3 PathTwice ") path
prepare_text prepare.Empty = codes "K4 Empty"
prepare_text (prepare.NoSuchSpec id) = named_signed (codes "K5 NoSuchSpec ") id
prepare_text (prepare.WrongTuple path) = named_path (codes "K6 WrongTuple ") path
prepare_text prepare.SequenceEnd = codes "K7 SequenceEnd"
prepare_text (prepare.BaseBad path) = named_path (codes "K8 BaseBad ") path
prepare_text prepare.Memory = codes "K9 Memory"
prepare_text (prepare.BadFile path) = named_path (codes "K10 BadFile ") path
prepare_text prepare.TooManyRows = codes "K11 TooManyRows"
prepare_text prepare.OutOfOrder = codes "K12 OutOfOrder"

unfoldable pub run_text : RunFault → List ℕ
run_text (run.Words text) = text
run_text run.Input = codes "P3 Device -"
run_text (run.Bundle line) = named_number (codes "B1 Bundle ") line
run_text (run.Absent path) = named_path (codes "P2 Absent ") path
run_text (run.Device path) = named_path (codes "P3 Device ") path
run_text (run.List fault) = list_text fault
run_text (run.Scan fault) = scan_text fault
run_text (run.Finish fault) = finish_text fault
run_text (run.Metadata fault) = meta_text fault
run_text (run.Filter fault) = filter_text fault
run_text (run.Drill fault) = drill_fault_text fault
run_text (run.Locate fault) = newest_text fault
run_text (run.Lineage fault) = lineage_text fault
run_text (run.State path flaw) = state_text path flaw
run_text (run.Change fault) = change_text fault
run_text (run.Prepare fault) = prepare_text fault
run_text (run.Conflict path) = named_path (codes "Conflict ") path
run_text run.Workers = codes "P5 Workers"
run_text run.Write = codes "W1 Write"
run_text run.Memory = codes "Memory"

-- the whole line, with its line feed
unfoldable pub line_text : RunFault → List ℕ
line_text fault = codes "icescan: " ++ (run_text fault ++ 10 ∷ [])

-- what is told of a fault: its line, or the text that says why the words are not understood
unfoldable pub fault_text : RunFault → List ℕ
fault_text (run.Words text) = text
fault_text fault = line_text fault
