-- What of a table is audited: Apache Iceberg table spec, version 2, "Snapshot References" and "Partition Specs".
use Rattle.std.specs.Prelude.{ℕ, ℤ, false, List, map, Option, Some, None, Result, Ok, Err}
use Rattle.contract_words.specs.Outcome.{◌>>=◌}
use Rattle.icescan_audit_findings.specs.declared.basis.Basis.{Basis}
use Rattle.icescan_audit_findings.specs.declared.basis.TypedColumn.{TypedColumn}
use Rattle.ice_meta.specs.declared.metadata.Target.{Target}
use Rattle.ice_meta.specs.declared.schema.Column.{Column}
use Rattle.ice_meta.specs.declared.schema.Schema.{Schema}
use Rattle.ice_meta.specs.declared.table.Table.{Table}
use Rattle.ice_meta.specs.declared.fault.MetaFault.{MetaFault}
use Rattle.ice_meta.specs.declared.snapshot.Snapshot.{Snapshot}
use Rattle.ice_meta.specs.Targets.{bound_specs, list_of, metadata_of, resolved, snapshot_with}
use Rattle.icescan_text.specs.Faults.{of_meta}
use Rattle.icescan_text.specs.Reads.{as_run, schema_of}
use Rattle.icescan_text.specs.declared.fault.RunFault.{RunFault}
use Rattle.icescan_text.specs.declared.fault.RunFault.TheVariants as run
use Rattle.serde_json.specs.Data.{Data}
use Rattle.icescan_audit.specs.Summaries.{totals_under}
use Rattle.icescan_audit.specs.declared.subject.Subject.{Subject}

abbrev pub column_ids : Schema → List ℤ
column_ids schema = map (λ (c : Column). c.id) schema.columns

-- the columns, with the types of their values
abbrev pub typed_column : Column → TypedColumn
typed_column c = record { id = c.id; column_type = c.column_type }

abbrev pub typed_columns : Schema → List TypedColumn
typed_columns schema = map typed_column schema.columns

-- the sequence number of a snapshot; the table's last where there is none
abbrev pub number_of : Option Snapshot → ℕ → ℕ
number_of None last = last
number_of (Some snapshot) last = snapshot.sequence_number

abbrev pub number_under : Result ℤ MetaFault → Table → ℕ
number_under (Err fault) table = table.last_sequence_number
number_under (Ok id) table = number_of (snapshot_with id table) table.last_sequence_number

-- what the entries of a snapshot are held against, under a schema, before the rows of the list are known
abbrev pub basis_of : Schema → Table → Target → Basis
basis_of schema table target = record {
  specs = bound_specs schema table;
  columns = column_ids schema;
  typed = typed_columns schema;
  last = table.last_sequence_number;
  snapshot = number_under (resolved target table) table;
  has_deletes = false;
}

-- a snapshot of a table, which metadata that are this JSON describe, or that it has none such
unfoldable pub subject_in : Data → Table → Target → Result Subject RunFault
subject_in json table target = do
  list ← as_run of_meta (list_of target table)
  schema ← as_run of_meta (schema_of target table)
  Ok (record {
    list = list;
    basis = basis_of schema table target;
    said = totals_under (resolved target table) json;
  })

-- the same of the table whose metadata these are the bytes of, or the first fault of the bytes
unfoldable pub subject_of : List ℕ → Target → Result Subject RunFault
subject_of metadata target = do
  described ← as_run of_meta (metadata_of metadata)
  subject_in described.json described.table target

-- the faults of metadata
abbrev pub IsOfMetadata : RunFault → Type 0
IsOfMetadata (run.Metadata fault) = Unit {0}
IsOfMetadata run.Memory = Unit {0}
IsOfMetadata _ = ⊥
