-- What `columns` makes of a table's metadata: the text of the columns that a filter names, or the first refusal; and
-- what is written of it. And what `show` makes of it as lines of JSON.
use Rattle.std.specs.Prelude.{◌≡◌, ℕ, List, Option, Result, Ok}
use Rattle.contract_words.specs.Outcome.{◌>>=◌}
use Rattle.serde_json.specs.Data.{Data}
use Rattle.ice_meta.specs.declared.fault.MetaFault.{MetaFault}
use Rattle.ice_meta.specs.declared.metadata.Target.{Target}
use Rattle.ice_meta.specs.declared.metadata.Target.TheVariants as target
use Rattle.ice_meta.specs.declared.schema.Schema.{Schema}
use Rattle.ice_meta.specs.declared.table.Table.{Table}
use Rattle.ice_meta.specs.Targets.{metadata_of, resolved}
use Rattle.ice_state.specs.Contents.{World}
use Rattle.icescan_columns.specs.JsonLines.{columns_objects, table_objects}
use Rattle.icescan_columns.specs.Texts.{columns_text}
use Rattle.icescan_columns.specs.declared.asked.Asked.{Asked}
use Rattle.icescan_columns.specs.declared.asked.Asked.TheVariants as asked
use Rattle.icescan_forms.specs.declared.format.Format.{Format}
use Rattle.icescan_forms.specs.declared.format.Format.TheVariants as format
use Rattle.icescan_print.specs.Written.{Appends, AppendsFront}
use Rattle.icescan_text.specs.Faults.{of_meta}
use Rattle.icescan_text.specs.Reads.{as_run, file_in, schema_of}
use Rattle.icescan_text.specs.declared.fault.RunFault.{RunFault}
use Rattle.icescan_text.specs.declared.fault.RunFault.TheVariants as run

-- a snapshot that is asked for by a name or an id is there; a table without snapshots has columns too
abbrev pub is_there : Target → Table → Result Unit MetaFault
is_there target.Main table = Ok tt
is_there (target.Ref name) table = resolved (target.Ref name) table >>= λ id. Ok tt
is_there (target.Snapshot id) table = resolved (target.Snapshot id) table >>= λ id. Ok tt

-- the columns of a schema of this metadata, and the partition specs of its table, in a form
abbrev pub columns_in : Format → Data → Schema → Table → List ℕ
columns_in format.Text json schema table = columns_text json schema table
columns_in format.Json json schema table = columns_objects json schema table

-- the same of the schema that counts for the target
unfoldable pub columns_for : Format → Data → Table → Target → Result (List ℕ) RunFault
columns_for form json table target = do
  _ ← as_run of_meta (is_there target table)
  schema ← as_run of_meta (schema_of target table)
  Ok (columns_in form json schema table)

-- what is made of the metadata that these are the bytes of, and of that in the file at a path
unfoldable pub made_of : (Data → Table → Result (List ℕ) RunFault) → List ℕ → Result (List ℕ) RunFault
made_of make metadata = as_run of_meta (metadata_of metadata) >>= λ described. make described.json described.table

unfoldable pub made_at : (Data → Table → Result (List ℕ) RunFault) → World → List ℕ → Result (List ℕ) RunFault
made_at make world path = file_in world path >>= λ metadata. made_of make metadata

-- what is asked of metadata
abbrev pub told : Asked → Data → Table → Result (List ℕ) RunFault
told (asked.Columns target form) json table = columns_for form json table target.now
told asked.Table json table = Ok (table_objects json table)

-- the columns that a filter of the target names, in a form
unfoldable pub columns_of : Format → List ℕ → Target → Result (List ℕ) RunFault
columns_of form metadata target = made_of (λ json table. columns_for form json table target) metadata

unfoldable pub columns_at : Format → World → List ℕ → Target → Result (List ℕ) RunFault
columns_at form world path target = made_at (λ json table. columns_for form json table target) world path

-- what metadata says, as lines of JSON
unfoldable pub shown_json_of : List ℕ → Result (List ℕ) RunFault
shown_json_of metadata = made_of (λ json table. Ok (table_objects json table)) metadata

unfoldable pub shown_json_at : World → List ℕ → Result (List ℕ) RunFault
shown_json_at world path = made_at (λ json table. Ok (table_objects json table)) world path

-- the faults of metadata
abbrev pub IsOfMetadata : RunFault → Type 0
IsOfMetadata (run.Metadata fault) = Unit {0}
IsOfMetadata run.Memory = Unit {0}
IsOfMetadata _ = ⊥

-- what was written is the text that is asked for, or a front of it
abbrev pub WroteText : Result (List ℕ) RunFault → Option (List ℕ) → Option (List ℕ) → Type 0
WroteText read output output' = (text : List ℕ) × (read ≡ Ok text) × Appends output output' text

abbrev pub WroteTextFront : Result (List ℕ) RunFault → Option (List ℕ) → Option (List ℕ) → Type 0
WroteTextFront read output output' = (text : List ℕ) × (read ≡ Ok text) × AppendsFront output output' text
