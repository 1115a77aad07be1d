-- Reading a table from left to right tells the first fault of the list of checks.
use Rattle.std.proofs.Common.{◌≡◌, ◌≢◌, List, Option, None, Some, Ok, Err, refl, sym, ap, ◌∙◌}
use Rattle.std.specs.Prelude.{ℕ, Result}
use Rattle.std.specs.Option.{option_or}
use Rattle.contract_words.specs.Outcome.{◌>>=◌}
use Rattle.serde_json.specs.Data.{Data}
use Rattle.ice_meta.specs.declared.fault.MetaFault.{MetaFault}
use Rattle.ice_meta.specs.declared.fault.Member.TheVariants as member
use Rattle.ice_meta.specs.declared.fault.MetaFault.TheVariants.{Memory}
use Rattle.ice_meta.specs.declared.table.Table.{Table}
use Rattle.ice_meta.specs.Members.{long_in, int_in, sequence_number_in}
use Rattle.ice_meta.specs.Tables.{json_of, version_in, uuid_in, location_in, schemas_in, current_schema_in, specs_in}
use Rattle.ice_meta.specs.Tables.{default_spec_in, current_snapshot_in, snapshots_in, refs_in, table_of}
use Rattle.ice_meta.specs.Order.{fault_of, checks, first_fault, metadata_fault}

-- what is read first has its fault told first
step : {A B : Type 0} (r : Result A MetaFault) (f : A → Result B MetaFault) (later : Option MetaFault)
    → ((x : A) → r ≡ Ok x → fault_of (f x) ≡ later) → fault_of (r >>= f) ≡ option_or (fault_of r) later
step (Ok x) f later h = h x refl
step (Err e) f later h = refl

pub table_fault : (d : Data) → fault_of (table_of d) ≡ first_fault (checks d)
unfolding table_of
table_fault d =
    step (version_in d) _ _ (λ version _. step (uuid_in d) _ _ (λ uuid _. step (location_in d) _ _ (λ location _.
    step (sequence_number_in member.LastSequenceNumber d) _ _ (λ last_sequence_number _.
    step (long_in member.LastUpdatedMs d) _ _ (λ last_updated_ms _. step (int_in member.LastColumnId d) _ _
    (λ last_column_id _.
    step (schemas_in d) _ _ (λ schemas were_schemas. rw were_schemas
    (step (current_schema_in schemas d) _ _ (λ current_schema_id _.
    step (specs_in d) _ _ (λ specs were_specs. rw were_specs
    (step (default_spec_in specs d) _ _ (λ default_spec_id _. step (int_in member.LastPartitionId d) _ _
    (λ last_partition_id _.
    step (current_snapshot_in d) _ _ (λ current_snapshot_id _. step (snapshots_in d) _ _ (λ snapshots _.
    step (refs_in d) _ _ (λ refs _. refl))))))))))))))))

pub no_json : (bytes : List ℕ) (e : MetaFault) → (e ≢ Memory → json_of bytes ≡ Err e) → e ≢ Memory
    → metadata_fault bytes ≡ Some e
no_json bytes e was ne = rw (was ne) refl

pub told : (bytes : List ℕ) (d : Data) (e : MetaFault) → json_of bytes ≡ Ok d → (e ≢ Memory → table_of d ≡ Err e)
    → e ≢ Memory
    → metadata_fault bytes ≡ Some e
told bytes d e was h ne = rw was (sym (table_fault d) ∙ ap fault_of (h ne))

pub none_told : (bytes : List ℕ) (d : Data) (t : Table) → json_of bytes ≡ Ok d → table_of d ≡ Ok t
    → metadata_fault bytes ≡ None
none_told bytes d t was h = rw was (sym (table_fault d) ∙ ap fault_of h)
