use Rattle.std.proofs.Common.{refl}
use Rattle.avro_file.specs.declared.fault.AvroFault.TheVariants.{Codec, Truncated, Schema}
use Rattle.ice_state_sections.specs.Parts.{number, run}
use Rattle.ice_state_sections.specs.Faults.{schema_fault}
use Rattle.ice_state_sections.proofs.FaultsAdded.{file_alone, file_with}
use Rattle.ice_state_sections.proofs.fault_writing.add_file_fault.Goals as goal

pub returns-in-Some : goal.returns-in-Some
returns-in-Some c = file_alone c.in-Some.code c.args.fault.now _ _ c.in-Some.ensures c.in_ok-add_number.ensures

pub returns-in_ok-add_run-in-Codec : goal.returns-in_ok-add_run-in-Codec
returns-in_ok-add_run-in-Codec c = rw c.in-Codec.is (file_with 1 run c.in-Codec.name (Codec c.in-Codec.name) _ _ _
    (λ s rest h. rw h refl) c.in_ok-bytes-in-Codec.ensures (rw c.as_slice.ensures at c.in_ok-add_run-in-Codec.ensures))

pub returns-in_ok-add_number-in-Truncated : goal.returns-in_ok-add_number-in-Truncated
returns-in_ok-add_number-in-Truncated c = rw c.in-Truncated.is (file_with 2 number c.in-Truncated.offset
    (Truncated c.in-Truncated.offset) _ _ _ (λ s rest h. rw h refl) c.in_ok-bytes-in-Truncated.ensures
    c.in_ok-add_number-in-Truncated.ensures)

pub returns-in_ok-add_schema_fault-in-Schema : goal.returns-in_ok-add_schema_fault-in-Schema
returns-in_ok-add_schema_fault-in-Schema c = rw c.in-Schema.is (file_with 8 schema_fault c.in-Schema.fault
    (Schema c.in-Schema.fault) _ _ _ (λ s rest h. rw h refl) c.in_ok-bytes-in-Schema.ensures
    c.in_ok-add_schema_fault-in-Schema.ensures)
