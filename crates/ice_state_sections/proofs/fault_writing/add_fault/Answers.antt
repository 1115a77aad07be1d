use Rattle.std.proofs.Common.{refl, w32, rules}
use Rattle.ice_manifest_fields.specs.declared.fault.ManifestFault.TheVariants.{Avro}
use Rattle.ice_state_sections.specs.Parts.{int}
use Rattle.ice_state_sections.specs.Faults.{file_fault}
use Rattle.ice_state_sections.proofs.Added.{again}
use Rattle.ice_state_sections.proofs.FaultsAdded.{fault_alone, fault_with}
use Rattle.ice_state_sections.proofs.fault_writing.add_fault.Goals as goal

pub returns-in-Some : goal.returns-in-Some
returns-in-Some c = fault_alone c.in-Some.code c.args.fault.now _ _ c.in-Some.ensures c.in_ok-add_number.ensures

pub returns-in-Some-field_code : goal.returns-in-Some-field_code
returns-in-Some-field_code c = fault_with c.in-Some-field_code.code int c.in-Some-field_code.id c.args.fault.now _ _ _
    c.in-Some-field_code.ensures c.in_ok-bytes.ensures (again w32 int c.in-Some-field_code.id _ _
    (search rules) c.in_ok-add_int.ensures)

pub returns-in_ok-add_file_fault-in-Avro : goal.returns-in_ok-add_file_fault-in-Avro
returns-in_ok-add_file_fault-in-Avro c = rw c.in-Avro.is (fault_with 0 file_fault c.in-Avro.fault (Avro c.in-Avro.fault)
    _ _ _ (λ s rest h. rw h refl) c.in_ok-bytes-in-Avro.ensures c.in_ok-add_file_fault-in-Avro.ensures)
