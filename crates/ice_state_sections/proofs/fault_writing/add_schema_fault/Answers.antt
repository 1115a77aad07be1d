use Rattle.std.proofs.Common.{refl, w32, rules}
use Rattle.avro_schema.specs.declared.fault.SchemaFault.TheVariants.{FieldTwice}
use Rattle.ice_state_sections.specs.Parts.{int}
use Rattle.ice_state_sections.proofs.Added.{again}
use Rattle.ice_state_sections.proofs.FaultsAdded.{schema_alone, schema_with}
use Rattle.ice_state_sections.proofs.fault_writing.add_schema_fault.Goals as goal

pub returns-in-Some : goal.returns-in-Some
returns-in-Some c = schema_alone c.in-Some.code c.args.fault _ _ c.in-Some.ensures c.in_ok-add_number.ensures

pub returns-in_ok-add_int-in-FieldTwice : goal.returns-in_ok-add_int-in-FieldTwice
returns-in_ok-add_int-in-FieldTwice c = rw c.in-FieldTwice.is (schema_with 5 int c.in-FieldTwice.id
    (FieldTwice c.in-FieldTwice.id) _ _ _ (λ s rest h. rw h refl) c.in_ok-bytes-in-FieldTwice.ensures
    (again w32 int c.in-FieldTwice.id _ _ (search rules) c.in_ok-add_int-in-FieldTwice.ensures))
