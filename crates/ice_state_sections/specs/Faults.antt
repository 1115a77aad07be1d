-- The fault of a manifest as a part of a section: a number for what it is, and then what it has. Want of memory is none
-- of these: a state keeps no such fault.
use Rattle.std.specs.Prelude.{ℕ, List, Ok, Err, ◌==◌, if◌then◌else◌}
use Rattle.contract_words.specs.Outcome.{◌>>=◌}
use Rattle.avro_schema.specs.declared.fault.SchemaFault.{SchemaFault}
use Rattle.avro_schema.specs.declared.fault.SchemaFault.TheVariants as schema
use Rattle.avro_file.specs.declared.fault.AvroFault.{AvroFault}
use Rattle.avro_file.specs.declared.fault.AvroFault.TheVariants as file
use Rattle.ice_manifest_fields.specs.declared.fault.ManifestFault.{ManifestFault}
use Rattle.ice_manifest_fields.specs.declared.fault.ManifestFault.TheVariants as manifest
use Rattle.ice_state_sections.specs.declared.section_fault.SectionFault.TheVariants.{NoSection}
use Rattle.ice_state_sections.specs.Parts.{Read, made, number, int, run}

-- ---- of a schema

abbrev pub schema_fault_of : ℕ → List ℕ → Read SchemaFault
schema_fault_of code rest =
    if code == 0 then Ok (schema.NotJson, rest) else (
    if code == 1 then Ok (schema.UnknownType, rest) else (
    if code == 2 then Ok (schema.UnknownName, rest) else (
    if code == 3 then Ok (schema.Recursive, rest) else (
    if code == 4 then Ok (schema.TooBig, rest) else (
    if code == 5 then made schema.FieldTwice (int rest) else (
    if code == 6 then Ok (schema.NameTwice, rest) else Err NoSection
    ))))))

unfoldable pub schema_fault : List ℕ → Read SchemaFault
schema_fault bytes = number bytes >>= λ code. schema_fault_of code.0 code.1

-- ---- of a container

abbrev pub file_fault_of : ℕ → List ℕ → Read AvroFault
file_fault_of code rest =
    if code == 0 then Ok (file.NotAvro, rest) else (
    if code == 1 then made file.Codec (run rest) else (
    if code == 2 then made file.Truncated (number rest) else (
    if code == 3 then Ok (file.BadNumber, rest) else (
    if code == 4 then Ok (file.BadUnion, rest) else (
    if code == 5 then Ok (file.BadUtf8, rest) else (
    if code == 6 then Ok (file.BadSync, rest) else (
    if code == 7 then Ok (file.BlockSize, rest) else (
    if code == 8 then made file.Schema (schema_fault rest) else (
    if code == 9 then Ok (file.BadBoolean, rest) else (
    if code == 10 then Ok (file.TooManyItems, rest) else Err NoSection
    ))))))))))

unfoldable pub file_fault : List ℕ → Read AvroFault
file_fault bytes = number bytes >>= λ code. file_fault_of code.0 code.1

-- ---- of a manifest

abbrev pub fault_of : ℕ → List ℕ → Read ManifestFault
fault_of code rest =
    if code == 0 then made manifest.Avro (file_fault rest) else (
    if code == 1 then made manifest.MissingField (int rest) else (
    if code == 2 then made manifest.WrongFieldType (int rest) else (
    if code == 3 then made manifest.OutOfRange (int rest) else (
    if code == 4 then Ok (manifest.BadStatus, rest) else (
    if code == 5 then Ok (manifest.BadContent, rest) else (
    if code == 6 then Ok (manifest.NoSequence, rest) else (
    if code == 7 then made manifest.FloatPartition (int rest) else Err NoSection
    )))))))

unfoldable pub fault : List ℕ → Read ManifestFault
fault bytes = number bytes >>= λ code. fault_of code.0 code.1
