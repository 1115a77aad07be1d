-- What lists and manifests call the faults of their containers and of their fields.
use Rattle.std.specs.Prelude.{Option, Some, None, Result, Ok, Err}
use Rattle.avro_file.specs.declared.fault.AvroFault.{AvroFault}
use Rattle.avro_file.specs.declared.fault.AvroFault.TheVariants as container
use Rattle.ice_manifest_fields.specs.declared.fault.FieldFault.{FieldFault}
use Rattle.ice_manifest_fields.specs.declared.fault.FieldFault.TheVariants.{Missing, WrongType, OutOfRange, BadContent}
use Rattle.ice_manifest_fields.specs.declared.fault.FieldFault.TheVariants.{FloatPartition}
use Rattle.ice_manifest_fields.specs.declared.fault.ListFault.{ListFault}
use Rattle.ice_manifest_fields.specs.declared.fault.ListFault.TheVariants as list
use Rattle.ice_manifest_fields.specs.declared.fault.ManifestFault.{ManifestFault}
use Rattle.ice_manifest_fields.specs.declared.fault.ManifestFault.TheVariants as manifest

-- what a fault of a container, and one of a field, is called
pub record Naming (E : Type 0) : Type 0 where
  pub of_container : AvroFault → E
  pub of_field : FieldFault → E

-- want of memory is never a fault of the file
abbrev pub lists_container : AvroFault → ListFault
lists_container container.Memory = list.Memory
lists_container f = list.Avro f

abbrev pub lists_field : FieldFault → ListFault
lists_field (Missing id) = list.MissingField id
lists_field (WrongType id) = list.WrongFieldType id
lists_field (OutOfRange id) = list.OutOfRange id
lists_field BadContent = list.BadContent
-- a list has no partition values
lists_field (FloatPartition id) = list.WrongFieldType id

abbrev pub in_list : Naming ListFault
in_list = record { of_container = lists_container; of_field = lists_field }

abbrev pub manifests_container : AvroFault → ManifestFault
manifests_container container.Memory = manifest.Memory
manifests_container f = manifest.Avro f

abbrev pub manifests_field : FieldFault → ManifestFault
manifests_field (Missing id) = manifest.MissingField id
manifests_field (WrongType id) = manifest.WrongFieldType id
manifests_field (OutOfRange id) = manifest.OutOfRange id
manifests_field BadContent = manifest.BadContent
manifests_field (FloatPartition id) = manifest.FloatPartition id

abbrev pub in_manifest : Naming ManifestFault
in_manifest = record { of_container = manifests_container; of_field = manifests_field }

-- a container's answer, as one of the file
abbrev pub contained : {A E : Type 0} → Naming E → Result A AvroFault → Result A E
contained named (Ok x) = Ok x
contained named (Err f) = Err (named.of_container f)

-- a field's answer, as one of the file
abbrev pub told : {A E : Type 0} → Naming E → Result A FieldFault → Result A E
told named (Ok x) = Ok x
told named (Err f) = Err (named.of_field f)

-- what was read up to the container's end, which may be a fault
abbrev pub ended : {A E : Type 0} → Naming E → Option AvroFault → A → Result A E
ended named None x = Ok x
ended named (Some f) x = Err (named.of_container f)
