-- Where the guide of an entry leads.
use Rattle.std.proofs.Common.{IfSome, Option, Some, None, refl}
use Rattle.avro_file_picked.specs.declared.guide.GuidedObject.{GuidedObject}
use Rattle.ice_manifest_values.specs.Met.{LeadsToMaps}
use Rattle.ice_manifest_layouts.specs.declared.entry_field.FileField.TheVariants.{ValueCounts, NullCounts, LowerBounds}
use Rattle.ice_manifest_layouts.specs.declared.entry_field.FileField.TheVariants.{UpperBounds}
use Rattle.ice_manifest_layouts.specs.declared.file.FoundFile.{FoundFile}
use Rattle.ice_manifest_layouts.specs.Seen.{IsGuidedFile}
use Rattle.ice_manifest_layouts.specs.FieldPaths.{wanted_field_paths}
use Rattle.ice_manifest_reading.specs.Behind.{maps_at}

pub leads_to_maps : (f : FoundFile) (guided : Option GuidedObject) → IfSome guided (λ g. IsGuidedFile f g)
    → LeadsToMaps guided (maps_at f)
leads_to_maps f None is = record { values = tt; nulls = tt; lower = tt; upper = tt }
leads_to_maps f (Some g) is = let field_paths = wanted_field_paths f.entry.now.partition.now in record {
  values = (field_paths, is.0, is.1, is.2, is.3 ValueCounts, (refl, (refl, tt)), (refl, (refl, tt)));
  nulls = (field_paths, is.0, is.1, is.2, is.3 NullCounts, (refl, (refl, tt)), (refl, (refl, tt)));
  lower = (field_paths, is.0, is.1, is.2, is.3 LowerBounds, (refl, (refl, tt)), (refl, (refl, tt)));
  upper = (field_paths, is.0, is.1, is.2, is.3 UpperBounds, (refl, (refl, tt)), (refl, (refl, tt)));
}
