use Rattle.std.proofs.Common.{Result, sym, subst}
use Rattle.contract_words.specs.Outcome.{Gives}
use Rattle.ice_value.specs.declared.file_bounds.FileBounds.{FileBounds}
use Rattle.ice_manifest_fields.specs.declared.fault.FieldFault.{FieldFault}
use Rattle.ice_manifest_fields.specs.declared.fault.ManifestFault.TheVariants.{Memory}
use Rattle.ice_manifest_fields.specs.Naming.{in_manifest, told}
use Rattle.ice_manifest_values.proofs.Said.{columns_said}
use Rattle.ice_manifest_layouts.specs.Seen.{file_seen}
use Rattle.ice_manifest_reading.specs.Behind.{maps_at}
use Rattle.ice_manifest_reading.proofs.columns.columns_of.Goals as goal

pub returns : goal.returns
returns c =
    subst (λ (read : Result FileBounds FieldFault). Gives Memory (λ x. x) c.columns.result (told in_manifest read))
    (sym (columns_said (file_seen c.args.file.now))) (c.columns.ensures (maps_at c.args.file.now) c.requires)
