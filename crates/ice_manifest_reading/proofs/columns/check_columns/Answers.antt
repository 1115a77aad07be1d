use Rattle.std.proofs.Common.{Result, sym, subst}
use Rattle.ice_value.specs.declared.file_bounds.FileBounds.{FileBounds}
use Rattle.ice_manifest_fields.specs.declared.fault.FieldFault.{FieldFault}
use Rattle.ice_manifest_values.specs.Met.{Checks}
use Rattle.ice_manifest_values.proofs.Said.{columns_said}
use Rattle.ice_manifest_layouts.specs.Seen.{file_seen}
use Rattle.ice_manifest_reading.specs.Behind.{maps_at}
use Rattle.ice_manifest_reading.proofs.columns.check_columns.Goals as goal

pub returns : goal.returns
returns c =
    subst (λ (read : Result FileBounds FieldFault). Checks c.check.result read)
    (sym (columns_said (file_seen c.args.file.now))) (c.check.ensures (maps_at c.args.file.now) c.maps_of.ensures)
