-- What a table's entries are held against, once the rows of the manifest list are known.
use Rattle.std.specs.Prelude.{Bool, true, false, List}
use Rattle.std.specs.List.{list_any}
use Rattle.ice_manifest_reading.specs.declared.row.Row.{Row}
use Rattle.ice_manifest_reading.specs.declared.row.ManifestContent.{ManifestContent}
use Rattle.ice_manifest_reading.specs.declared.row.ManifestContent.TheVariants.{Data, Deletes}
use Rattle.icescan_audit_findings.specs.declared.basis.Basis.{Basis}

abbrev pub has_content_of_deletes : ManifestContent → Bool
has_content_of_deletes Data = false
has_content_of_deletes Deletes = true

-- a manifest of the list has deletes
abbrev pub have_deletes : List Row → Bool
have_deletes rows = list_any (λ (row : Row). has_content_of_deletes row.content) rows

abbrev pub among : List Row → Basis → Basis
among rows basis = record {
  specs = basis.specs;
  columns = basis.columns;
  typed = basis.typed;
  last = basis.last;
  snapshot = basis.snapshot;
  has_deletes = have_deletes rows;
}
