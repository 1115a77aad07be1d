use Rattle.std.proofs.Common.{◌≡◌, ◌∙◌, refl, sym}
use denote.Enum.Bare.{sameb}
use Rattle.std.specs.Bool.{Decides}
use Rattle.std.proofs.lemmas.Slice.Eq.{slice_eq-Decides}
use Rattle.ice_manifest_reading.specs.declared.row.Row.{Row}
use Rattle.ice_manifest_reading.specs.declared.row.ManifestContent.{ManifestContent}
use Rattle.ice_manifest_reading.specs.declared.row.ManifestContent.TheVariants.{Data, Deletes}
use Rattle.ice_manifest_reading.specs.contracts.row.ManifestContent.{the_type}
use Rattle.ice_manifest_reading.specs.contracts.row.RowPartialEq.TheImpl as row_test
use Rattle.ice_manifest_reading.specs.Equality.{same_equal, same_is}
use Rattle.ice_manifest_reading.specs.Lists.{same_content, same_row}
use Rattle.ice_state.proofs.scan.Scan.wants_same_rows.Goals as goal

contents_alike : (x y : ManifestContent) → sameb the_type x y ≡ same_content x y
contents_alike Data Data = refl
contents_alike Data Deletes = refl
contents_alike Deletes Data = refl
contents_alike Deletes Deletes = refl

in_fields : (r s : Row) → row_test.eq-value.it r s ≡ same_row r s
unfolding same_row
in_fields r s = rw (contents_alike r.content s.content) refl

row_decides : (r s : Row) → Decides (row_test.eq-value.it r s) (r ≡ s)
row_decides r s = (λ h. same_is r s (sym (in_fields r s) ∙ h), λ e. in_fields r s ∙ same_equal r s e)

pub returns : goal.returns
returns c = rw (sym c.self.view_is, sym c.other.view_is) (slice_eq-Decides row_decides c.self.inside.wanted.items
    c.other.inside.wanted.items c.eq.result c.eq.ensures)
