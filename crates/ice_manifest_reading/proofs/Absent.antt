-- What lists and manifests of version 1 have no fields for.
use Rattle.std.proofs.Common.{◌≡◌, ℕ, ℤ, pos, Ok, Err, refl, sym, ◌∙◌}
use Rattle.avro_file.specs.Picking.{Typed}
use Rattle.ice_value.specs.declared.file_content.FileContent.{FileContent}
use Rattle.ice_value.specs.declared.file_content.FileContent.TheVariants as holds
use Rattle.ice_manifest_fields.specs.declared.fault.FieldFault.TheVariants.{BadContent}
use Rattle.ice_manifest_reading.specs.declared.row.ManifestContent.{ManifestContent}
use Rattle.ice_manifest_reading.specs.declared.row.ManifestContent.TheVariants.{Data, Deletes}
use Rattle.ice_manifest_fields.specs.Fields.{int_at, int_or_zero, number_at, number_or_zero}
use Rattle.ice_manifest_reading.specs.Lists as Lists
use Rattle.ice_manifest_reading.specs.Manifests.{content_at}
use Rattle.ice_manifest_reading.specs.Absent.{Lacks, IsZeroWhereAbsent, IsRefusedWhereNull, HasRowsOfVersionOne}
use Rattle.ice_manifest_reading.specs.Absent.{HasFilesOfVersionOne}
use Rattle.ice_manifest_reading.proofs.Guards.{ok_is}

pub is_zero_where_absent : IsZeroWhereAbsent
unfolding int_or_zero number_or_zero
is_zero_where_absent id x lacks = (rw lacks refl, rw lacks refl)

pub is_refused_where_null : IsRefusedWhereNull
unfolding int_or_zero number_or_zero int_at number_at
is_refused_where_null id t x has null = (rw (has, null) refl, rw (has, null) refl)

of_data : (x : Typed) (c : ManifestContent) → Lists.content_at x ≡ Ok c → Lacks (pos 517) x → c ≡ Data
unfolding Lists.content_at int_or_zero
of_data x c h lacks = let is : Data ≡ c = ok_is Data c (sym (rw lacks refl) ∙ h) in sym is

zero_of : (id : ℤ) (x : Typed) (n : ℕ) → number_or_zero id x ≡ Ok n → Lacks id x → n ≡ 0
unfolding number_or_zero
zero_of id x n h lacks = let is : 0 ≡ n = ok_is 0 n (sym (rw lacks refl) ∙ h) in sym is

pub has_rows_of_version_one : HasRowsOfVersionOne
has_rows_of_version_one x r m = (
  of_data x r.content m.content,
  zero_of (pos 515) x r.sequence_number m.sequence_number,
  zero_of (pos 516) x r.min_sequence_number m.min_sequence_number,
)

no_content : (c : FileContent) → Err BadContent ≡ Ok c → ⊥
no_content c h = cc

holds_data : (of_row : ManifestContent) (x : Typed) (c : FileContent) → content_at of_row x ≡ Ok c → Lacks (pos 134) x
    → (of_row ≡ Data) × (c ≡ holds.Data)
unfolding content_at int_or_zero
holds_data Data x c h lacks = let is : holds.Data ≡ c = ok_is holds.Data c (sym (rw lacks refl) ∙ h) in (refl, sym is)
holds_data Deletes x c h lacks = absurd (no_content c (sym (rw lacks refl) ∙ h))

pub has_files_of_version_one : HasFilesOfVersionOne
has_files_of_version_one of_row ps x d b m lacks = holds_data of_row x d.content m.content lacks
