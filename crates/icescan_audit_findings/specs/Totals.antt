-- What the summary of a snapshot says of all its live files, held against these: Apache Iceberg table spec, version 2,
-- "Optional Snapshot Summary Fields".
use Rattle.std.specs.Prelude.{◌≡◌, ◌≢◌, ℤ, pos, ◌+ℤ◌, Bool, true, false, not, List, [], ◌∷◌, if◌then◌else◌}
use Rattle.std.specs.List.{Contains, flat_map}
use Rattle.std.specs.Ordering.{int_eq}
use Rattle.ice_value.specs.declared.file_content.FileContent.{FileContent}
use Rattle.ice_value.specs.declared.file_content.FileContent.TheVariants as holds
use Rattle.icescan_audit_findings.specs.declared.repeats.LiveFile.{LiveFile}
use Rattle.icescan_audit_findings.specs.declared.totals.FalseTotal.{FalseTotal}
use Rattle.icescan_audit_findings.specs.declared.totals.SaidTotal.{SaidTotal}
use Rattle.icescan_audit_findings.specs.declared.totals.Total.{Total}
use Rattle.icescan_audit_findings.specs.declared.totals.Total.TheVariants.{DataFiles, DeleteFiles, Records}
use Rattle.icescan_audit_findings.specs.declared.totals.Total.TheVariants.{PositionDeletes, EqualityDeletes, FilesSize}

abbrev pub is_data : FileContent → Bool
is_data holds.Data = true
is_data holds.PositionDeletes = false
is_data holds.EqualityDeletes = false

abbrev pub has_positions : FileContent → Bool
has_positions holds.Data = false
has_positions holds.PositionDeletes = true
has_positions holds.EqualityDeletes = false

abbrev pub has_equalities : FileContent → Bool
has_equalities holds.Data = false
has_equalities holds.PositionDeletes = false
has_equalities holds.EqualityDeletes = true

abbrev pub number_where : Bool → ℤ → ℤ
number_where is_counted number = if is_counted then number else pos 0

-- what a file of this content, of so many rows and so many bytes, adds to a total
abbrev pub adds : Total → FileContent → ℤ → ℤ → ℤ
adds DataFiles content rows bytes = number_where (is_data content) (pos 1)
adds DeleteFiles content rows bytes = number_where (not (is_data content)) (pos 1)
adds Records content rows bytes = number_where (is_data content) rows
adds PositionDeletes content rows bytes = number_where (has_positions content) rows
adds EqualityDeletes content rows bytes = number_where (has_equalities content) rows
adds FilesSize content rows bytes = bytes

abbrev pub file_adds : Total → LiveFile → ℤ
file_adds total x = adds total x.content x.record_count x.file_size

-- what live files come to
abbrev pub total_of : Total → List LiveFile → ℤ
total_of total [] = pos 0
total_of total (x ∷ xs) = file_adds total x +ℤ total_of total xs

-- a total that a summary says is false where the live files come to another number
abbrev pub false_where : Bool → SaidTotal → ℤ → List FalseTotal
false_where is_true said counted =
    if is_true then [] else record { total = said.total; said = said.number; counted = counted } ∷ []

abbrev pub false_total : List LiveFile → SaidTotal → List FalseTotal
false_total files said =
    false_where (int_eq (pos said.number) (total_of said.total files)) said (total_of said.total files)

-- those that are, in their order
abbrev pub false_totals : List LiveFile → List SaidTotal → List FalseTotal
false_totals files said = flat_map (false_total files) said

-- the summary says so, and the live files come to this, which is another number
pub record IsFalse (files : List LiveFile) (said : List SaidTotal) (x : FalseTotal) : Type 0 where
  pub is_said : Contains said (record { total = x.total; number = x.said })
  pub is_counted : x.counted ≡ total_of x.total files
  pub other : pos x.said ≢ x.counted
