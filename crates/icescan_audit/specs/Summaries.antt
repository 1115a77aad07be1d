-- The totals that the summary of a snapshot says: Apache Iceberg table spec, version 2, "Snapshots" and "Optional
-- Snapshot Summary Fields". They are texts of whole numbers; what is another text, or no text, says nothing.
use Rattle.std.specs.Prelude.{◌^◌, ℕ, ℤ, Bool, false, ◌&&◌, nat_lt, List, [], ◌∷◌, length, codes}
use Rattle.std.specs.Prelude.{Option, Some, None, option_and_then, Result, Ok, Err, if◌then◌else◌}
use Rattle.std.specs.Char.{digit_value}
use Rattle.std.specs.List.{flat_map, list_all}
use Rattle.std.specs.Ordering.{int_eq}
use Rattle.std.specs.Str.Parse.{digits_value, without_leading_plus}
use Rattle.serde_json.specs.Data.{Data, Items, no_items, item}
use Rattle.serde_json.specs.Find.{as_array, as_i64, as_number, as_str, get}
use Rattle.ice_meta.specs.declared.fault.MetaFault.{MetaFault}
use Rattle.icescan_audit_findings.specs.declared.totals.SaidTotal.{SaidTotal}
use Rattle.icescan_audit_findings.specs.declared.totals.Total.{Total}
use Rattle.icescan_audit_findings.specs.declared.totals.Total.TheVariants.{DataFiles, DeleteFiles, Records}
use Rattle.icescan_audit_findings.specs.declared.totals.Total.TheVariants.{PositionDeletes, EqualityDeletes, FilesSize}

-- ---- a number

-- one decimal digit or more, and nothing else
abbrev pub is_numeral : List ℕ → Bool
is_numeral digits = nat_lt 0 (length digits) && list_all (λ d. nat_lt (digit_value d) 10) digits

abbrev pub number_of_digits : List ℕ → Option ℕ
number_of_digits digits =
    if is_numeral digits && nat_lt (digits_value 10 digits) (2 ^ 64) then Some (digits_value 10 digits) else None

-- the number of 64 bits that a text writes in decimal digits, where a plus may stand first
abbrev pub number_in : List ℕ → Option ℕ
number_in text = number_of_digits (without_leading_plus text)

-- ---- a summary

abbrev pub total_name : Total → List ℕ
total_name DataFiles = codes "total-data-files"
total_name DeleteFiles = codes "total-delete-files"
total_name Records = codes "total-records"
total_name PositionDeletes = codes "total-position-deletes"
total_name EqualityDeletes = codes "total-equality-deletes"
total_name FilesSize = codes "total-files-size"

-- what a summary says of a total
abbrev pub number_said : Data → Total → Option ℕ
number_said summary total = option_and_then number_in (option_and_then as_str (get (total_name total) summary))

abbrev pub all_totals : List Total
all_totals = DataFiles ∷ DeleteFiles ∷ Records ∷ PositionDeletes ∷ EqualityDeletes ∷ FilesSize ∷ []

abbrev pub said_where : Total → Option ℕ → List SaidTotal
said_where total None = []
said_where total (Some n) = record { total = total; number = n } ∷ []

abbrev pub said_in : Data → Total → List SaidTotal
said_in summary total = said_where total (number_said summary total)

-- the totals that a summary says, where there is one
abbrev pub totals_in : Option Data → List SaidTotal
totals_in None = []
totals_in (Some summary) = flat_map (said_in summary) all_totals

-- ---- a snapshot

abbrev pub is_id : ℤ → Option ℤ → Bool
is_id id None = false
is_id id (Some found) = int_eq found id

abbrev pub has_id : ℤ → Data → Bool
has_id id snapshot =
    is_id id (option_and_then as_i64 (option_and_then as_number (get (codes "snapshot-id") snapshot)))

-- the summary of the first of these snapshots that has the id
abbrev pub summary_among : ℤ → Items → Option Data
summary_among id no_items = None
summary_among id (item snapshot items) =
    if has_id id snapshot then get (codes "summary") snapshot else summary_among id items

abbrev pub summary_of : ℤ → Data → Option Data
summary_of id metadata =
    option_and_then (summary_among id) (option_and_then as_array (get (codes "snapshots") metadata))

-- the totals that are said of the snapshot of this id; none where there is no such snapshot
abbrev pub totals_under : Result ℤ MetaFault → Data → List SaidTotal
totals_under (Err fault) metadata = []
totals_under (Ok id) metadata = totals_in (summary_of id metadata)
