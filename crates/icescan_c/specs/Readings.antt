-- What calls read of what a handle holds.
use Rattle.std.specs.Prelude.{◌≡◌, ℕ, List, [], length, slice_get, Option, Some, None, Result, Ok, Err, unwrap_or}
use Rattle.ice_manifest_reading.specs.declared.entry.Entry.{Entry}
use Rattle.ice_manifest_reading.specs.declared.row.Row.{Row}
use Rattle.ice_state.specs.Lines.{OwnedLine}
use Rattle.ice_state.specs.PlacedFiles.{PlanPlaces, plan_of}
use Rattle.ice_value.specs.declared.cell.Cell.{Cell}
use Rattle.ice_value.specs.declared.column_type.ColumnType.{ColumnType}
use Rattle.icescan_json.specs.Types.{types_of}
use Rattle.icescan_json.specs.Values.{type_at}
use Rattle.icescan_json.specs.declared.types.SpecTypes.{SpecTypes}
use Rattle.icescan_relaxed.specs.declared.requests.RelaxedRequest.{RelaxedRequest}
use Rattle.icescan_c_requests.specs.Handed.{next_of}
use Rattle.icescan_c_requests.specs.Reasons.{reason_in}
use Rattle.icescan_c_requests.specs.Statuses.{status_of}
use Rattle.icescan_c.specs.declared.held.Held.{Held}
use Rattle.icescan_c.specs.declared.held.Held.TheVariants as held
use Rattle.icescan_c.specs.declared.states.ScanPlan.{ScanPlan}
use Rattle.icescan_c_files.specs.Files.{IsFileOf}
use Rattle.icescan_c_files.specs.Values.{IsValueOf}
use Rattle.icescan_c_files.specs.declared.file.File.{File}
use Rattle.icescan_c_files.specs.declared.value.Value.{Value}
use Rattle.icescan_c_requests.specs.declared.endings.Refusal.{Refusal}
use Rattle.icescan_c_requests.specs.declared.endings.Refusal.TheVariants as refusal
use Rattle.icescan_c_requests.specs.declared.reason.Reason.{Reason}

-- ---- what is found

abbrev pub fault_in : Held → Result (List ℕ) Refusal
fault_in (held.Fault texts) = Ok texts.line
fault_in other = Err refusal.Kind

abbrev pub hint_in : Held → Result (List ℕ) Refusal
hint_in (held.Fault texts) = Ok texts.hint
hint_in other = Err refusal.Kind

abbrev pub text_in : Held → Result (List ℕ) Refusal
text_in (held.Text text) = Ok text
text_in other = Err refusal.Kind

abbrev pub list_in : Held → Result (List ℕ) Refusal
list_in (held.Selection answer) = Ok answer.selection.list
list_in (held.Subject subject) = Ok subject.list
list_in other = Err refusal.Kind

-- the rows that a scan or an audit wants
abbrev pub wanted_in : Held → Result (List Row) Refusal
wanted_in (held.Scan asked) = Ok asked.scan.wanted
wanted_in (held.Audit audit) = Ok audit.rows
wanted_in other = Err refusal.Kind

-- a plan with the types of its partition values, and its lines
abbrev pub plan_in : Held → Result ScanPlan Refusal
plan_in (held.Plan plan) = Ok plan
plan_in other = Err refusal.Kind

abbrev pub lines_of : Result ScanPlan Refusal → Result (List OwnedLine) Refusal
lines_of (Ok plan) = Ok plan.plan
lines_of (Err refused) = Err refused

abbrev pub lines_in : Held → Result (List OwnedLine) Refusal
lines_in held = lines_of (plan_in held)

-- what a relaxed filter is made of
abbrev pub relaxed_in : Held → Result RelaxedRequest Refusal
relaxed_in (held.Relaxed made) = Ok made
relaxed_in other = Err refusal.Kind

-- the text of the relaxed filter, which has no bytes where no filter was asked; and the predicates that it does not ask
abbrev pub filter_of : Result RelaxedRequest Refusal → Result (List ℕ) Refusal
filter_of (Ok made) = Ok (unwrap_or made.request.filter [])
filter_of (Err refused) = Err refused

abbrev pub unasked_of : Result RelaxedRequest Refusal → Result (List (List ℕ)) Refusal
unasked_of (Ok made) = Ok made.unasked
unasked_of (Err refused) = Err refused

-- the files that a commit adds, each with its path
abbrev pub added_in : Held → Result (List (List ℕ × List ℕ)) Refusal
added_in (held.Commit files) = Ok files.added
added_in other = Err refusal.Kind

-- and the metadata that names them
abbrev pub metadata_in : Held → Result (List ℕ) Refusal
metadata_in (held.Commit files) = Ok files.metadata
metadata_in other = Err refusal.Kind

-- how many there are, and the one at a place
abbrev pub count_of : {X : Type 0} → Result (List X) Refusal → Result ℕ Refusal
count_of (Ok xs) = Ok (length xs)
count_of (Err refused) = Err refused

abbrev pub or_past : {X : Type 0} → Option X → Result X Refusal
or_past (Some x) = Ok x
or_past None = Err refusal.PastEnd

abbrev pub at_place : {X : Type 0} → Result (List X) Refusal → ℕ → Result X Refusal
at_place (Ok xs) i = or_past (slice_get xs i)
at_place (Err refused) i = Err refused

-- the path of the file that a commit or an explanation wants next
abbrev pub next_in : Held → Result (List ℕ) Refusal
next_in (held.Change commit) = or_past (next_of commit.files)
next_in (held.Explanation explanation) = or_past (next_of explanation.files)
next_in other = Err refusal.Kind

-- the path and the bytes of a file that a commit adds
abbrev pub name_of : Result (List ℕ × List ℕ) Refusal → Result (List ℕ) Refusal
name_of (Ok file) = Ok file.0
name_of (Err refused) = Err refused

abbrev pub bytes_of : Result (List ℕ × List ℕ) Refusal → Result (List ℕ) Refusal
bytes_of (Ok file) = Ok file.1
bytes_of (Err refused) = Err refused

abbrev pub path_of : Result Row Refusal → Result (List ℕ) Refusal
path_of (Ok row) = Ok row.path
path_of (Err refused) = Err refused

abbrev pub positions_of : Result OwnedLine Refusal → Result (List Entry) Refusal
positions_of (Ok line) = Ok line.positions
positions_of (Err refused) = Err refused

abbrev pub equalities_of : Result OwnedLine Refusal → Result (List Entry) Refusal
equalities_of (Ok line) = Ok line.equalities
equalities_of (Err refused) = Err refused

abbrev pub file_of : Result OwnedLine Refusal → Result Entry Refusal
file_of (Ok line) = Ok line.file
file_of (Err refused) = Err refused

-- a partition value, and its type where that is known
abbrev pub with_type : Option ColumnType → Option Cell → Result (Cell × Option ColumnType) Refusal
with_type known (Some cell) = Ok (cell, known)
with_type known None = Err refusal.PastEnd

-- the one at a place of a file, by the types of the specs
abbrev pub value_of : List SpecTypes → Entry → ℕ → Result (Cell × Option ColumnType) Refusal
value_of types entry k = with_type (type_at (types_of types entry.spec_id) k) (slice_get entry.file.tuple k)

abbrev pub value_in : List SpecTypes → Result Entry Refusal → ℕ → Result (Cell × Option ColumnType) Refusal
value_in types (Ok entry) k = value_of types entry k
value_in types (Err refused) k = Err refused

-- the one of a data file of a plan
abbrev pub value_at : Result ScanPlan Refusal → ℕ → ℕ → Result (Cell × Option ColumnType) Refusal
value_at (Ok plan) i k = value_in plan.types (file_of (or_past (slice_get plan.plan i))) k
value_at (Err refused) i k = Err refused

-- ---- what is told of it

-- that number
abbrev pub IsCount : ℕ → ℕ → Type 0
IsCount told counted = told ≡ counted

-- the data file at a place, to which so many delete files apply
abbrev pub IsFileOfLine : ℕ → File → OwnedLine → Type 0
IsFileOfLine i file line = IsFileOf line.file i (length line.positions) (length line.equalities) file

-- a delete file, by some number
abbrev pub IsDeleteOf : File → Entry → Type 0
IsDeleteOf file entry = (number : ℕ) × IsFileOf entry number 0 0 file

-- a partition value
abbrev pub IsTyped : Value → Cell × Option ColumnType → Type 0
IsTyped value found = IsValueOf found.0 found.1 value

-- the number of the refusal that a line tells
abbrev pub IsReason : Reason → List ℕ → Type 0
IsReason reason line = reason ≡ reason_in line

-- what a call tells that reads what was found: it, or the refusal, and then what it was to write stays as it was
abbrev pub Tells : {X Y : Type 0} → (Y → X → Type 0) → Result X Refusal → Y → ℕ → Y → Type 0
Tells tells (Ok x) before status after = (status ≡ 0) × tells after x
Tells tells (Err refused) before status after = (status ≡ status_of (Err refused)) × (after ≡ before)

-- the same of what a handle holds; one that holds nothing is refused
abbrev pub Reads : {X Y : Type 0} → (Y → X → Type 0) → (Held → Result X Refusal) → Option Held → Y → ℕ → Y → Type 0
Reads tells found None before status after = (status ≡ status_of (Err refusal.Kind)) × (after ≡ before)
Reads tells found (Some held) before status after = Tells tells (found held) before status after

-- ---- the delete files of a plan, each once

-- how many there are
abbrev pub TellsCountOfDeletes : List SpecTypes → List Entry → ℕ → ℕ → ℕ → Type 0
TellsCountOfDeletes types deletes before status after = Tells IsCount (Ok (length deletes)) before status after

-- the one of a number
abbrev pub TellsDelete : ℕ → List SpecTypes → List Entry → File → ℕ → File → Type 0
TellsDelete n types deletes before status after =
    Tells (λ file entry. IsFileOf entry n 0 0 file) (or_past (slice_get deletes n)) before status after

-- a partition value of it
abbrev pub TellsDeleteValue : ℕ → ℕ → List SpecTypes → List Entry → Value → ℕ → Value → Type 0
TellsDeleteValue n k types deletes before status after =
    Tells IsTyped (value_in types (or_past (slice_get deletes n)) k) before status after

-- That is told of the delete files by which a plan has its lines, and of the types of their partition values: those
-- that apply to a data file, and perhaps others. What holds no plan is refused.
abbrev pub OfPlaced : {Y : Type 0} → (List SpecTypes → List Entry → Y → ℕ → Y → Type 0) → Held → Y → ℕ → Y → Type 0
OfPlaced tells (held.Plan plan) before status after =
    (placed : PlanPlaces) × (plan_of placed ≡ plan.plan) × tells plan.types placed.deletes before status after
OfPlaced tells other before status after = (status ≡ status_of (Err refusal.Kind)) × (after ≡ before)

abbrev pub ReadsPlaced : {Y : Type 0} → (List SpecTypes → List Entry → Y → ℕ → Y → Type 0) → Option Held → Y → ℕ → Y
    → Type 0
ReadsPlaced tells None before status after = (status ≡ status_of (Err refusal.Kind)) × (after ≡ before)
ReadsPlaced tells (Some held) before status after = OfPlaced tells held before status after
