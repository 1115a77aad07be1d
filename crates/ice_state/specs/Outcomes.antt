-- What a content gives in the end: its first fault, or the plan.
use Rattle.std.specs.Prelude.{Bool, ◌&&◌, List, [], ◌∷◌, ◌++◌, map, filter, Option, Some, None, Result, Ok, Err}
use Rattle.std.specs.Prelude.{if◌then◌else◌}
use Rattle.std.specs.List.{flat_map}
use Rattle.std.specs.Cmp.Lexicographic.{slice_cmp}
use Rattle.std.specs.Ordering.{nat_cmp, is_lt}
use Rattle.std.specs.Str.{bytes_eq}
use Rattle.contract_words.specs.Sorting.{sorted}
use Rattle.ice_manifest_reading.specs.declared.entry.Entry.{Entry}
use Rattle.ice_value.specs.declared.file_content.FileContent.TheVariants.{Data, PositionDeletes, EqualityDeletes}
use Rattle.ice_manifest_reading.specs.declared.row.Row.{Row}
use Rattle.ice_state.specs.declared.fault.FinishFault.{FinishFault}
use Rattle.ice_state.specs.declared.fault.FinishFault.TheVariants as faults
use Rattle.ice_state.specs.Lines.{OwnedLine}
use Rattle.ice_state.specs.Readings.{Reading}
use Rattle.ice_state.specs.Readings.{Good, Bad}
use Rattle.ice_state.specs.Applying.{applies}
use Rattle.ice_state.specs.Contents.{Content}
use Rattle.ice_state.specs.Pruning.{holds}
use Rattle.ice_state.specs.Scans.{Scanned}

-- the kept entries of a content, one for each origin: a manifest's row and a position in that manifest
abbrev pub entries_in : Option Reading → List Entry
entries_in None = []
entries_in (Some (Bad fault)) = []
entries_in (Some (Good entries)) = entries

abbrev pub kept_in : Content → List Entry
kept_in c = flat_map entries_in c

-- in the order of their paths
abbrev pub path_before : Entry → Entry → Bool
path_before x y = is_lt (slice_cmp nat_cmp x.file.path y.file.path)

abbrev pub by_path : List Entry → List Entry
by_path xs = sorted path_before xs

-- the wanted rows that weren't taken
abbrev pub missing_at : Row → Option Reading → List FinishFault
missing_at row None = faults.Missing row.path ∷ []
missing_at row (Some r) = []

abbrev pub missing : List Row → Content → List FinishFault
missing [] slots = []
missing (row ∷ rows) [] = []
missing (row ∷ rows) (slot ∷ slots) = missing_at row slot ++ missing rows slots

-- the rows that are bad
abbrev pub bad_at : Row → Option Reading → List FinishFault
bad_at row None = []
bad_at row (Some (Good entries)) = []
bad_at row (Some (Bad fault)) = faults.Bad row.path fault ∷ []

abbrev pub bad : List Row → Content → List FinishFault
bad [] slots = []
bad (row ∷ rows) [] = []
bad (row ∷ rows) (slot ∷ slots) = bad_at row slot ++ bad rows slots

-- of entries by path: the paths that two neighbours share
abbrev pub twice : List Entry → List FinishFault
twice [] = []
twice (x ∷ []) = []
twice (x ∷ y ∷ ys) = if bytes_eq x.file.path y.file.path then faults.PathTwice x.file.path ∷ twice (y ∷ ys)
    else twice (y ∷ ys)

-- a data file with those of the delete files that apply to it
abbrev pub line_of : List Entry → Entry → OwnedLine
line_of deletes x = record {
  file = x;
  positions = filter (λ d. holds PositionDeletes d && applies x d) deletes;
  equalities = filter (λ d. holds EqualityDeletes d && applies x d) deletes;
}

-- each of these data files with those of the delete files that apply to it
abbrev pub plan_over : List Entry → List Entry → List OwnedLine
plan_over deletes xs = map (line_of deletes) (filter (holds Data) xs)

-- the first fault, or else the plan
abbrev pub first_or : List FinishFault → List OwnedLine → Result (List OwnedLine) FinishFault
first_or [] plan = Ok plan
first_or (f ∷ fs) plan = Err f

-- what keeps a content from being a plan, in the order in which it counts
abbrev pub faults_of : List Row → Content → List FinishFault
faults_of rows c = missing rows c ++ bad rows c ++ twice (by_path (kept_in c))

abbrev pub outcome_of : List Row → Content → Result (List OwnedLine) FinishFault
outcome_of rows c = first_or (faults_of rows c) (plan_over (by_path (kept_in c)) (by_path (kept_in c)))

-- the first missing row, else the first bad one, else the first path that is there twice, else the plan
abbrev pub outcome : Scanned → Content → Result (List OwnedLine) FinishFault
outcome scan c = outcome_of scan.wanted c
