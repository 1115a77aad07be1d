-- What a client reads off a plan's JSON: the path of each data file, and the paths of the delete files that its
-- references name.
use Rattle.std.specs.Prelude.{◌≡◌, ℕ, ◌<◌, ◌≤◌, ◌^◌, pos, negsuc, true, List, [], ◌∷◌, ◌++◌, codes, length, map, Option, Some, None}
use Rattle.std.specs.Prelude.{option_map, option_and_then}
use Rattle.std.specs.List.{AllByRecursion}
use Rattle.serde_json.specs.Data.{Num, unsigned, negative, float, Data, null, boolean, number, string, array, object}
use Rattle.serde_json.specs.Data.{depth}
use Rattle.serde_json.specs.Data.{Items, no_items, item, Members, no_members, member, put}
use Rattle.serde_json.specs.Find.{get, get_item}
use Rattle.ice_manifest_reading.specs.declared.entry.Entry.{Entry}
use Rattle.ice_value.specs.declared.cell.Cell.{Cell}
use Rattle.ice_value.specs.declared.cell.Cell.TheVariants.{Whole}
use Rattle.ice_value.specs.Bounds.{fits_long}
use Rattle.ice_state.specs.Lines.{OwnedLine}
use Rattle.ice_state.specs.PlacedFiles.{PlanPlaces}

-- a text, where the value is one
abbrev pub text_in : Data → Option (List ℕ)
text_in (string s) = Some s
text_in _ = None

-- the items of an array; none where the value is no array
abbrev pub items_in : Option Data → Items
items_in (Some (array ds)) = ds
items_in _ = no_items

-- the text of a file's path
abbrev pub path_in : Data → Option (List ℕ)
path_in file = option_and_then text_in (get (codes "file-path") file)

-- the path of the delete file that a reference names
abbrev pub named_in : Items → Data → Option (List ℕ)
named_in deletes (number (unsigned n)) = option_and_then path_in (get_item n deletes)
named_in deletes _ = None

-- what each item says; nothing where one says nothing
abbrev pub each_item : {X : Type 0} → (Data → Option X) → Items → Option (List X)
each_item f no_items = Some []
each_item f (item d ds) = option_and_then (λ x. option_map (λ xs. x ∷ xs) (each_item f ds)) (f d)

-- a task's path, and the paths that its references name
abbrev pub task_told : Items → Data → Option (List ℕ × List (List ℕ))
task_told deletes task = option_and_then (λ path. option_map (λ paths. (path, paths))
    (each_item (named_in deletes) (items_in (get (codes "delete-file-references") task))))
    (option_and_then path_in (get (codes "data-file") task))

-- what the whole answer says
abbrev pub told : Data → Option (List (List ℕ × List (List ℕ)))
told plan = each_item (task_told (items_in (get (codes "delete-files") plan)))
    (items_in (get (codes "file-scan-tasks") plan))

-- the same of a plan
abbrev pub path_of : Entry → List ℕ
path_of x = x.file.path

abbrev pub paths_of : OwnedLine → List ℕ × List (List ℕ)
paths_of l = (path_of l.file, map path_of (l.positions ++ l.equalities))

-- ---- what a text is read as

-- the value with the members of each object in the order of their keys
abbrev mutual
  pub by_key : Data → Data
  by_key null = null
  by_key (boolean truth) = boolean truth
  by_key (number n) = number n
  by_key (string s) = string s
  by_key (array ds) = array (items_by_key ds)
  by_key (object ms) = object (members_by_key ms no_members)

  pub items_by_key : Items → Items
  items_by_key no_items = no_items
  items_by_key (item d ds) = item (by_key d) (items_by_key ds)

  -- the members among those that were found before
  pub members_by_key : Members → Members → Members
  members_by_key no_members found = found
  members_by_key (member key d ms) found = members_by_key ms (put key (by_key d) found)

-- A value's numbers fit 64 bits, and none is a fraction.
abbrev pub FitsNum : Num → Type 0
FitsNum (unsigned n) = n < 2 ^ 64
FitsNum (negative (pos n)) = ⊥
FitsNum (negative (negsuc n)) = n < 2 ^ 63
FitsNum (float x) = ⊥

abbrev mutual
  pub Fits : Data → Type 0
  Fits null = Unit {0}
  Fits (boolean truth) = Unit {0}
  Fits (number n) = FitsNum n
  Fits (string s) = Unit {0}
  Fits (array ds) = FitsItems ds
  Fits (object ms) = FitsMembers ms

  pub FitsItems : Items → Type 0
  FitsItems no_items = Unit {0}
  FitsItems (item d ds) = Fits d × FitsItems ds

  pub FitsMembers : Members → Type 0
  FitsMembers no_members = Unit {0}
  FitsMembers (member key d ms) = Fits d × FitsMembers ms

-- A filter can be read where it stands: `serde_json` reads values that nest 127 deep at most, and three stand around it.
pub record CanBeRead (filter : Data) : Type 0 where
  pub fits : Fits filter
  pub shallow : depth filter ≤ 124

-- The numbers of a plan fit 64 bits, as those of the program's entries do by their types.
abbrev pub FitsCell : Cell → Type 0
FitsCell (Whole z) = fits_long z ≡ true
FitsCell _ = Unit {0}

pub record FitsEntry (x : Entry) : Type 0 where
  pub sequence : x.sequence_number < 2 ^ 64
  pub spec : fits_long x.spec_id ≡ true
  pub size : fits_long x.file.file_size ≡ true
  pub rows : fits_long x.file.record_count ≡ true
  pub ids : AllByRecursion (λ id. fits_long id ≡ true) x.file.equality_ids
  pub cells : AllByRecursion FitsCell x.file.tuple

pub record HasFittingNumbers (p : PlanPlaces) : Type 0 where
  pub files : AllByRecursion FitsEntry p.files
  pub deletes : AllByRecursion FitsEntry p.deletes
  pub few : length p.deletes < 2 ^ 64
