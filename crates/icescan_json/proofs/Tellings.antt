-- What a plan's JSON says is the plan.
use Rattle.std.proofs.Common.{◌≡◌, ℕ, zero, suc, ◌<◌, List, [], ◌∷◌, ◌++◌, length, map}
use Rattle.std.proofs.Common.{Option, Some, None, option_map, option_and_then, refl, arith}
use Rattle.std.specs.Prelude.{codes}
use Rattle.std.specs.List.{AllByRecursion}
use Rattle.std.proofs.lemmas.Grind.{flat_map-append}
use Rattle.serde_json.specs.Data.{Data, string, array, object, number, unsigned, Items, Members, no_members, member}
use Rattle.serde_json.specs.Find.{get, get_item}
use Rattle.serde_json.specs.View.{items_of}
use Rattle.ice_value.specs.declared.file_content.FileContent.{FileContent}
use Rattle.ice_value.specs.declared.file_content.FileContent.TheVariants as content
use Rattle.ice_manifest_reading.specs.declared.entry.Entry.{Entry}
use Rattle.ice_state.specs.Lines.{entry_at, entries_at, line_at, lines_at, AreWithin, IsLineWithin}
use Rattle.ice_state.specs.PlaceLists.{LinePlaces}
use Rattle.ice_state.specs.PlacedFiles.{PlanPlaces, ArePlaced, plan_of}
use Rattle.icescan_json.specs.declared.types.SpecTypes.{SpecTypes}
use Rattle.icescan_json.specs.PlanJson.{content_name, member_if, file_members, format_name, kind_members, delete_json}
use Rattle.icescan_json.specs.PlanJson.{data_json, references}
use Rattle.icescan_json.specs.PlanJson.{task_json, tasks_json, plan_json}
use Rattle.icescan_json.specs.Types.{types_of}
use Rattle.icescan_forms.specs.Objects.{count_json, number_json}
use Rattle.icescan_json.specs.Values.{cells_json}
use Rattle.icescan_json.specs.Told.{by_key, items_by_key, each_item, named_in, path_in, path_of, paths_of, task_told}
use Rattle.icescan_json.specs.Told.{told}
use Rattle.icescan_json.specs.Told.{items_in}

-- a file whose format has this name, if it has one
abbrev file_with : Option (List ℕ) → List SpecTypes → Entry → Members → Members
file_with format types x rest = member (codes "content") (string (content_name x.file.content))
    (member (codes "file-path") (string x.file.path)
    (member_if (codes "file-format") (option_map string format)
    (member (codes "spec-id") (number_json x.spec_id)
    (member (codes "partition") (array (cells_json (types_of types x.spec_id) x.file.tuple))
    (member (codes "file-size-in-bytes") (number_json x.file.file_size)
    (member (codes "record-count") (number_json x.file.record_count)
    (member (codes "sequence-number") (count_json x.sequence_number) rest)))))))

abbrev HasPath : Option (List ℕ) → List SpecTypes → Entry → Members → Type 0
HasPath format types x rest = path_in (by_key (object (file_with format types x rest))) ≡ Some (path_of x)

data_has_path : (types : List SpecTypes) (x : Entry) (format : Option (List ℕ)) → HasPath format types x no_members
data_has_path types x None = refl
data_has_path types x (Some name) = refl

data_path : (types : List SpecTypes) (x : Entry) → path_in (by_key (data_json types x)) ≡ Some (path_of x)
unfolding file_members
data_path types x = data_has_path types x (format_name x)

named_has_path : (types : List SpecTypes) (x : Entry) (format path : Option (List ℕ)) → HasPath format types x
    (member_if (codes "referenced-data-file") (option_map string path) no_members)
named_has_path types x None None = refl
named_has_path types x None (Some path) = refl
named_has_path types x (Some name) None = refl
named_has_path types x (Some name) (Some path) = refl

ids_have_path : (types : List SpecTypes) (x : Entry) (format : Option (List ℕ))
    → HasPath format types x (kind_members x.file content.EqualityDeletes)
ids_have_path types x None = refl
ids_have_path types x (Some name) = refl

-- whatever a delete file has of its kind
kind_path : (types : List SpecTypes) (x : Entry) (c : FileContent)
    → path_in (by_key (object (file_members types x (kind_members x.file c)))) ≡ Some (path_of x)
unfolding file_members
kind_path types x content.Data = data_has_path types x (format_name x)
kind_path types x content.EqualityDeletes = ids_have_path types x (format_name x)
kind_path types x content.PositionDeletes = named_has_path types x (format_name x) x.file.referenced

delete_path : (types : List SpecTypes) (x : Entry) → path_in (by_key (delete_json types x)) ≡ Some (path_of x)
delete_path types x = kind_path types x x.file.content

abbrev pub deletes_of : List SpecTypes → List Entry → Items
deletes_of types ds = items_by_key (items_of (map (delete_json types) ds))

-- the path at a reference
named : (types : List SpecTypes) (ds : List Entry) (n : ℕ) → n < length ds → (d : Entry) × (entry_at ds n ≡ d ∷ [])
    × (option_and_then path_in (get_item n (deletes_of types ds)) ≡ Some (path_of d))
named types [] n l = absurd (omega arith)
named types (d ∷ ds) zero l = (d, refl, delete_path types d)
named types (d ∷ ds) (suc n) l = named types ds n (omega arith)

abbrev pub numbers_of : List ℕ → Items
numbers_of ns = items_by_key (items_of (map (λ i. number (unsigned i)) ns))

all_named : (types : List SpecTypes) (ds : List Entry) (ns : List ℕ) → AreWithin (length ds) ns
    → each_item (named_in (deletes_of types ds)) (numbers_of ns) ≡ Some (map path_of (entries_at ds ns))
all_named types ds [] h = refl
all_named types ds (n ∷ ns) h =
    let found = named types ds n h.0 in
    rw (found.2, all_named types ds ns h.1, found.1) refl

pub within_both : (k : ℕ) (ps es : List ℕ) → AreWithin k ps → AreWithin k es → AreWithin k (ps ++ es)
within_both k [] es a b = b
within_both k (p ∷ ps) es a b = (a.0, within_both k ps es a.1 b)

module _ (types : List SpecTypes) (residual : Data) (x : Entry) (places : LinePlaces) where
  abbrev with_references : List ℕ → Data
  with_references ns = by_key (object (member (codes "data-file") (data_json types x)
      (references ns (member (codes "residual-filter") residual no_members))))

  -- the references of a task
  pub referred : items_in (get (codes "delete-file-references") (by_key (task_json types residual x places)))
      ≡ numbers_of (places.positions ++ places.equalities)
  unfolding task_json
  referred = go (places.positions ++ places.equalities) where
    go : (ns : List ℕ) → items_in (get (codes "delete-file-references") (with_references ns)) ≡ numbers_of ns
    go [] = refl
    go (n ∷ ns) = refl

  pub task_file : get (codes "data-file") (by_key (task_json types residual x places))
      ≡ Some (by_key (data_json types x))
  unfolding task_json
  task_file = go (places.positions ++ places.equalities) where
    go : (ns : List ℕ) → get (codes "data-file") (with_references ns) ≡ Some (by_key (data_json types x))
    go [] = refl
    go (n ∷ ns) = refl

  pub task_residual : get (codes "residual-filter") (by_key (task_json types residual x places))
      ≡ Some (by_key residual)
  unfolding task_json
  task_residual = go (places.positions ++ places.equalities) where
    go : (ns : List ℕ) → get (codes "residual-filter") (with_references ns) ≡ Some (by_key residual)
    go [] = refl
    go (n ∷ ns) = refl

task_says : (types : List SpecTypes) (residual : Data) (ds : List Entry) (x : Entry) (places : LinePlaces)
    → IsLineWithin (length ds) places → task_told (deletes_of types ds) (by_key (task_json types residual x places))
    ≡ Some (paths_of (line_at ds x places))
task_says types residual ds x places within =
    rw (
      task_file types residual x places,
      referred types residual x places,
      data_path types x,
      all_named types ds (places.positions ++ places.equalities)
          (within_both (length ds) places.positions places.equalities within.0 within.1),
      flat_map-append,
    ) refl

tasks_say : (types : List SpecTypes) (residual : Data) (ds : List Entry) (xs : List Entry) (ps : List LinePlaces)
    → AllByRecursion (IsLineWithin (length ds)) ps
    → each_item (task_told (deletes_of types ds)) (items_by_key (items_of (tasks_json types residual xs ps)))
    ≡ Some (map paths_of (lines_at ds xs ps))
tasks_say types residual ds [] ps within = refl
tasks_say types residual ds (x ∷ xs) [] within = refl
tasks_say types residual ds (x ∷ xs) (p ∷ ps) within =
    rw (task_says types residual ds x p within.0, tasks_say types residual ds xs ps within.1) refl

pub plan_says : (types : List SpecTypes) (residual : Data) (p : PlanPlaces) → ArePlaced p
    → told (by_key (plan_json types residual p)) ≡ Some (map paths_of (plan_of p))
plan_says types residual p placed = tasks_say types residual p.deletes p.files p.places placed.within
