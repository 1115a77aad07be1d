-- What the functions within this crate say of their parts. No public contract cites these words.
use Rattle.std.specs.Prelude.{◌≡◌, ℕ, Bool, true, false, not, ◌&&◌, List, [], ◌∷◌, Option, Some, None}
use Rattle.std.specs.Prelude.{slice_get, ℤ, if◌then◌else◌}
use Rattle.std.specs.Ordering.{int_eq, nat_cmp, is_lt}
use Rattle.std.specs.List.Sorted.{IsSortedBy}
use Rattle.contract_words.specs.Sorting.{sorted}
use Rattle.ice_meta.specs.declared.spec.Spec.{Spec}
use Rattle.ice_manifest_reading.specs.declared.entry.Entry.{Entry}
use Rattle.ice_value.specs.declared.file_content.FileContent.{FileContent}
use Rattle.ice_value.specs.declared.file_content.FileContent.TheVariants.{Data, PositionDeletes, EqualityDeletes}
use Rattle.ice_value.specs.Applying.{DataKey, DeleteKey, applies as key_applies}
use Rattle.ice_deletes.specs.Found.{holds as key_holds, numbers_where}
use Rattle.ice_filter.specs.declared.bound.BoundPredicate.{BoundPredicate}
use Rattle.ice_filter.specs.declared.parts.Part.{Part}
use Rattle.ice_project.specs.Files.{file_may}
use Rattle.ice_project.specs.Projection.{projection}
use Rattle.ice_project.specs.Tuples.{part_meets}
use Rattle.ice_project.specs.declared.part_filter.PartFilter.{PartFilter}
use Rattle.ice_manifest_fields.specs.declared.fault.ManifestFault.{ManifestFault}
use Rattle.ice_manifest_reading.specs.declared.row.Row.{Row}
use Rattle.ice_manifest_reading.specs.Manifests.{live_of}
use Rattle.ice_state.specs.declared.fault.FinishFault.{FinishFault}
use Rattle.ice_state.specs.declared.fault.FinishFault.TheVariants as faults
use Rattle.ice_state.specs.declared.fault.ScanFault.{ScanFault}
use Rattle.ice_state.specs.declared.fault.ScanFault.TheVariants.{NoSuchSpec}
use Rattle.ice_state.specs.PlaceLists.{LinePlaces}
use Rattle.ice_state.specs.Readings.{Reading}
use Rattle.ice_state.specs.Readings.{Good, Bad}
use Rattle.ice_state.specs.Contents.{Content, reading}
use Rattle.ice_state.specs.Pruning.{Pruner, holds, summaries_allow}
use Rattle.ice_state.specs.Specs.{id_before}

-- the fault is that the first of these rows has no spec
abbrev pub NamesFirst : ScanFault → List Row → Type 0
NamesFirst fault [] = ⊥
NamesFirst fault (row ∷ rows) = fault ≡ NoSuchSpec row.spec_id

-- the partition specs of a table, and a filter
pub record Filtered : Type 0 where
  pub specs : List Spec
  pub filter : List (Part BoundPredicate)

-- one of the specs, and the filter
pub record OfSpec : Type 0 where
  pub spec : Spec
  pub filter : List (Part BoundPredicate)

abbrev pub filtered_by : List (Part BoundPredicate) → Spec → OfSpec
filtered_by parts spec = record { spec = spec; filter = parts }

-- what the filter keeps of the manifests of the spec
abbrev pub pruner_by : OfSpec → Pruner
pruner_by f = record {
  meets = λ id tuple. part_meets (projection f.filter f.spec) tuple;
  bounds = file_may f.filter;
  wants = λ row. summaries_allow (projection f.filter f.spec) row.partitions;
}

-- what a manifest gives that is read by this spec and filter
abbrev pub reading_by : OfSpec → Row → List ℕ → Reading
reading_by f row bytes = reading (pruner_by f) (live_of row f.spec bytes)

-- specs in the order of their ids
abbrev pub AreById : List Spec → Type 0
AreById specs = IsSortedBy id_before specs

-- a projection that is held is that of the filter through the spec at its place
abbrev pub AreProjected : List (Part BoundPredicate) → List Spec → List (Option PartFilter) → Type 0
AreProjected parts specs held = (i : ℕ) (spec : Spec) (part : PartFilter) → slice_get specs i ≡ Some spec →
    slice_get held i ≡ Some (Some part) → part ≡ projection parts spec

-- this spec, where it has the id
abbrev pub if_of : ℤ → Option Spec → Option Spec
if_of id None = None
if_of id (Some spec) = if int_eq spec.id id then Some spec else None

-- the entry's file holds deletes
abbrev pub holds_deletes : Entry → Bool
holds_deletes d = not (holds Data d)

-- numbers, the lower ones first
abbrev pub ascending : List ℕ → List ℕ
ascending numbers = sorted (λ a b. is_lt (nat_cmp a b)) numbers

-- the numbers of the delete files that hold this and apply to x, as they stand in an index
abbrev pub numbers_of : FileContent → List (ℕ × DeleteKey) → DataKey → List ℕ
numbers_of content deletes x = numbers_where (λ d. key_holds content d && key_applies x d) deletes

-- the places of the delete files that apply to x, where their numbers are their places
abbrev pub places_of : List (ℕ × DeleteKey) → DataKey → LinePlaces
places_of deletes x =
    record {
      positions = ascending (numbers_of PositionDeletes deletes x);
      equalities = ascending (numbers_of EqualityDeletes deletes x);
    }

-- what a slot lacks of another
abbrev pub gain_of : Option Reading → Option Reading → Option Reading
gain_of None (Some r) = Some r
gain_of None None = None
gain_of (Some r) d = None

abbrev pub is_gain : Option Reading → Option Reading → Bool
is_gain None (Some r) = true
is_gain None None = false
is_gain (Some r) d = false

abbrev pub gains : Content → Content → Content
gains [] ds = []
gains (c ∷ cs) [] = []
gains (c ∷ cs) (d ∷ ds) = gain_of c d ∷ gains cs ds

-- no row is taken in both
abbrev pub IsApart : Option Reading → Option Reading → Type 0
IsApart (Some r) (Some q) = ⊥
IsApart None d = Unit {0}
IsApart (Some r) None = Unit {0}

abbrev pub AreApart : Content → Content → Type 0
AreApart [] ds = Unit {0}
AreApart (c ∷ cs) [] = Unit {0}
AreApart (c ∷ cs) (d ∷ ds) = IsApart c d × AreApart cs ds

-- the fault of a bad manifest
abbrev pub fault_of : Option Reading → Option ManifestFault
fault_of None = None
fault_of (Some (Good entries)) = None
fault_of (Some (Bad fault)) = Some fault

-- memory ran out, or the fault is the first of the list
abbrev pub IsFirst : FinishFault → List FinishFault → Type 0
IsFirst f [] = ⊥
IsFirst f (g ∷ gs) = f ≡ g

abbrev pub Stops : FinishFault → List FinishFault → Type 0
Stops faults.Memory fs = Unit {0}
Stops (faults.Missing p) fs = IsFirst (faults.Missing p) fs
Stops (faults.Bad p f) fs = IsFirst (faults.Bad p f) fs
Stops (faults.PathTwice p) fs = IsFirst (faults.PathTwice p) fs
