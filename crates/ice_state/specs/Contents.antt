-- What a partial state contains.
use Rattle.std.specs.Prelude.{◌≡◌, ℕ, zero, suc, Bool, true, false, List, [], ◌∷◌, length, replicate, Option, Some}
use Rattle.std.specs.Prelude.{None, is_some, option_map, slice_set, slice_index_or, Result, Ok, Err}
use Rattle.std.specs.List.{AllByRecursion}
use Rattle.ice_meta.specs.declared.spec.Spec.{Spec}
use Rattle.ice_manifest_reading.specs.declared.entry.Live.{Live}
use Rattle.ice_manifest_fields.specs.declared.fault.ManifestFault.{ManifestFault}
use Rattle.ice_manifest_reading.specs.declared.row.Row.{Row}
use Rattle.ice_manifest_reading.specs.Manifests.{live_of}
use Rattle.ice_state.specs.Readings.{Reading}
use Rattle.ice_state.specs.Readings.{Good, Bad}
use Rattle.ice_state.specs.Pruning.{Pruner, kept}
use Rattle.ice_state.specs.Scans.{Scanned, pruner}
use Rattle.ice_state.specs.Specs.{spec_of}

-- for each wanted row, in the order of their paths: what its manifest gave, or nothing where it wasn't taken
abbrev pub Content : Type 0
Content = List (Option Reading)

-- the state has a place for each wanted row of the scan
abbrev pub IsOf : Scanned → Content → Type 0
IsOf scan c = length c ≡ length scan.wanted

-- a path's bytes, or nothing
abbrev pub World : Type 0
World = List ℕ → Option (List ℕ)

-- the live entries of a row's manifest, or its first fault; no scan has a row whose spec is missing
abbrev pub live_by : Option Spec → Row → List ℕ → Result (List Live) ManifestFault
live_by (Some spec) row bytes = live_of row spec bytes
live_by None row bytes = Ok []

abbrev pub manifest_of : List Spec → Row → List ℕ → Result (List Live) ManifestFault
manifest_of specs row bytes = live_by (spec_of specs row.spec_id) row bytes

-- what is kept of it: the kept entries in the order of their positions, or the fault
abbrev pub reading : Pruner → Result (List Live) ManifestFault → Reading
reading p (Ok found) = Good (kept p found)
reading p (Err fault) = Bad fault

abbrev pub reading_of : Scanned → Row → List ℕ → Reading
reading_of scan row bytes = reading (pruner scan) (manifest_of scan.specs row bytes)

-- what one row gives in a world, where it is in the set
abbrev pub slot_of : World → Scanned → Bool → Row → Option Reading
slot_of world scan true row = option_map (reading_of scan row) (world row.path)
slot_of world scan false row = None

abbrev pub slots_of : World → Scanned → List Bool → List Row → Content
slots_of world scan [] rows = []
slots_of world scan (t ∷ ts) [] = []
slots_of world scan (t ∷ ts) (row ∷ rows) = slot_of world scan t row ∷ slots_of world scan ts rows

-- the content of a set of wanted rows, which has a flag for each of them
abbrev pub content : World → Scanned → List Bool → Content
content world scan ts = slots_of world scan ts scan.wanted

-- the sets of no row and of every row
abbrev pub no_row : Scanned → List Bool
no_row scan = replicate (length scan.wanted) false

abbrev pub every_row : Scanned → List Bool
every_row scan = replicate (length scan.wanted) true

-- the set with one more row
abbrev pub add : List Bool → ℕ → List Bool
add ts i = slice_set ts i true

-- the world has these bytes at the path of the wanted row i
abbrev pub HasBytesAt : World → List Row → ℕ → List ℕ → Type 0
HasBytesAt world [] i bytes = ⊥
HasBytesAt world (row ∷ rows) zero bytes = world row.path ≡ Some bytes
HasBytesAt world (row ∷ rows) (suc i) bytes = HasBytesAt world rows i bytes

abbrev pub HasBytes : World → Scanned → ℕ → List ℕ → Type 0
HasBytes world scan i bytes = HasBytesAt world scan.wanted i bytes

-- the world has a manifest for each of these rows
abbrev pub HasEach : World → List Row → Type 0
HasEach world rows = AllByRecursion (λ row. is_some (world row.path) ≡ true) rows

-- whether the wanted row i was taken
abbrev pub is_row_taken : Content → ℕ → Bool
is_row_taken c i = is_some (slice_index_or c i None)

-- where a row was taken it stays as it is
abbrev pub or_else : Option Reading → Option Reading → Option Reading
or_else (Some r) other = Some r
or_else None other = other

-- the content with one more row, by what it gave
abbrev pub with_row : Content → ℕ → Reading → Content
with_row [] i r = []
with_row (s ∷ ss) zero r = or_else s (Some r) ∷ ss
with_row (s ∷ ss) (suc i) r = s ∷ with_row ss i r

abbrev pub took_at : Scanned → Content → List Row → ℕ → List ℕ → Content
took_at scan [] rows i bytes = []
took_at scan (s ∷ ss) [] i bytes = s ∷ ss
took_at scan (s ∷ ss) (row ∷ rows) zero bytes = or_else s (Some (reading_of scan row bytes)) ∷ ss
took_at scan (s ∷ ss) (row ∷ rows) (suc i) bytes = s ∷ took_at scan ss rows i bytes

-- the content with one more row, whose manifest has these bytes
abbrev pub took : Scanned → Content → ℕ → List ℕ → Content
took scan c i bytes = took_at scan c scan.wanted i bytes
