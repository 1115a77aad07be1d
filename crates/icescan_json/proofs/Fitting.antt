-- The numbers of a plan's JSON fit 64 bits, and it nests little.
use Rattle.std.proofs.Common.{◌≡◌, ℕ, ◌+◌, ◌^◌, ◌<◌, ◌≤◌, ℤ, pos, negsuc, List, [], ◌∷◌, ◌++◌, length, map, Bool}
use Rattle.std.proofs.Common.{true, false}
use Rattle.std.proofs.Common.{Option, Some, None, option_map, arith, tests}
use Rattle.std.specs.Prelude.{codes, nat_lt, if◌then◌else◌}
use Rattle.std.specs.List.{enumerate_from, AllByRecursion}
use Rattle.serde_json.specs.Data.{unsigned, Data, number, string, array, member}
use Rattle.serde_json.specs.Data.{Members, no_members, depth, items_depth, members_depth}
use Rattle.serde_json.specs.View.{items_of}
use Rattle.ice_value.specs.declared.cell.Cell.{Cell}
use Rattle.ice_value.specs.declared.cell.Cell.TheVariants.{Null, Bool as Flag, Whole, Text, Bytes}
use Rattle.ice_value.specs.declared.column_type.ColumnType.{ColumnType}
use Rattle.ice_value.specs.declared.column_type.ColumnType.TheVariants as type
use Rattle.ice_value.specs.declared.file_content.FileContent.{FileContent}
use Rattle.ice_value.specs.declared.file_content.FileContent.TheVariants as content
use Rattle.ice_value.specs.Bounds.{fits_long}
use Rattle.ice_manifest_reading.specs.declared.entry.Entry.{Entry}
use Rattle.ice_state.specs.PlaceLists.{LinePlaces}
use Rattle.ice_state.specs.PlacedFiles.{PlanPlaces, ArePlaced}
use Rattle.ice_state.specs.Lines.{AreWithin, IsLineWithin}
use Rattle.icescan_json.specs.declared.types.SpecTypes.{SpecTypes}
use Rattle.icescan_json.specs.Types.{types_of}
use Rattle.icescan_json.specs.Dates.{time_text}
use Rattle.icescan_forms.specs.Objects.{count_json, number_json}
use Rattle.icescan_json.specs.Values.{time_json, whole_json, bytes_json, cell_json, cells_json, type_at}
use Rattle.icescan_json.specs.PlanJson.{member_if, file_members, format_name, kind_members, delete_json}
use Rattle.icescan_json.specs.PlanJson.{data_json, references, task_json, tasks_json, plan_json}
use Rattle.icescan_json.specs.Told.{CanBeRead, Fits, FitsCell, FitsEntry, FitsItems, FitsMembers, HasFittingNumbers}

-- what fits and nests no deeper
abbrev Low : ℕ → Data → Type 0
Low n d = Fits d × (depth d ≤ n)

abbrev LowMembers : ℕ → Members → Type 0
LowMembers n ms = FitsMembers ms × (members_depth ms ≤ n)

each_low : {X : Type 0} (g : X → Data) (n : ℕ) (P : X → Type 0) → ((x : X) → P x → Low n (g x)) → (xs : List X)
    → AllByRecursion P xs → FitsItems (items_of (map g xs)) × (items_depth (items_of (map g xs)) ≤ n)
each_low g n P low [] h = (tt, omega arith)
each_low g n P low (x ∷ xs) h =
    let a = low x h.0 in
    let b = each_low g n P low xs h.1 in
    ((a.0, b.0), omega (arith, a.1, b.1))

number_low : (z : ℤ) → fits_long z ≡ true → Low 0 (number_json z)
number_low (pos n) h = (grind (arith, tests), omega arith)
number_low (negsuc n) h = (grind (arith, tests), omega arith)

time_low : (z : ℤ) → fits_long z ≡ true → Low 0 (time_json z)
time_low (negsuc n) h = number_low (negsuc n) h
time_low (pos n) h = go (nat_lt n 86_400_000_000) where
  go : (b : Bool) → Low 0 (if b then string (time_text n) else number_json (pos n))
  go true = (tt, omega arith)
  go false = number_low (pos n) h

whole_low : (t : Option ColumnType) (z : ℤ) → fits_long z ≡ true → Low 0 (whole_json t z)
whole_low None z h = number_low z h
whole_low (Some type.Boolean) z h = number_low z h
whole_low (Some type.Int) z h = number_low z h
whole_low (Some type.Long) z h = number_low z h
whole_low (Some type.Float) z h = number_low z h
whole_low (Some type.Double) z h = number_low z h
whole_low (Some type.Date) z h = (tt, omega arith)
whole_low (Some type.Time) z h = time_low z h
whole_low (Some type.Timestamp) z h = (tt, omega arith)
whole_low (Some type.Timestamptz) z h = (tt, omega arith)
whole_low (Some type.String) z h = number_low z h
whole_low (Some type.Uuid) z h = number_low z h
whole_low (Some (type.Fixed n)) z h = number_low z h
whole_low (Some type.Binary) z h = number_low z h
whole_low (Some (type.Decimal p s)) z h = number_low z h

bytes_low : (t : Option ColumnType) (bytes : List ℕ) → Low 0 (bytes_json t bytes)
bytes_low None bytes = (tt, omega arith)
bytes_low (Some type.Boolean) bytes = (tt, omega arith)
bytes_low (Some type.Int) bytes = (tt, omega arith)
bytes_low (Some type.Long) bytes = (tt, omega arith)
bytes_low (Some type.Float) bytes = (tt, omega arith)
bytes_low (Some type.Double) bytes = (tt, omega arith)
bytes_low (Some type.Date) bytes = (tt, omega arith)
bytes_low (Some type.Time) bytes = (tt, omega arith)
bytes_low (Some type.Timestamp) bytes = (tt, omega arith)
bytes_low (Some type.Timestamptz) bytes = (tt, omega arith)
bytes_low (Some type.String) bytes = (tt, omega arith)
bytes_low (Some type.Uuid) bytes = (tt, omega arith)
bytes_low (Some (type.Fixed n)) bytes = (tt, omega arith)
bytes_low (Some type.Binary) bytes = (tt, omega arith)
bytes_low (Some (type.Decimal p s)) bytes = (tt, omega arith)

cell_low : (t : Option ColumnType) (c : Cell) → FitsCell c → Low 0 (cell_json t c)
unfolding cell_json
cell_low t Null h = (tt, omega arith)
cell_low t (Flag truth) h = (tt, omega arith)
cell_low t (Whole z) h = whole_low t z h
cell_low t (Text text) h = (tt, omega arith)
cell_low t (Bytes bytes) h = bytes_low t bytes

cells_fit : (n : ℕ) (cells : List Cell) → AllByRecursion FitsCell cells
    → AllByRecursion (λ (p : ℕ × Cell). FitsCell p.1) (enumerate_from n cells)
cells_fit n [] h = tt
cells_fit n (c ∷ cs) h = (h.0, cells_fit (n + 1) cs h.1)

format_low : (format : Option (List ℕ)) (rest : Members) → LowMembers 1 rest
    → LowMembers 1 (member_if (codes "file-format") (option_map string format) rest)
format_low None rest low = low
format_low (Some name) rest low = ((tt, low.0), omega (arith, low.1))

-- what stands behind a file's format
abbrev behind_format : List SpecTypes → Entry → Members → Members
behind_format types x rest = member (codes "spec-id") (number_json x.spec_id)
    (member (codes "partition") (array (cells_json (types_of types x.spec_id) x.file.tuple))
    (member (codes "file-size-in-bytes") (number_json x.file.file_size)
    (member (codes "record-count") (number_json x.file.record_count)
    (member (codes "sequence-number") (count_json x.sequence_number) rest))))

behind_low : (types : List SpecTypes) (x : Entry) (rest : Members) → FitsEntry x → LowMembers 1 rest
    → LowMembers 1 (behind_format types x rest)
behind_low types x rest h low =
    let cells = each_low (λ p. cell_json (type_at (types_of types x.spec_id) p.0) p.1) 0 (λ p. FitsCell p.1)
    (λ p f. cell_low (type_at (types_of types x.spec_id) p.0) p.1 f) (enumerate_from 0 x.file.tuple)
    (cells_fit 0 x.file.tuple h.cells) in
    let spec = number_low x.spec_id h.spec in
    let size = number_low x.file.file_size h.size in
    let rows = number_low x.file.record_count h.rows in (
      (spec.0, (cells.0, (size.0, (rows.0, (h.sequence, low.0))))),
      omega (arith, spec.1, cells.1, size.1, rows.1, low.1),
    )

file_low : (types : List SpecTypes) (x : Entry) (rest : Members) → FitsEntry x → LowMembers 1 rest
    → LowMembers 1 (file_members types x rest)
unfolding file_members
file_low types x rest h low =
    let behind = format_low (format_name x) (behind_format types x rest) (behind_low types x rest h low) in
    ((tt, (tt, behind.0)), omega (arith, behind.1))

named_low : (path : Option (List ℕ)) → LowMembers 1
    (member_if (codes "referenced-data-file") (option_map string path) no_members)
named_low None = (tt, omega arith)
named_low (Some path) = ((tt, tt), omega arith)

kind_low : (x : Entry) (c : FileContent) → FitsEntry x → LowMembers 1 (kind_members x.file c)
kind_low x content.Data h = (tt, omega arith)
kind_low x content.PositionDeletes h = named_low x.file.referenced
kind_low x content.EqualityDeletes h =
    let ids = each_low number_json 0 (λ id. fits_long id ≡ true) number_low x.file.equality_ids h.ids in
    ((ids.0, tt), omega (arith, ids.1))

delete_low : (types : List SpecTypes) (x : Entry) → FitsEntry x → Low 2 (delete_json types x)
delete_low types x h =
    let low = file_low types x (kind_members x.file x.file.content) h (kind_low x x.file.content h) in
    (low.0, omega (arith, low.1))

data_low : (types : List SpecTypes) (x : Entry) → FitsEntry x → Low 2 (data_json types x)
data_low types x h =
    let low = file_low types x no_members h (tt, omega arith) in
    (low.0, omega (arith, low.1))

place_low : (n : ℕ) → n < 2 ^ 64 → Low 0 (number (unsigned n))
place_low n h = (h, omega arith)

references_low : (ns : List ℕ) → AllByRecursion (λ n. n < 2 ^ 64) ns → (rest : Members) → LowMembers 124 rest
    → LowMembers 124 (references ns rest)
references_low [] h rest low = low
references_low (n ∷ ns) h rest low =
    let items = each_low (λ i. number (unsigned i)) 0 (λ n. n < 2 ^ 64) place_low (n ∷ ns) h in
    ((items.0, low.0), omega (arith, items.1, low.1))

below : (k : ℕ) (ps es : List ℕ) → k < 2 ^ 64 → AreWithin k ps → AreWithin k es
    → AllByRecursion (λ n. n < 2 ^ 64) (ps ++ es)
below k [] [] h a b = tt
below k [] (e ∷ es) h a b = (omega (arith, b.0), below k [] es h tt b.1)
below k (p ∷ ps) es h a b = (omega (arith, a.0), below k ps es h a.1 b)

module _ (types : List SpecTypes) (residual : Data) (can : CanBeRead residual) where
  task_low : (k : ℕ) (x : Entry) (places : LinePlaces) → FitsEntry x → k < 2 ^ 64 → IsLineWithin k places
      → Low 125 (task_json types residual x places)
  unfolding task_json
  task_low k x places h few within =
      let file = data_low types x h in
      let deep = can.shallow in
      let low = references_low (places.positions ++ places.equalities)
      (below k places.positions places.equalities few within.0 within.1)
      (member (codes "residual-filter") residual no_members) ((can.fits, tt), omega (arith, deep)) in
      ((file.0, low.0), omega (arith, file.1, low.1))

  tasks_low : (k : ℕ) → k < 2 ^ 64 → (xs : List Entry) (ps : List LinePlaces) → AllByRecursion FitsEntry xs
      → AllByRecursion (IsLineWithin k) ps → FitsItems (items_of (tasks_json types residual xs ps))
      × (items_depth (items_of (tasks_json types residual xs ps)) ≤ 125)
  tasks_low k few [] ps h within = (tt, omega arith)
  tasks_low k few (x ∷ xs) [] h within = (tt, omega arith)
  tasks_low k few (x ∷ xs) (p ∷ ps) h within =
      let a = task_low k x p h.0 few within.0 in
      let b = tasks_low k few xs ps h.1 within.1 in
      ((a.0, b.0), omega (arith, a.1, b.1))

  pub plan_fits : (p : PlanPlaces) → HasFittingNumbers p → ArePlaced p
      → Fits (plan_json types residual p) × (depth (plan_json types residual p) ≤ 127)
  plan_fits p h placed =
      let deletes = each_low (delete_json types) 2 FitsEntry (delete_low types) p.deletes h.deletes in
      let tasks = tasks_low (length p.deletes) h.few p.files p.places h.files placed.within in
      ((tt, (deletes.0, (tasks.0, tt))), omega (arith, deletes.1, tasks.1))
