-- Records with their paths: the first one of each path, and the further ones.
use Rattle.std.specs.Prelude.{◌≡◌, ◌≢◌, ℕ, ◌<◌, ◌++◌, List, [], ◌∷◌, length, map, slice_index_or, None, pos, ◌⊎◌}
use Rattle.std.specs.List.{AllByRecursion}
use Rattle.path_arena.specs.Arena.{string}
use Rattle.ice_state_entries.specs.declared.entries.EntryNumber.{EntryNumber}
use Rattle.ice_state_entries.specs.declared.entries.EntryNumber.TheVariants.{Record as First, Clash as Further}
use Rattle.ice_state_entries.specs.declared.table.Clash.{Clash}
use Rattle.ice_state_entries.specs.Own.{Own, Row}

pub record Rows : Type 0 where
  pub records : List Row
  pub clashes : List Row

abbrev pub no_rows : Rows
no_rows = record { records = []; clashes = [] }

-- each record with the path of its number
abbrev pub with_paths : List (List ℕ) → List Own → List Row
with_paths [] rs = []
with_paths (p ∷ ps) [] = []
with_paths (p ∷ ps) (r ∷ rs) = (p, r) ∷ with_paths ps rs

-- each further record with its path
abbrev pub with_their_paths : List (List ℕ) → List Clash → List Row
with_their_paths paths clashes = map (λ c. (string paths c.path, c.own)) clashes

-- the path of a further record is there
abbrev pub IsKnown : List (List ℕ) → Clash → Type 0
IsKnown paths clash = clash.path < length paths

-- as many records as paths, and the path of each further one
pub record IsTable (paths : List (List ℕ)) (records : List Own) (clashes : List Clash) : Type 0 where
  pub as_many : length paths ≡ length records
  pub known : AllByRecursion (IsKnown paths) clashes

-- what no number stands for
abbrev pub no_row : Row
no_row = (
  [],
  record { position = 0; record_count = pos 0; file_size = pos 0; common = 0; origin = 0; referenced = None },
)

abbrev pub IsIn : Rows → EntryNumber → Type 0
IsIn rows (First n) = n < length rows.records
IsIn rows (Further n) = n < length rows.clashes

abbrev pub row_at : Rows → EntryNumber → Row
row_at rows (First n) = slice_index_or rows.records n no_row
row_at rows (Further n) = slice_index_or rows.clashes n no_row

-- the row is put last, by this number
abbrev pub Puts : Rows → EntryNumber → Row → Rows → Type 0
Puts old (First n) row new =
    (n ≡ length old.records) × (new ≡ record { records = old.records ++ row ∷ []; clashes = old.clashes })
Puts old (Further n) row new =
    (n ≡ length old.clashes) × (new ≡ record { records = old.records; clashes = old.clashes ++ row ∷ [] })

-- the row has this number already, or is put last by it
abbrev pub Has : Rows → EntryNumber → Row → Rows → Type 0
Has old number row new = (IsIn old number × (row_at old number ≡ row) × (new ≡ old)) ⊎ Puts old number row new

-- no two records but the further ones have a path in common
abbrev pub HasOwnPaths : Rows → Type 0
HasOwnPaths rows =
    (m n : ℕ) → m < n → n < length rows.records →
    (slice_index_or rows.records m no_row).0 ≢ (slice_index_or rows.records n no_row).0

-- the path of each further record is that of a record
abbrev pub HasKnownPaths : Rows → Type 0
HasKnownPaths rows =
    (n : ℕ) → n < length rows.clashes →
    (m : ℕ) × (m < length rows.records) ×
    ((slice_index_or rows.records m no_row).0 ≡ (slice_index_or rows.clashes n no_row).0)
