-- Paths that entries share.
use Rattle.std.specs.Prelude.{◌≡◌, ℕ, ◌<◌, false, List, filter, length}
use Rattle.std.specs.Cmp.Lexicographic.{slice_cmp}
use Rattle.std.specs.Ordering.{nat_cmp, is_lt}
use Rattle.std.specs.Str.{bytes_eq}
use Rattle.ice_manifest_reading.specs.declared.entry.Entry.{Entry}

-- how many entries have the path
abbrev pub count_at : List Entry → List ℕ → ℕ
count_at xs p = length (filter (λ x. bytes_eq x.file.path p) xs)

-- the least path that two entries share
pub record IsLeastShared (xs : List Entry) (p : List ℕ) : Type 0 where
  pub shared : 1 < count_at xs p
  pub least : (q : List ℕ) → 1 < count_at xs q → is_lt (slice_cmp nat_cmp q p) ≡ false
