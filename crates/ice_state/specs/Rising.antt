-- Files whose paths rise. No public contract cites these words.
use Rattle.std.specs.Prelude.{◌≡◌, ℕ, suc, ◌<◌, ◌-◌, true, List, [], length, Option, Some, None, IsTrue}
use Rattle.std.specs.Cmp.Lexicographic.{slice_cmp}
use Rattle.std.specs.Ordering.{nat_cmp, is_lt}
use Rattle.ice_manifest_reading.specs.declared.entry.Entry.{Entry}
use Rattle.ice_state.specs.declared.kept.row_runs.Run.{Run}
use Rattle.ice_state.specs.Apart.{path_at}
use Rattle.ice_state.specs.Outcomes.{by_path, twice}

-- each path stands before the next one
abbrev pub Rise : List Entry → Type 0
Rise xs = (k : ℕ) → suc k < length xs → is_lt (slice_cmp nat_cmp (path_at xs k) (path_at xs (suc k))) ≡ true

-- the run begins and ends with the paths with which these do, and where it says so they rise
pub record HasEnds (xs : List Entry) (run : Run) : Type 0 where
  pub some : 0 < length xs
  pub first : run.first.now ≡ path_at xs 0
  pub last : run.last.now ≡ path_at xs (length xs - 1)
  pub rise : IsTrue run.rise → Rise xs

-- the run of entries, where there are any
abbrev pub IsRunOf : List Entry → Option Run → Type 0
IsRunOf xs None = xs ≡ []
IsRunOf xs (Some run) = HasEnds xs run

-- the entries stand in the order of their paths, and none of these stands twice
pub record HaveRisingPaths (xs : List Entry) : Type 0 where
  pub sorted : by_path xs ≡ xs
  pub once : twice xs ≡ []
