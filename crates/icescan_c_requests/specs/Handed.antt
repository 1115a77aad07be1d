-- The files of a table that are handed in: those that are wanted, and those that were.
use Rattle.std.specs.Prelude.{ℕ, ◌+◌, ◌==◌, List, Bool, true, false, Option, Some, None, slice_get}
use Rattle.std.specs.FinMap.{empty, insert}
use Rattle.icescan_c_requests.specs.declared.handed.HandedFiles.{HandedFiles}

-- these files, of which none was handed in
abbrev pub none_of : List (List ℕ) → HandedFiles
none_of wanted = record { wanted = wanted; handed = 0; kept = empty }

-- the path of the next one; none where each was handed in
abbrev pub next_of : HandedFiles → Option (List ℕ)
next_of files = slice_get files.wanted files.handed

-- the file at this path was handed in
abbrev pub took_at : Option (List ℕ) → HandedFiles → List ℕ → HandedFiles
took_at None files bytes = files
took_at (Some path) files bytes = record {
  wanted = files.wanted;
  handed = files.handed + 1;
  kept = insert files.kept path bytes;
}

-- the next one was
abbrev pub took : HandedFiles → List ℕ → HandedFiles
took files bytes = took_at (next_of files) files bytes

-- whether there is a next one, and it is the first
abbrev pub is_first_at : Option (List ℕ) → ℕ → Bool
is_first_at None handed = false
is_first_at (Some path) handed = handed == 0

abbrev pub begins : HandedFiles → Bool
begins files = is_first_at (next_of files) files.handed
