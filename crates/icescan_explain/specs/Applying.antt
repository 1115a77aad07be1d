-- To how many data files of a plan a delete file applies: so often the plan names it.
use Rattle.std.specs.Prelude.{◌≡◌, ℕ, ◌+◌, List, [], ◌∷◌, filter, if◌then◌else◌, length, sum_by, unwrap_or}
use Rattle.std.specs.HashMap.{get_by}
use Rattle.std.specs.Str.{bytes_eq}
use Rattle.ice_manifest_reading.specs.declared.entry.Entry.{Entry}
use Rattle.ice_state.specs.Lines.{OwnedLine}
use Rattle.icescan_explain.specs.declared.applied.Applied.{Applied}

-- how many of the files have the path
abbrev pub named : List ℕ → List Entry → ℕ
named path ds = length (filter (λ (d : Entry). bytes_eq path d.file.path) ds)

-- how often a line of a plan names it
abbrev pub named_in_line : List ℕ → OwnedLine → ℕ
named_in_line path line = named path line.positions + named path line.equalities

abbrev pub applied : List OwnedLine → List ℕ → ℕ
applied plan path = sum_by (named_in_line path) plan

-- ---- counts by place and by path

-- how often those delete files were counted that have a path, where each one's count has its place
abbrev pub times_at : List ℕ → List Entry → List ℕ → ℕ
times_at path [] times = 0
times_at path (d ∷ ds) [] = 0
times_at path (d ∷ ds) (t ∷ ts) = (if bytes_eq path d.file.path then t else 0) + times_at path ds ts

abbrev pub times_in : Applied → List ℕ → ℕ
times_in a path = unwrap_or (get_by (λ k. bytes_eq path k.items) a.counts) 0

-- the counts are those of a plan
abbrev pub CountsOf : Applied → List OwnedLine → Type 0
CountsOf a plan = (path : List ℕ) → times_in a path ≡ applied plan path
