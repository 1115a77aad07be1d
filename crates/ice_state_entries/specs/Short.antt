-- Paths that an arena holds.
use Rattle.std.specs.Prelude.{ℕ, ◌≤◌, List, length}
use Rattle.std.specs.List.{AllByRecursion}

-- each has at most 65,535 bytes
abbrev pub AreShort : List (List ℕ) → Type 0
AreShort paths = AllByRecursion (λ path. length path ≤ 65535) paths
