-- Paths among others.
use Rattle.std.specs.Prelude.{ℕ, Bool, List, map}
use Rattle.std.specs.Cmp.Lexicographic.{slice_cmp}
use Rattle.std.specs.List.{list_any}
use Rattle.std.specs.Ordering.{nat_cmp}
use Rattle.std.specs.Borrow.{Bor}
use Rattle.std.specs.Str.{bytes_eq}
use Rattle.std.specs.declared.cmp.Ordering.{Ordering}

-- a path is one of these
abbrev pub has : List (List ℕ) → List ℕ → Bool
has paths path = list_any (λ p. bytes_eq p path) paths

-- the bytes of paths that are lent
abbrev pub lent : List (Bor (List ℕ)) → List (List ℕ)
lent paths = map (λ (p : Bor (List ℕ)). p.now) paths

-- the order of paths
abbrev pub path_order : Bor (List ℕ) → Bor (List ℕ) → Ordering
path_order a b = slice_cmp nat_cmp a.now b.now
