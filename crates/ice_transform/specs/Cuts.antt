-- Texts cut to a width (Apache Iceberg table spec v2, "Truncate Transform Details": the first L unicode code points of
-- a string). A code point's first byte says how many bytes follow it.
use Rattle.std.specs.Prelude.{ℕ, zero, suc, Bool, true, false, List, [], ◌∷◌}
use Rattle.std.specs.Str.{continuation_len}

-- the bytes of the first w code points, after k more bytes of the one that is open
abbrev pub points_from : ℕ → ℕ → List ℕ → List ℕ
points_from w k [] = []
points_from w (suc k) (b ∷ bs) = b ∷ points_from w k bs
points_from zero zero (b ∷ bs) = []
points_from (suc w) zero (b ∷ bs) = b ∷ points_from w (continuation_len b) bs

-- the bytes of the first w code points
abbrev pub first_points : ℕ → List ℕ → List ℕ
first_points w bs = points_from w 0 bs

-- w code points end within the bytes, after k more bytes of the one that is open
abbrev pub ends_points : ℕ → ℕ → List ℕ → Bool
ends_points zero zero bs = true
ends_points w k [] = false
ends_points w (suc k) (b ∷ bs) = ends_points w k bs
ends_points (suc w) zero (b ∷ bs) = ends_points w (continuation_len b) bs

-- the bytes have at least w code points
abbrev pub has_points : ℕ → List ℕ → Bool
has_points w bs = ends_points w 0 bs
