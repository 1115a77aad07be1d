-- The marked rows of a scan, which are taken one after the other.
use Rattle.std.proofs.Common.{◌≡◌, ◌<◌, ℕ, zero, suc, true, false, Bool, List, [], ◌∷◌, length, arith}
use Rattle.std.specs.Prelude.{slice_index_or}

-- a row that is marked is one of those that have a mark
pub marked_below : (marks : List Bool) (i : ℕ) → slice_index_or marks i false ≡ true → i < length marks
marked_below [] i h = absurd cc
marked_below (m ∷ marks) zero h = omega arith
marked_below (m ∷ marks) (suc i) h = omega (arith, marked_below marks i h)
