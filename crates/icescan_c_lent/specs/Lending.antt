-- What lies where something was lent.
use Rattle.std.specs.Prelude.{ℕ, List, [], length, Option, Some, None}
use base.Fml.{Lft, Fml, ftrue, fsep, feq, fex}
use denote.RattleType.{RattleType}
use denote.RawPtr.{Ptr, block_ptr, null_ptr}
use denote.Slice.{elements_shared}

-- Who holds a borrow of these items, which begin at the pointer, has this for as long as the borrow lasts: they lie
-- there side by side, and nobody writes them. At null there are none.
abbrev pub lie_for : (R : RattleType) → Ptr → List R.Denot → Lft → Fml
lie_for R (block_ptr b o) items κ = elements_shared R items b o κ
lie_for R null_ptr items κ = feq (List R.Denot) items []

-- So many items were borrowed and lie at the pointer; nothing is said where it is not known what was lent.
abbrev pub are_lent : (R : RattleType) → Ptr → ℕ → Option (List R.Denot) → Fml
are_lent R at len (Some items) = fsep (feq ℕ len (length items)) (fex Lft (λ κ. lie_for R at items κ))
are_lent R at len None = ftrue
