-- Places for texts that were made.
use Rattle.std.proofs.Common.{◌≡◌, ◌<◌, ℕ, zero, suc, List, [], ◌∷◌, ◌++◌, length, Option, Some, None, refl, arith}
use Rattle.std.proofs.Common.{slice_get, slice_set}
use Rattle.std.specs.List.{AllByRecursion}
use Rattle.ice_state.specs.Lines.{LacksDeletes, OwnedLine}
use Rattle.icescan_print.specs.MadeDeletes.{IsMade, AreMade}
use Rattle.icescan_print.specs.PlanTexts.{deletes_text}
use Rattle.icescan_print.specs.declared.made_deletes.Made.{Made}

-- one place more, without a text
pub one_more : (lines : List OwnedLine) (places : List (Option Made)) → AreMade lines places
    → AreMade lines (places ++ None ∷ [])
one_more lines [] are zero = tt
one_more lines [] are (suc i) = tt
one_more lines (p ∷ ps) are zero = are zero
one_more lines (p ∷ ps) are (suc i) = one_more lines ps (λ j. are (suc j)) i

-- a text in a place
pub put_in : (lines : List OwnedLine) (places : List (Option Made)) (k : ℕ) (p : Option Made) → AreMade lines places
    → IsMade lines p → AreMade lines (slice_set places k p)
put_in lines [] k p are is i = are i
put_in lines (q ∷ qs) zero p are is zero = is
put_in lines (q ∷ qs) zero p are is (suc i) = are (suc i)
put_in lines (q ∷ qs) (suc k) p are is zero = are zero
put_in lines (q ∷ qs) (suc k) p are is (suc i) = put_in lines qs k p (λ j. are (suc j)) is i

-- ---- lines at a place

pub one_line : (lines : List OwnedLine) (i : ℕ) (x y : OwnedLine) → slice_get lines i ≡ Some x
    → slice_get lines i ≡ Some y → x ≡ y
one_line lines i x y first second = cc

pub line_there : (lines : List OwnedLine) (i : ℕ) → i < length lines
    → (x : OwnedLine) × (slice_get lines i ≡ Some x)
line_there [] i within = absurd (omega (arith, within))
line_there (x ∷ lines) zero within = (x, refl)
line_there (x ∷ lines) (suc i) within = line_there lines i (omega (arith, within))

-- where no data file has delete files, a line has no text of them
pub none_told : (lines : List OwnedLine) (i : ℕ) (line : OwnedLine) → AllByRecursion LacksDeletes lines
    → slice_get lines i ≡ Some line → deletes_text line ≡ []
none_told [] i line lacking is = absurd cc
none_told (l ∷ ls) zero line lacking is =
    let e : l ≡ line = cc in
    rw (← e, lacking.0.0, lacking.0.1) refl
none_told (l ∷ ls) (suc i) line lacking is = none_told ls i line lacking.1 is
