-- Texts of delete files that were made.
use Rattle.std.specs.Prelude.{◌≡◌, ℕ, ◌<◌, List, length, Option, Some, None, IfSome, slice_get, slice_index_or}
use Rattle.ice_state.specs.Lines.{OwnedLine}
use Rattle.icescan_print.specs.PlanTexts.{deletes_text}
use Rattle.icescan_print.specs.declared.made_deletes.Made.{Made}

-- the text is that of the delete files of one of the lines
pub record IsTextOf (lines : List OwnedLine) (made : Made) : Type 0 where
  pub within : made.line < length lines
  pub same : (line : OwnedLine) → slice_get lines made.line ≡ Some line → made.text ≡ deletes_text line

abbrev pub IsMade : List OwnedLine → Option Made → Type 0
IsMade lines place = IfSome place (IsTextOf lines)

-- so it is at each place
abbrev pub AreMade : List OwnedLine → List (Option Made) → Type 0
AreMade lines places = (i : ℕ) → IsMade lines (slice_index_or places i None)
