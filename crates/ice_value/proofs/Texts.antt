-- Texts are UTF-8.
use Rattle.std.proofs.Common.{◌≡◌, ℕ, Bool, true, false, List, None, Some, refl, Result, Ok, Err, IfErr}
use Rattle.std.specs.Str.{IsUtf8, is_utf8}
use Rattle.std.proofs.lemmas.Str.{is_utf8-from_IsUtf8, IsUtf8-from_is_utf8}
use Rattle.ice_value.specs.declared.column_type.ColumnType.TheVariants.{String}
use Rattle.ice_value.specs.declared.cell.Cell.TheVariants.{Text}
use Rattle.ice_value.specs.Bounds.{cell_in}
use Rattle.ice_value.specs.Cells.{KeepsBytes}

is_false : (b : Bool) → (b ≡ true → ⊥) → b ≡ false
is_false true h = absurd (h refl)
is_false false h = refl

pub not_text : (bs : List ℕ) → (IsUtf8 bs → ⊥) → is_utf8 bs ≡ false
not_text bs h = is_false (is_utf8 bs) (λ e. h (IsUtf8-from_is_utf8 bs e))

pub read_as_text : (bs text : List ℕ) → IsUtf8 bs → text ≡ bs → Some (Text text) ≡ cell_in String bs
read_as_text bs text u e = let is = is_utf8-from_IsUtf8 bs u in rw (is, e) refl

pub read_as_none : (bs : List ℕ) → (IsUtf8 bs → ⊥) → None ≡ cell_in String bs
read_as_none bs h = let is = not_text bs h in rw is refl

keeps : (bs : List ℕ) → IsUtf8 bs → KeepsBytes (cell_in String bs)
keeps bs u = let is = is_utf8-from_IsUtf8 bs u in rw is tt

-- a text that is refused keeps its bytes
pub text_keeps : {A E : Type 0} (r : Result A E) (bs : List ℕ) → IsUtf8 bs
    → IfErr r (λ _. KeepsBytes (cell_in String bs))
text_keeps (Ok _) bs u = tt
text_keeps (Err _) bs u = keeps bs u
