-- Texts are UTF-8.
use Rattle.std.proofs.Common.{◌≡◌, ℕ, Bool, true, false, List, None, Some, refl}
use Rattle.std.specs.Str.{IsUtf8, is_utf8}
use Rattle.std.proofs.lemmas.Str.{is_utf8-from_IsUtf8, IsUtf8-from_is_utf8}
use Rattle.ice_filter.specs.Lexing.{text_in}

is_false : (b : Bool) → (b ≡ true → ⊥) → b ≡ false
is_false true h = absurd (h refl)
is_false false h = refl

pub read_as_text : (bs text : List ℕ) → IsUtf8 bs → text ≡ bs → Some text ≡ text_in bs
read_as_text bs text u e = let is = is_utf8-from_IsUtf8 bs u in rw (is, e) refl

pub read_as_none : (bs : List ℕ) → (IsUtf8 bs → ⊥) → None ≡ text_in bs
read_as_none bs h = let is = is_false (is_utf8 bs) (λ e. h (IsUtf8-from_is_utf8 bs e)) in rw is refl
