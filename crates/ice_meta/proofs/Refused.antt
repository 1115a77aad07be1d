-- Texts that are no UUID, and bytes that are no UTF-8.
use Rattle.std.proofs.Common.{◌≡◌, ℕ, Bool, true, false, List, Option, None, Some, refl}
use Rattle.std.proofs.lemmas.Bool.{false≢true}
use Rattle.std.specs.Prelude.{◌↔◌}
use Rattle.std.specs.Str.{IsUtf8, is_utf8}
use Rattle.std.proofs.lemmas.Str.{IsUtf8-from_is_utf8}

is_none : {A : Type 0} (o p : Option A) → o ≡ p → (((x : A) × (o ≡ Some x)) → ⊥) → p ≡ None
is_none o None e nope = refl
is_none o (Some x) e nope = absurd (nope (x, e))

pub none_parsed : {A : Type 0} (o : Option A) → ((false ≡ true) ↔ ((x : A) × (o ≡ Some x))) → o ≡ None
none_parsed o both = is_none o o refl (λ p. false≢true (both.1 p))

no_utf8 : (bytes : List ℕ) (b : Bool) → is_utf8 bytes ≡ b → (IsUtf8 bytes → ⊥) → b ≡ false
no_utf8 bytes true e nope = absurd (nope (IsUtf8-from_is_utf8 bytes e))
no_utf8 bytes false e nope = refl

pub is_utf8-from_not : (bytes : List ℕ) → (IsUtf8 bytes → ⊥) → is_utf8 bytes ≡ false
is_utf8-from_not bytes nope = no_utf8 bytes (is_utf8 bytes) refl nope
