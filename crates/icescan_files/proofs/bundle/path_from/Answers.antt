use Rattle.std.proofs.Common.{◌≡◌, ◌∙◌, string_bytes, Bool, true, false, List, ℕ, refl, Option, Some, None, ap}
use Rattle.std.specs.Prelude.{Ok, option_and_then}
use Rattle.std.specs.Str.{IsUtf8, is_utf8}
use Rattle.std.proofs.lemmas.Bool.{false≢true}
use Rattle.std.proofs.lemmas.Str.{is_utf8-from_IsUtf8, IsUtf8-from_is_utf8, IsUtf8-string_bytes}
use Rattle.icescan_files.specs.Bundles.{path_of, if_text}
use Rattle.icescan_files.proofs.bundle.path_from.Goals as goal

no_utf8 : (bytes : List ℕ) (b : Bool) → is_utf8 bytes ≡ b → (IsUtf8 bytes → ⊥) → b ≡ false
no_utf8 bytes true e nope = absurd (nope (IsUtf8-from_is_utf8 bytes e))
no_utf8 bytes false e nope = refl

-- a path that is text, and one that is none
text : (o : Option (List ℕ)) (bytes : List ℕ) → Some bytes ≡ o → IsUtf8 bytes → option_and_then if_text o ≡ Some bytes
text o bytes e h = rw (← e, is_utf8-from_IsUtf8 bytes h) refl

no_text : (o : Option (List ℕ)) (bytes : List ℕ) → Some bytes ≡ o → (IsUtf8 bytes → ⊥)
    → option_and_then if_text o ≡ None
no_text o bytes e h = rw (← e, no_utf8 bytes (is_utf8 bytes) refl h) refl

pub returns-in-Ok : goal.returns-in-Ok
unfolding path_of
returns-in-Ok c =
    let e = rw c.in-Some.is at c.in_ok-path.ensures in
    let same : string_bytes c.in-Ok.path ≡ c.in-Some.path.items = ap (λ v. v.items) c.in-Ok.ensures.ok in
    ap Ok (text _ (string_bytes c.in-Ok.path) (ap Some same ∙ e) (IsUtf8-string_bytes c.in-Ok.path))

pub returns : goal.returns
unfolding path_of
returns c =
    let e = rw c.in-Some.is at c.in_ok-path.ensures in
    ap Ok (no_text _ c.in-Some.path.items e (λ h. false≢true (c.in-Err.ensures.succeeds h)))
