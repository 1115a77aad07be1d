-- The first segment of a path is what stands before its first slash.
use Rattle.std.proofs.Common.{◌≡◌, ◌≢◌, ℕ, ◌+◌, ◌<◌, ◌≤◌, ◌==◌, ◌||◌, Bool, true, false, List, [], ◌∷◌, length, take}
use Rattle.std.proofs.Common.{drop, refl, sym, ap, ◌∙◌, Some, None, arith, position, not, cond, nat_lt, add-one}
use Rattle.std.proofs.Common.{one-add}
use Rattle.std.specs.List.{list_any, position_or_len}
use borrow.Author.Tests.{eqb-true, ltb-true, ltb-false}
use Rattle.icescan_files.specs.Bundles.{before_line}
use Rattle.icescan_files.specs.Folders.{has_dots, is_dots, segments, without_slash}

abbrev is_slash : ℕ → Bool
is_slash b = b == 47

abbrev parts_when : Bool → ℕ → List (List ℕ) → List (List ℕ)
parts_when b x parts = cond b ([] ∷ parts) (before_line x parts)

later : (x : ℕ) (xs : List ℕ) (p : ℕ) → segments xs ≡ take p xs ∷ segments (drop (p + 1) xs)
    → before_line x (segments xs) ≡ take (1 + p) (x ∷ xs) ∷ segments (drop (1 + p + 1) (x ∷ xs))
later x xs p h = let h' = rw add-one at h in rw (one-add, add-one, h') refl

step : (x : ℕ) (xs : List ℕ) (b : Bool)
    → (position_or_len is_slash xs < length xs → segments xs ≡ take (position_or_len is_slash xs) xs ∷ segments
    (drop (position_or_len is_slash xs + 1) xs))
    → cond (not b) (1 + position_or_len is_slash xs) 0 < length (x ∷ xs)
    → parts_when b x (segments xs) ≡ take (cond (not b) (1 + position_or_len is_slash xs) 0) (x ∷ xs) ∷ segments
    (drop (cond (not b) (1 + position_or_len is_slash xs) 0 + 1) (x ∷ xs))
step x xs true rest h = refl
step x xs false rest h = later x xs (position_or_len is_slash xs) (rest (omega arith))

segments_at : (xs : List ℕ) → position_or_len is_slash xs < length xs
    → segments xs ≡ take (position_or_len is_slash xs) xs ∷ segments (drop (position_or_len is_slash xs + 1) xs)
segments_at [] h = absurd (omega arith)
segments_at (x ∷ xs) h = step x xs (is_slash x) (segments_at xs) h

last_step : (x : ℕ) (xs : List ℕ) (b : Bool) → (length xs ≤ position_or_len is_slash xs → segments xs ≡ xs ∷ [])
    → length (x ∷ xs) ≤ cond (not b) (1 + position_or_len is_slash xs) 0 → parts_when b x (segments xs) ≡ (x ∷ xs) ∷ []
last_step x xs true rest h = absurd (omega arith)
last_step x xs false rest h = ap (before_line x) (rest (omega arith))

one_segment : (xs : List ℕ) → length xs ≤ position_or_len is_slash xs → segments xs ≡ xs ∷ []
one_segment [] h = refl
one_segment (x ∷ xs) h = last_step x xs (is_slash x) (one_segment xs) h

found : (p n at : ℕ) (b : Bool) → nat_lt p n ≡ b → Some at ≡ cond b (Some p) None → (at ≡ p) × (p < n)
found p n at true e h = (cc, ltb-true p n e)
found p n at false e h = absurd cc

missing : (p n : ℕ) (b : Bool) → nat_lt p n ≡ b → None ≡ cond b (Some p) None → n ≤ p
missing p n true e h = absurd cc
missing p n false e h = ltb-false p n e

segments_found : (xs : List ℕ) (at : ℕ) → Some at ≡ position (λ b. b == 47) xs
    → segments xs ≡ take at xs ∷ segments (drop (at + 1) xs)
segments_found xs at h =
    let w = found (position_or_len is_slash xs) (length xs) at (nat_lt (position_or_len is_slash xs) (length xs)) refl
    h in
    rw w.0 (segments_at xs w.1)

segments_missing : (xs : List ℕ) → None ≡ position (λ b. b == 47) xs → segments xs ≡ xs ∷ []
segments_missing xs h = one_segment xs (missing (position_or_len is_slash xs) (length xs)
    (nat_lt (position_or_len is_slash xs) (length xs)) refl h)

pub dots_found : (xs : List ℕ) (at : ℕ) → Some at ≡ position (λ b. b == 47) xs
    → has_dots xs ≡ (is_dots (take at xs) || has_dots (drop (at + 1) xs))
unfolding has_dots
dots_found xs at h = ap (list_any is_dots) (segments_found xs at h)

or_false : (b : Bool) → (b || false) ≡ b
or_false true = refl
or_false false = refl

pub dots_last : (xs : List ℕ) → None ≡ position (λ b. b == 47) xs → has_dots xs ≡ is_dots xs
unfolding has_dots
dots_last xs h = ap (list_any is_dots) (segments_missing xs h) ∙ or_false (is_dots xs)

-- the first segment is looked at
pub dots_then : (xs : List ℕ) (at : ℕ) (b : Bool) → Some at ≡ position (λ b. b == 47) xs → b ≡ is_dots (take at xs)
    → has_dots xs ≡ (b || has_dots (drop (at + 1) xs))
dots_then xs at b h same = dots_found xs at h ∙ ap (λ d. d || has_dots (drop (at + 1) xs)) (sym same)

slash_or : (b : ℕ) (rest : List ℕ) (t : Bool) → (b == 47) ≡ t → ((more : List ℕ) → b ∷ rest ≢ 47 ∷ more)
    → cond t rest (b ∷ rest) ≡ b ∷ rest
slash_or b rest true is h = absurd (h rest (ap (λ x. x ∷ rest) (eqb-true b 47 is)))
slash_or b rest false is h = refl

pub no_slash : (xs : List ℕ) → ((more : List ℕ) → xs ≢ 47 ∷ more) → without_slash xs ≡ xs
no_slash [] h = refl
no_slash (b ∷ rest) h = slash_or b rest (b == 47) refl h
