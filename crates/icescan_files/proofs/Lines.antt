-- Lines that come in pieces.
use Rattle.std.proofs.Common.{◌≡◌, ◌≢◌, ℕ, ◌+◌, ◌<◌, ◌≤◌, ◌==◌, Bool, true, false, List, [], ◌∷◌, ◌++◌, length, take}
use Rattle.std.proofs.Common.{drop}
use Rattle.std.proofs.Common.{refl, sym, ap, ◌∙◌, arith, cond, get_or, add-one, append_assoc}
use Rattle.std.specs.Prelude.{Ok}
use Rattle.std.specs.List.{All}
use Rattle.std.proofs.lemmas.List.{take-append-drop}
use Rattle.std.proofs.lemmas.List.Elements.{All-from_get_or, All-head, All-tail}
use Rattle.std.proofs.Math.Seq.{drop-cons, get_or-take, length-take-le}
use borrow.Author.Tests.{eqb-true}
use Rattle.memchr.specs.Find.{Nowhere, Passes, is_byte}
use Rattle.icescan_files.specs.Bundles.{File, lines_of, before_line, with_lines}

-- no line feed stands in it
abbrev pub Open : List ℕ → Type 0
Open xs = All (λ b. b ≢ 10) xs

abbrev lines_when : Bool → ℕ → List (List ℕ) → List (List ℕ)
lines_when b x lines = cond b ([] ∷ lines) (before_line x lines)

no_feed : (b : ℕ) (t : Bool) → (b == 10) ≡ t → b ≢ 10 → t ≡ false
no_feed b true e n = absurd (n (eqb-true b 10 e))
no_feed b false e n = refl

past : (b : ℕ) (t : Bool) (whole lines : List (List ℕ)) (x : List ℕ) → t ≡ false → whole ≡ x ∷ lines
    → lines_when t b whole ≡ (b ∷ x) ∷ lines
past b true whole lines x t e = absurd cc
past b false whole lines x t e = ap (before_line b) e

alone : (b : ℕ) (t : Bool) → t ≡ false → lines_when t b [] ≡ (b ∷ []) ∷ []
alone b true t = absurd cc
alone b false t = refl

-- a line feed ends a line
pub ended : (x rest : List ℕ) → Open x → lines_of (x ++ 10 ∷ rest) ≡ x ∷ lines_of rest
ended [] rest h = refl
ended (b ∷ x) rest h = past b (b == 10) (lines_of (x ++ 10 ∷ rest)) (lines_of rest) x
    (no_feed b (b == 10) refl (All-head (λ b. b ≢ 10) b x h)) (ended x rest (All-tail (λ b. b ≢ 10) b x h))

-- the last line may lack its line feed
pub last : (x : List ℕ) → Open x → 0 < length x → lines_of x ≡ x ∷ []
last [] h k = absurd (omega arith)
last (b ∷ []) h k = alone b (b == 10) (no_feed b (b == 10) refl (All-head (λ b. b ≢ 10) b [] h))
last (b ∷ c ∷ x) h k = past b (b == 10) (lines_of (c ∷ x)) [] (c ∷ x)
    (no_feed b (b == 10) refl (All-head (λ b. b ≢ 10) b (c ∷ x) h))
    (last (c ∷ x) (All-tail (λ b. b ≢ 10) b (c ∷ x) h) (omega arith))

unlike : (b : ℕ) → ¬ ((b == 10) ≡ true) → b ≢ 10
unlike b n e = n (rw e refl)

-- before the first line feed there is none
pub open_before : (xs : List ℕ) (at : ℕ) → at < length xs → Nowhere (Passes (is_byte 10) xs) 0 at → Open (take at xs)
open_before xs i w h = All-from_get_or (λ b. b ≢ 10) (take i xs) 0 (λ k l.
    let m : k < i = rw (length-take-le i xs (omega arith)) at l in
    rw (get_or-take i xs k 0 m) (unlike (get_or xs k 0) (h k (omega arith) m)))

-- a text without one
pub open_whole : (xs : List ℕ) → Nowhere (Passes (is_byte 10) xs) 0 (length xs) → Open xs
open_whole xs h =
    All-from_get_or (λ b. b ≢ 10) xs 0 (λ k l. unlike (get_or xs k 0) (h k (omega arith) l))

-- a text at a line feed
pub cut_at : (xs : List ℕ) (at : ℕ) → at < length xs → Passes (is_byte 10) xs at
    → xs ≡ take at xs ++ 10 ∷ drop (at + 1) xs
cut_at xs i w h =
    let feed : get_or xs i 0 ≡ 10 = eqb-true (get_or xs i 0) 10 h in
    sym (take-append-drop i xs) ∙ ap (λ l. take i xs ++ l) (drop-cons xs i 0 w ∙ rw (add-one, feed) refl)

-- and with what follows it
pub cut_before : (xs : List ℕ) (at : ℕ) (rest : List ℕ) → at < length xs → Passes (is_byte 10) xs at
    → xs ++ rest ≡ take at xs ++ 10 ∷ (drop (at + 1) xs ++ rest)
cut_before xs i rest w h = ap (λ l. l ++ rest) (cut_at xs i w h)
    ∙ append_assoc (take i xs) (10 ∷ drop (i + 1) xs) rest

-- a text without bytes has no line
pub no_line : (n : ℕ) (files : List File) (text : List ℕ) → length text ≡ 0
    → with_lines n files (lines_of text) ≡ Ok files
unfolding with_lines
no_line n files [] h = refl
no_line n files (b ∷ bs) h = absurd (omega arith)
