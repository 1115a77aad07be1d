-- Words between spaces, and lines between line feeds.
use Rattle.std.proofs.Common.{◌≡◌, ℕ, ◌<◌, List, [], ◌∷◌, ◌++◌, false, ◌==◌, refl, ap, ◌∙◌, arith, tests}
use Rattle.std.specs.List.{AllByRecursion, All, join_with_byte}
use Rattle.std.proofs.lemmas.List.Elements.{All-cons, All-nil, All-append}
use Rattle.std.proofs.lemmas.List.Splits.{slice_split_none, slice_split_at}
use Rattle.icescan_print_laws.specs.PlanTold.{parts}

-- bytes above the space
abbrev pub IsWord : List ℕ → Type 0
IsWord w = AllByRecursion (λ b. 32 < b) w

lacks : (c : ℕ) (w : List ℕ) → c < 33 → IsWord w → All (λ b. (b == c) ≡ false) w
lacks c [] l h = All-nil (λ b. (b == c) ≡ false)
lacks c (b ∷ w) l h =
    let e : (b == c) ≡ false = grind (arith, tests, h.0) in
    All-cons (λ b. (b == c) ≡ false) b w e (lacks c w l h.1)

pub words_joined : (w : List ℕ) (ws : List (List ℕ)) → AllByRecursion IsWord (w ∷ ws)
    → parts 32 (join_with_byte 32 (w ∷ ws)) ≡ w ∷ ws
words_joined w [] h = slice_split_none (λ b. b == 32) w (lacks 32 w (omega arith) h.0)
words_joined w (v ∷ ws) h =
    slice_split_at (λ b. b == 32) w 32 (join_with_byte 32 (v ∷ ws)) (lacks 32 w (omega arith) h.0) refl
    ∙ ap (λ l. w ∷ l) (words_joined v ws h.1)

line_lacks : (w : List ℕ) (ws : List (List ℕ)) → AllByRecursion IsWord (w ∷ ws)
    → All (λ b. (b == 10) ≡ false) (join_with_byte 32 (w ∷ ws))
line_lacks w [] h = lacks 10 w (omega arith) h.0
line_lacks w (v ∷ ws) h =
    All-append (λ b. (b == 10) ≡ false) w (32 ∷ join_with_byte 32 (v ∷ ws)) (lacks 10 w (omega arith) h.0)
    (All-cons (λ b. (b == 10) ≡ false) 32 (join_with_byte 32 (v ∷ ws)) refl (line_lacks v ws h.1))

pub line_first : (w : List ℕ) (ws : List (List ℕ)) (rest : List ℕ) → AllByRecursion IsWord (w ∷ ws)
    → parts 10 (join_with_byte 32 (w ∷ ws) ++ 10 ∷ rest) ≡ join_with_byte 32 (w ∷ ws) ∷ parts 10 rest
line_first w ws rest h =
    slice_split_at (λ b. b == 10) (join_with_byte 32 (w ∷ ws)) 10 rest (line_lacks w ws h) refl
