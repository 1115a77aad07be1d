-- Decimals within their quotes.
use Rattle.std.proofs.Common.{◌≡◌, ◌∙◌, ℕ, zero, suc, ◌-◌, ◌<◌, ◌≤◌, List, [], ◌∷◌, ◌++◌, length, take, drop, refl}
use Rattle.std.proofs.Common.{ap, arith, append_assoc}
use Rattle.std.proofs.Common.{lt-ltb}
use Rattle.std.specs.Prelude.{codes, replicate, ℤ, unsigned_abs}
use Rattle.std.specs.Fmt.{decimal}
use Rattle.std.proofs.lemmas.Bool.{le-ltb}
use Rattle.json.specs.Print.{escape, quoted}
use Rattle.icescan_json.specs.Decimals.{decimal_text, minus_if, scaled, with_point}
use Rattle.icescan_forms.proofs.Escapes.{escape_append}

-- where there are more digits than stand behind the point
pub point_within : (scale : ℕ) (ds : List ℕ) → scale < length ds → escape (with_point scale ds)
    ≡ escape (take (length ds - scale) ds) ++ (escape (codes ".") ++ escape (drop (length ds - scale) ds))
point_within scale ds h =
    rw (lt-ltb scale (length ds) h) (escape_append (take (length ds - scale) ds) (46 ∷ drop (length ds - scale) ds)
    ∙ ap (λ t. escape (take (length ds - scale) ds) ++ t) (escape_append (46 ∷ []) (drop (length ds - scale) ds)))

-- where there are not
pub point_before : (scale : ℕ) (ds : List ℕ) → length ds ≤ scale → escape (with_point scale ds)
    ≡ escape (codes "0.") ++ (escape (replicate (scale - length ds) 48) ++ escape ds)
point_before scale ds h =
    rw (le-ltb scale (length ds) h) (escape_append (48 ∷ 46 ∷ []) (replicate (scale - length ds) 48 ++ ds)
    ∙ ap (λ t. escape (48 ∷ 46 ∷ []) ++ t) (escape_append (replicate (scale - length ds) 48) ds))

-- the sign and the digits
pub decimal_within : (scale : ℕ) (z : ℤ) → quoted (decimal_text scale z) ≡ codes "\""
    ++ (escape (minus_if z) ++ (escape (scaled scale (decimal (unsigned_abs z))) ++ codes "\""))
decimal_within scale z =
    ap (λ t. 34 ∷ (t ++ 34 ∷ [])) (escape_append (minus_if z) (scaled scale (decimal (unsigned_abs z))))
    ∙ simp append_assoc

abbrev pub nought : ℕ
nought = 48

-- the first of many zeros
pub zeros_are : (n m : ℕ) → n ≤ m → take n (replicate m nought) ≡ replicate n nought
zeros_are zero m h = refl
zeros_are (suc n) zero h = absurd (omega arith)
zeros_are (suc n) (suc m) h = ap (λ t. nought ∷ t) (zeros_are n m (omega arith))
