-- Bytes that pass a test, and where they stop.
use Rattle.std.proofs.Common.{◌≡◌, ℕ, ◌+◌, Bool, true, false, List, [], ◌∷◌, ◌++◌, length, refl, ap, ◌∙◌, arith}
use Rattle.ice_filter.specs.Lexing.{run_from}

abbrev pub AllPass : (ℕ → Bool) → List ℕ → Type 0
AllPass p [] = Unit {0}
AllPass p (b ∷ bs) = (p b ≡ true) × AllPass p bs

-- the first byte, if there is one, does not pass
abbrev pub Stops : (ℕ → Bool) → List ℕ → Type 0
Stops p [] = Unit {0}
Stops p (b ∷ bs) = p b ≡ false

pub run_is : (p : ℕ → Bool) (n : ℕ) (xs rest : List ℕ) → AllPass p xs → Stops p rest
    → run_from p n (xs ++ rest) ≡ n + length xs
unfolding run_from
run_is p n [] [] h k = omega arith
run_is p n [] (c ∷ cs) h k = rw k (omega arith)
run_is p n (x ∷ xs) rest h k =
    let e : n + 1 + length xs ≡ n + length (x ∷ xs) = omega arith in
    rw h.0 (run_is p (n + 1) xs rest h.1 k ∙ e)

-- bytes that pass, and then the rest
abbrev pub Run : (ℕ → Bool) → List ℕ → Type 0
Run p bs = (front back : List ℕ) × (bs ≡ front ++ back) × AllPass p front × Stops p back

run_by : (p : ℕ → Bool) (b : ℕ) (bs : List ℕ) (t : Bool) → p b ≡ t → Run p bs → Run p (b ∷ bs)
run_by p b bs true e h = (b ∷ h.0, h.1, ap (λ x. b ∷ x) h.2, (e, h.3), h.4)
run_by p b bs false e h = ([], b ∷ bs, refl, tt, e)

pub run_of : (p : ℕ → Bool) (bs : List ℕ) → Run p bs
run_of p [] = ([], [], refl, tt, tt)
run_of p (b ∷ bs) = run_by p b bs (p b) refl (run_of p bs)

pub all_pass_append : (p : ℕ → Bool) (xs ys : List ℕ) → AllPass p xs → AllPass p ys → AllPass p (xs ++ ys)
all_pass_append p [] ys h k = k
all_pass_append p (x ∷ xs) ys h k = (h.0, all_pass_append p xs ys h.1 k)
