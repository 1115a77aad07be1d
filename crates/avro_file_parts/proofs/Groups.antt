-- Reading the groups of a number one after the other, as a loop does.
use Rattle.std.proofs.Common.{◌≡◌, ℕ, suc, ◌+◌, ◌-◌, ◌*◌, ◌^◌, ◌<◌, ◌≤◌, Bool, true, false, cond, ltb, List, [], ◌∷◌}
use Rattle.std.proofs.Common.{length, Result, Ok, Err, refl, sym, ap, ◌∙◌, add-one, arith}
use Rattle.std.proofs.lemmas.Bool.{lt-ltb, le-ltb, ltb-false}
use Rattle.std.proofs.Math.Nat.{pow-le-pow_right, mul-le-mul_left, pow-suc}
use Rattle.avro_file_parts.specs.declared.refusal.Refusal.{Refusal}
use Rattle.avro_file_parts.specs.declared.refusal.Refusal.TheVariants.{Short, BadNumber}
use Rattle.contract_words.specs.Outcome.{◌>>=◌}
use Rattle.avro_file_parts.specs.Number.{groups_at, from_start, number_at}

-- what was read before, and what is still read
abbrev pub with_low : ℕ → ℕ → Result (ℕ × List ℕ) Refusal → Result (ℕ × List ℕ) Refusal
with_low low place read = read >>= λ x. Ok (low + place * x.0, x.1)

regroup : (low place b : ℕ) (read : Result (ℕ × List ℕ) Refusal)
    → with_low low place (read >>= λ x. Ok (b - 128 + 128 * x.0, x.1)) ≡ with_low (low + place * (b - 128))
    (place * 128) read
regroup low place b (Ok x) = ap (λ (n : ℕ). Ok (n, x.1)) (omega arith)
regroup low place b (Err f) = refl

pub goes_on : (low place i b : ℕ) (after : List ℕ) (total : Result (ℕ × List ℕ) Refusal) → i < 10 → 128 ≤ b
    → with_low low place (groups_at (10 - i) (b ∷ after)) ≡ total
    → with_low (low + place * (b - 128)) (place * 128) (groups_at (10 - (i + 1)) after) ≡ total
unfolding groups_at
goes_on low place i b after total lt le so_far =
    let k : 10 - i ≡ suc (10 - (i + 1)) = omega arith in
    let one : with_low low place (groups_at (10 - i) (b ∷ after)) ≡ with_low (low + place * (b - 128)) (place * 128)
    (groups_at (10 - (i + 1)) after) = rw (k, le-ltb _ _ le)
    (regroup low place b (groups_at (10 - (i + 1)) after)) in
    sym one ∙ so_far

-- ---- what a number is, once its groups are read

number_found : (limit : ℕ) (bytes : List ℕ) (n : ℕ) (rest : List ℕ) → groups_at 10 bytes ≡ Ok (n, rest) → n < limit
    → number_at limit bytes ≡ Ok (n, rest)
unfolding number_at
number_found limit bytes n rest e lt = rw (e, lt-ltb _ _ lt) refl

number_large : (limit : ℕ) (bytes : List ℕ) (n : ℕ) (rest : List ℕ) → groups_at 10 bytes ≡ Ok (n, rest) → limit ≤ n
    → number_at limit bytes ≡ Err BadNumber
unfolding number_at
number_large limit bytes n rest e le = rw (e, le-ltb _ _ le) refl

number_long : (limit : ℕ) (bytes : List ℕ) → groups_at 10 bytes ≡ Err BadNumber → number_at limit bytes ≡ Err BadNumber
unfolding number_at
number_long limit bytes e = rw e refl

number_short : (limit : ℕ) (bytes : List ℕ) → groups_at 10 bytes ≡ Err (Short 0)
    → number_at limit bytes ≡ Err (Short (length bytes))
unfolding number_at
number_short limit bytes e = rw e refl

-- ---- the last group of a number, as each round of the loop and the match after it meet it

pub ends_small : (low place i b : ℕ) (after bytes : List ℕ) → i < 10 → b < 128 → low + place * b < 2 ^ 64
    → with_low low place (groups_at (10 - i) (b ∷ after)) ≡ groups_at 10 bytes
    → number_at (2 ^ 64) bytes ≡ Ok (low + place * b, after)
unfolding groups_at
ends_small low place i b after bytes lt small fits so_far =
    let k : 10 - i ≡ suc (10 - (i + 1)) = omega arith in
    let one : with_low low place (groups_at (10 - i) (b ∷ after)) ≡ Ok (low + place * b, after) =
    rw (k, lt-ltb _ _ small) refl in
    number_found (2 ^ 64) bytes (low + place * b) after (sym so_far ∙ one) fits

pub ends_short : (low place i : ℕ) (bytes : List ℕ) → i < 10
    → with_low low place (groups_at (10 - i) []) ≡ groups_at 10 bytes
    → number_at (2 ^ 64) bytes ≡ Err (Short (length bytes))
unfolding groups_at
ends_short low place i bytes lt so_far =
    let k : 10 - i ≡ suc (10 - (i + 1)) = omega arith in
    let one : with_low low place (groups_at (10 - i) []) ≡ Err (Short 0) = rw k refl in
    number_short (2 ^ 64) bytes (sym so_far ∙ one)

tenth : (last : Bool) (low place b : ℕ) (after bytes : List ℕ) → 2 ^ 64 ≤ low + place * b
    → with_low low place (cond last (Ok (b, after)) (Err BadNumber)) ≡ groups_at 10 bytes
    → number_at (2 ^ 64) bytes ≡ Err BadNumber
tenth true low place b after bytes le so_far = number_large (2 ^ 64) bytes (low + place * b) after (sym so_far) le
tenth false low place b after bytes le so_far = number_long (2 ^ 64) bytes (sym so_far)

pub tenth_place : (place i : ℕ) → i ≡ 9 → place ≡ 128 ^ i → place ≡ 2 ^ 63
tenth_place place i nine is = is ∙ rw nine refl

-- the tenth group has one bit
pub ends_large : (low place i b : ℕ) (after bytes : List ℕ) → i ≡ 9 → place ≡ 128 ^ i → 2 ≤ b
    → with_low low place (groups_at (10 - i) (b ∷ after)) ≡ groups_at 10 bytes
    → number_at (2 ^ 64) bytes ≡ Err BadNumber
unfolding groups_at
ends_large low place i b after bytes nine is two so_far =
    let k : 10 - i ≡ 1 = omega arith in
    let full = tenth_place place i nine is in
    let much : place * 2 ≤ place * b = mul-le-mul_left place two in
    tenth (ltb b 128) low place b after bytes (omega (arith, full, much)) (rw k at so_far)

-- ---- a number of 32 bits is one of 64 that is small enough

abbrev passed_on : ℕ × List ℕ → Result (ℕ × List ℕ) Refusal
passed_on x = Ok x

narrow_test : (fits : Bool) (x : ℕ × List ℕ) → ltb x.0 (2 ^ 64) ≡ fits
    → cond (ltb x.0 (2 ^ 32)) (passed_on x) (Err BadNumber) ≡ (cond fits (passed_on x) (Err BadNumber) >>= λ y. cond
    (ltb y.0 (2 ^ 32)) (Ok y) (Err BadNumber))
narrow_test true x e = refl
narrow_test false x e = let large : ltb x.0 (2 ^ 32) ≡ false = le-ltb _ _ (omega (arith, ltb-false _ _ e)) in
    rw large refl

narrow : (r : Result (ℕ × List ℕ) Refusal) → (r >>= λ x. cond (ltb x.0 (2 ^ 32)) (Ok x) (Err BadNumber))
    ≡ ((r >>= λ x. cond (ltb x.0 (2 ^ 64)) (Ok x) (Err BadNumber)) >>= λ x. cond (ltb x.0 (2 ^ 32)) (Ok x)
    (Err BadNumber))
narrow (Err e) = refl
narrow (Ok x) = narrow_test (ltb x.0 (2 ^ 64)) x refl

pub narrow_fails : (e : Refusal) (bytes : List ℕ) → number_at (2 ^ 64) bytes ≡ Err e → number_at (2 ^ 32) bytes ≡ Err e
unfolding number_at
narrow_fails e bytes h = narrow (from_start bytes (groups_at 10 bytes)) ∙ rw h refl

pub narrow_large : (bytes : List ℕ) (n : ℕ) (rest : List ℕ) → number_at (2 ^ 64) bytes ≡ Ok (n, rest) → 2 ^ 32 ≤ n
    → number_at (2 ^ 32) bytes ≡ Err BadNumber
unfolding number_at
narrow_large bytes n rest h le = narrow (from_start bytes (groups_at 10 bytes)) ∙ rw (h, le-ltb _ _ le) refl

pub narrow_found : (bytes : List ℕ) (n : ℕ) (rest : List ℕ) → number_at (2 ^ 64) bytes ≡ Ok (n, rest) → n < 2 ^ 32
    → number_at (2 ^ 32) bytes ≡ Ok (n, rest)
unfolding number_at
narrow_found bytes n rest h lt = narrow (from_start bytes (groups_at 10 bytes)) ∙ rw (h, lt-ltb _ _ lt) refl

-- ---- places

pub place_small : (place i : ℕ) → place ≡ 128 ^ i → i < 9 → place ≤ 128 ^ 8
place_small place i e lt = let small : i ≤ 8 = omega arith in let some : 0 < 128 = omega arith in
    rw e (pow-le-pow_right {n = 128} some {i = i} {j = 8} small)

pub times_small : (place g : ℕ) → place ≤ 128 ^ 8 → g ≤ 128 → place * g ≤ 128 ^ 9
times_small place g h k = omega (arith, mul-le-mul_left place k)

pub place_grows : (place i : ℕ) → place ≡ 128 ^ i → place * 128 ≡ 128 ^ (i + 1)
place_grows place i e = rw (add-one, pow-suc 128 i, e) refl

pub low_stays : (low place g : ℕ) → low < place → g < 128 → low + place * g < place * 128
low_stays low place g h k = let le : g + 1 ≤ 128 = omega arith in omega (arith, mul-le-mul_left place le)

pub times_one : (place g : ℕ) → g ≤ 1 → place * g ≤ place
times_one place g le = omega (arith, mul-le-mul_left place le)
