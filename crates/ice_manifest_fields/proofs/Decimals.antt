-- Decimal numbers without redundant bytes.
use Rattle.std.proofs.Common.{◌≡◌, ℕ, ◌-◌, ◌*◌, ◌^◌, ◌<◌, ◌≤◌, ◌==◌, nat_lt, pos, Bool, true, false, cond, not, ◌&&◌}
use Rattle.std.proofs.Common.{◌||◌, List, [], ◌∷◌, length, get_or, take, drop, refl, ap, ◌∙◌, arith, eqb-true}
use Rattle.std.proofs.lemmas.Int.{ints}
use Rattle.std.proofs.Math.Nat.{pow-succ'}
use Rattle.std.proofs.lemmas.List.{take_all}
use Rattle.ice_manifest_fields.specs.Decimals.{twos_complement, is_redundant, shortest, KeepsTheNumber, IsShortest}
use Rattle.ice_manifest_fields.specs.Decimals.{LeavesNoneRedundant}

-- ---- the loop

pub sign_dropped : (bs : List ℕ) → 1 < length bs → is_redundant (get_or bs 0 0) (get_or bs 1 0) ≡ true
    → shortest (take (length bs - 1) (drop 1 bs)) ≡ shortest bs
unfolding shortest
sign_dropped [] lt h = absurd (omega (arith, lt))
sign_dropped (b ∷ []) lt h = absurd (omega (arith, lt))
sign_dropped (b ∷ c ∷ bs) lt h =
    let all : take (length (b ∷ c ∷ bs) - 1) (drop 1 (b ∷ c ∷ bs)) ≡ c ∷ bs = take_all (length (b ∷ c ∷ bs) - 1)
    (c ∷ bs) (omega arith) in
    rw (all, h) refl

pub sign_needed : (bs : List ℕ) → 1 < length bs → is_redundant (get_or bs 0 0) (get_or bs 1 0) ≡ false
    → bs ≡ shortest bs
unfolding shortest
sign_needed [] lt h = absurd (omega (arith, lt))
sign_needed (b ∷ []) lt h = absurd (omega (arith, lt))
sign_needed (b ∷ c ∷ bs) lt h = rw h refl

pub one_stays : (bs : List ℕ) → length bs ≤ 1 → bs ≡ shortest bs
unfolding shortest
one_stays [] le = refl
one_stays (b ∷ []) le = refl
one_stays (b ∷ c ∷ bs) le = absurd (omega (arith, le))

-- ---- the number

zero_first : (b c : ℕ) (bs : List ℕ) → b ≡ 0 → nat_lt c 0x80 ≡ true
    → twos_complement (c ∷ bs) ≡ twos_complement (b ∷ c ∷ bs)
zero_first b c bs is small = rw (is, small) (ap pos (omega arith))

ones_first : (b c : ℕ) (bs : List ℕ) → b ≡ 0xff → nat_lt c 0x80 ≡ false
    → twos_complement (c ∷ bs) ≡ twos_complement (b ∷ c ∷ bs)
ones_first b c bs is large =
    let P : ℕ = 256 ^ length (c ∷ bs) in
    let p : 256 ^ length (b ∷ c ∷ bs) ≡ 256 * 256 ^ length (c ∷ bs) = pow-succ' 256 (length (c ∷ bs)) in
    rw (is, large, p) (omega (arith, ints))

pub same_number : (b c : ℕ) (bs : List ℕ) → is_redundant b c ≡ true
    → twos_complement (c ∷ bs) ≡ twos_complement (b ∷ c ∷ bs)
same_number b c bs h =
    let P : (z l o : Bool) → b == 0x00 ≡ z → nat_lt c 0x80 ≡ l → b == 0xff ≡ o → (z && l || o && not l) ≡ true
    → twos_complement (c ∷ bs) ≡ twos_complement (b ∷ c ∷ bs) =
    λ z l o. elim z as (λ y. b == 0x00 ≡ y → nat_lt c 0x80 ≡ l → b == 0xff ≡ o → (y && l || o && not l) ≡ true
    → twos_complement (c ∷ bs) ≡ twos_complement (b ∷ c ∷ bs)) [
      | true ↦ elim l as (λ y. b == 0x00 ≡ true → nat_lt c 0x80 ≡ y → b == 0xff ≡ o → (true && y || o && not y) ≡ true
          → twos_complement (c ∷ bs) ≡ twos_complement (b ∷ c ∷ bs)) [
            | true ↦ λ e f g k. zero_first b c bs (eqb-true b 0 e) f
            | false ↦ elim o as (λ y. b == 0x00 ≡ true → nat_lt c 0x80 ≡ false → b == 0xff ≡ y
                → (true && false || y && not false) ≡ true → twos_complement (c ∷ bs) ≡ twos_complement (b ∷ c ∷ bs)) [
                  | true ↦ λ e f g k. ones_first b c bs (eqb-true b 0xff g) f
                  | false ↦ λ e f g k. absurd cc
                ]
          ]
      | false ↦ elim o as (λ y. b == 0x00 ≡ false → nat_lt c 0x80 ≡ l → b == 0xff ≡ y → (false && l || y && not l)
          ≡ true → twos_complement (c ∷ bs) ≡ twos_complement (b ∷ c ∷ bs)) [
            | true ↦ elim l as (λ y. b == 0x00 ≡ false → nat_lt c 0x80 ≡ y → b == 0xff ≡ true
                → (false && y || true && not y) ≡ true → twos_complement (c ∷ bs) ≡ twos_complement (b ∷ c ∷ bs)) [
                  | true ↦ λ e f g k. absurd cc
                  | false ↦ λ e f g k. ones_first b c bs (eqb-true b 0xff g) f
                ]
            | false ↦ λ e f g k. absurd cc
          ]
    ] in
    P (b == 0x00) (nat_lt c 0x80) (b == 0xff) refl refl refl h

pub keeps_the_number : KeepsTheNumber
unfolding shortest
keeps_the_number [] = refl
keeps_the_number (b ∷ []) = refl
keeps_the_number (b ∷ c ∷ bs) =
    let P : (r : Bool) → is_redundant b c ≡ r → twos_complement (cond r (shortest (c ∷ bs)) (b ∷ c ∷ bs))
    ≡ twos_complement (b ∷ c ∷ bs) =
    λ r. elim r as (λ y. is_redundant b c ≡ y → twos_complement (cond y (shortest (c ∷ bs)) (b ∷ c ∷ bs))
    ≡ twos_complement (b ∷ c ∷ bs)) [
      | true ↦ λ e. keeps_the_number (c ∷ bs) ∙ same_number b c bs e
      | false ↦ λ e.
          refl
    ] in
    P (is_redundant b c) refl

pub leaves_none_redundant : LeavesNoneRedundant
unfolding shortest
leaves_none_redundant [] = tt
leaves_none_redundant (b ∷ []) = tt
leaves_none_redundant (b ∷ c ∷ bs) =
    let P : (r : Bool) → is_redundant b c ≡ r → IsShortest (cond r (shortest (c ∷ bs)) (b ∷ c ∷ bs)) =
    λ r. elim r as (λ y. is_redundant b c ≡ y → IsShortest (cond y (shortest (c ∷ bs)) (b ∷ c ∷ bs)))
    [ true ↦ λ e. leaves_none_redundant (c ∷ bs) | false ↦ λ e. e ] in
    P (is_redundant b c) refl
