-- Division that rounds down gives the unit in which a number lies.
use Rattle.std.proofs.Common.{◌≡◌, ℕ, suc, ◌+◌, ◌*◌, ◌/◌, ◌<◌, ◌≤◌, ℤ, pos, negsuc, ◌*ℤ◌, ◌≤ℤ◌, ◌<ℤ◌, arith, refl}
use Rattle.std.proofs.lemmas.Int.{ints}
use Rattle.std.proofs.lemmas.Nat.{div-add-mod', mod_below, le-div, mul-le}
use Rattle.std.proofs.Math.IntN.{negsuc-*ℤ-pos, pos-*ℤ-pos}
use Rattle.ice_transform.specs.Floors.{floor_div, floor_to, IsUnitOf, IsTruncation}

unit_pos : (n a : ℕ) → 0 < n → IsUnitOf (pos n) (pos a) (pos (a / n))
unit_pos n a h =
    let e = div-add-mod' a n in
    let b = mod_below a n h in
    let m = pos-*ℤ-pos (a / n) n in
    (omega (arith, ints, m), omega (arith, ints, m))

unit_neg : (n a : ℕ) → 0 < n → IsUnitOf (pos n) (negsuc a) (negsuc (a / n))
unit_neg n a h =
    let e = div-add-mod' a n in
    let b = mod_below a n h in
    let m = negsuc-*ℤ-pos (a / n) n in
    let k : suc (a / n) * n ≡ a / n * n + n = omega arith in
    (omega (arith, ints, m), omega (arith, ints, m))

pub unit_is : (n : ℕ) (v : ℤ) → 0 < n → IsUnitOf (pos n) v (floor_div (pos n) v)
unit_is n (pos a) h = unit_pos n a h
unit_is n (negsuc a) h = unit_neg n a h

pub unit_is_z : (size v : ℤ) → pos 0 <ℤ size → IsUnitOf size v (floor_div size v)
unit_is_z (pos n) v h = unit_is n v (omega (arith, ints))
unit_is_z (negsuc n) v h = absurd (omega (arith, ints))

pub truncation_is : (n : ℕ) (v : ℤ) → 0 < n → IsTruncation (pos n) v (floor_to (pos n) v)
truncation_is n v h = let u = unit_is n v h in (floor_div (pos n) v, refl, u.0, u.1)

-- a greater number lies in no earlier unit
unit_mono_nat : (n a b : ℕ) → 0 < n → a ≤ b → a / n ≤ b / n
unit_mono_nat n a b h le = le-div (a / n) b n h (omega (arith, div-add-mod' a n))

pub unit_mono : (n : ℕ) (v w : ℤ) → 0 < n → v ≤ℤ w → floor_div (pos n) v ≤ℤ floor_div (pos n) w
unit_mono n (pos a) (pos b) h le = let m = unit_mono_nat n a b h (omega (arith, ints)) in omega (arith, ints)
unit_mono n (negsuc a) (pos b) h le = omega (arith, ints)
unit_mono n (pos a) (negsuc b) h le = absurd (omega (arith, ints))
unit_mono n (negsuc a) (negsuc b) h le = let m = unit_mono_nat n b a h (omega (arith, ints)) in omega (arith, ints)

pub unit_mono_z : (size v w : ℤ) → pos 0 <ℤ size → v ≤ℤ w → floor_div size v ≤ℤ floor_div size w
unit_mono_z (pos n) v w h le = unit_mono n v w (omega (arith, ints)) le
unit_mono_z (negsuc n) v w h le = absurd (omega (arith, ints))

-- products with a natural number keep the order
pub times_mono : (n : ℕ) (p q : ℤ) → p ≤ℤ q → (p *ℤ pos n) ≤ℤ (q *ℤ pos n)
times_mono n (pos a) (pos b) le = let m = mul-le a n b n (omega (arith, ints)) (omega arith) in
    omega (arith, ints, pos-*ℤ-pos a n, pos-*ℤ-pos b n)
times_mono n (negsuc a) (pos b) le = omega (arith, ints, negsuc-*ℤ-pos a n, pos-*ℤ-pos b n)
times_mono n (pos a) (negsuc b) le = absurd (omega (arith, ints))
times_mono n (negsuc a) (negsuc b) le = let m = mul-le (suc b) n (suc a) n (omega (arith, ints)) (omega arith) in
    omega (arith, ints, negsuc-*ℤ-pos a n, negsuc-*ℤ-pos b n)

pub truncation_mono : (n : ℕ) (v w : ℤ) → 0 < n → v ≤ℤ w → floor_to (pos n) v ≤ℤ floor_to (pos n) w
truncation_mono n v w h le = times_mono n (floor_div (pos n) v) (floor_div (pos n) w) (unit_mono n v w h le)
