-- Numbers whose ends are seen together.
use Rattle.std.proofs.Common.{◌≡◌, ◌≢◌, ◌↔◌, ◌⊎◌, inl, inr, ℕ, zero, suc, ◌+◌, ◌-◌, ◌*◌, ◌/◌, ◌%◌, ◌^◌, ◌<◌, ◌≤◌, min}
use Rattle.std.proofs.Common.{Bool, true, false, cond, ltb, List, ◌∷◌, length, get_or, take, drop, map, replicate}
use Rattle.std.proofs.Common.{Ok, Err, refl, sym, ap, ◌∙◌, arith, w8, w64, bit_and}
use Rattle.std.specs.Int.{bit_at, trailing_zeros}
use Rattle.std.specs.Simd.Lanes.{zip2, mask_l, top}
use Rattle.std.proofs.lemmas.Simd.{bitmask_splat, bit_mask_l}
use Rattle.std.proofs.lemmas.Bool.{cases_order, cases_lt, ltb-true, lt-ltb}
use Rattle.std.proofs.lemmas.List.{get_or-take, get_or-drop, get_or-map, get_or_past, length-take-le, length-drop}
use Rattle.std.proofs.lemmas.List.{length-map}
use Rattle.std.proofs.lemmas.Nat.{and_le_l, div-add-mod'}
use Rattle.std.proofs.lemmas.Nat.Bits.{bit_at-zero, bit_at-suc, bit_at-lt, bit_at_and, bit_at-pow_same}
use Rattle.std.proofs.lemmas.Nat.Bits.{bit_at_not, bit_at-trailing_zeros, bit_at_above, bit_at_ones_above}
use Rattle.std.proofs.lemmas.Nat.Bits.{bit_at-pow_other, bit_at_cat_low, bit_at_cat_high, same_from_bits_below}
use Rattle.std.proofs.Math.Nat.{mod-lt, pow-le-pow_right}
use Rattle.std.proofs.Math.Pow.{pow-lt}
use Rattle.avro_schema.specs.Tree.{long}
use Rattle.contract_words.specs.Outcome.{◌>>=◌}
use Rattle.avro_file_parts.specs.Number.{long_at, int_at}
use Rattle.avro_file_parts.specs.Parts.{Position, Read, behind}
use Rattle.avro_file_parts.proofs.NumberPlaces.{GroupsUpTo, no_groups, one_more}
use Rattle.avro_file.specs.Reading.{values_at, datum_at}
use Rattle.avro_file.specs.Pairs.{pair}
use Rattle.avro_file.specs.Ending.{standing, Ends, EndsCounted}
use Rattle.avro_file.specs.Window.{AreLast, EndsInFour, AreEnds}
use Rattle.avro_file.proofs.Steps.{ok_is}
use Rattle.avro_file.proofs.Behind.{behind_made}
use Rattle.avro_file.proofs.Paired.{long_pair_ends}
use Rattle.avro_file.proofs.Places.{int_ends, long_ends}

-- ---- bits

-- the bits of a rest are the lowest
pub low_bits : (n k i : ℕ) → i < k → bit_at (n % 2 ^ k) i ≡ bit_at n i
low_bits n k i lt = sym (bit_at_cat_low (n / 2 ^ k) k (n % 2 ^ k) i lt) ∙ ap (λ m. bit_at m i) (div-add-mod' n (2 ^ k))

some_power : (k : ℕ) → 0 < 2 ^ k
some_power k = let two : 0 < 2 = omega arith in
    let h : 2 ^ 0 ≤ 2 ^ k = pow-le-pow_right {n = 2} two {i = 0} {j = k} (omega arith) in omega (arith, h)

rest_fits : (n k : ℕ) → n % 2 ^ k < 2 ^ k
rest_fits n k = mod-lt n (some_power k)

low_place : (n k i : ℕ) → bit_at (n % 2 ^ k) i ≡ 1 → i < k
low_place n k i h = go (cases_lt i k) where
  go : (i < k) ⊎ (k ≤ i) → i < k
  go (inl lt) = lt
  go (inr ge) = absurd (omega (arith, h, bit_at_above (n % 2 ^ k) k i (rest_fits n k) ge))

-- a number whose lowest bit is this
lowest_is : (n t : ℕ) → bit_at n t ≡ 1 → ((i : ℕ) → i < t → bit_at n i ≡ 0) → n % 2 ^ (t + 1) ≡ 2 ^ t
lowest_is n t is none = same_from_bits_below (t + 1) (n % 2 ^ (t + 1)) (2 ^ t) (rest_fits n (t + 1))
    (pow-lt (omega arith)) (λ i lt. low_bits n (t + 1) i lt ∙ go i lt (cases_order i t)) where
      go : (i : ℕ) → i < t + 1 → (i ≡ t) ⊎ ((i < t) ⊎ (t < i)) → bit_at n i ≡ bit_at (2 ^ t) i
      go i lt (inl e) = rw e (is ∙ sym (bit_at-pow_same t))
      go i lt (inr (inl l)) = none i l ∙ sym (bit_at-pow_other t i (λ e. omega arith))
      go i lt (inr (inr g)) = absurd (omega arith)

-- one less clears it, and sets those below
one_less : (a t i : ℕ) → (bit_at (a * 2 ^ (t + 1) + 2 ^ t) i ≡ 1) × (i ≢ t) → t < i
    → bit_at (a * 2 ^ (t + 1) + (2 ^ t - 1)) i ≡ 1
one_less a t i is gt =
    let less : 2 ^ t < 2 ^ (t + 1) = pow-lt (omega arith) in
    bit_at_cat_high a (t + 1) (2 ^ t - 1) i (omega (arith, less)) (omega arith)
    ∙ sym (bit_at_cat_high a (t + 1) (2 ^ t) i less (omega arith)) ∙ is.0

abbrev cleared : ℕ → ℕ
cleared n = bit_and n ((n + (2 ^ 64 - 1)) % 2 ^ 64)

both_set : (n m i : ℕ) → bit_at (bit_and n m) i ≡ 1 → (bit_at n i ≡ 1) × (bit_at m i ≡ 1)
both_set n m i h =
    let e = bit_at_and n m i in
    (omega (arith, h, e, bit_at-lt n i, bit_at-lt m i), omega (arith, h, e, bit_at-lt n i, bit_at-lt m i))

set_both : (n m i : ℕ) → bit_at n i ≡ 1 → bit_at m i ≡ 1 → bit_at (bit_and n m) i ≡ 1
set_both n m i h g = omega (arith, bit_at_and n m i, h, g)

pub all_but_lowest : (n i : ℕ) → n < 2 ^ 64
    → (bit_at (cleared n) i ≡ 1) ↔ ((bit_at n i ≡ 1) × (i ≢ trailing_zeros w64 n))
all_but_lowest zero i small =
    let none = bit_at-zero i in (
      λ h. absurd (omega (arith, none, (both_set 0 ((0 + (2 ^ 64 - 1)) % 2 ^ 64) i h).0)),
      λ h. absurd (omega (arith, none, h.0)),
    )
all_but_lowest (suc k) i small =
    let n = suc k in
    let t = trailing_zeros w64 n in
    let z = bit_at-trailing_zeros w64 n (omega arith) (omega (arith, small)) in
    let a = n / 2 ^ (t + 1) in
    let is : n ≡ a * 2 ^ (t + 1) + 2 ^ t = sym (div-add-mod' n (2 ^ (t + 1)))
    ∙ ap (λ (m : ℕ). a * 2 ^ (t + 1) + m) (lowest_is n t z.1 z.2) in
    let m = (n + (2 ^ 64 - 1)) % 2 ^ 64 in
    let less : m ≡ a * 2 ^ (t + 1) + (2 ^ t - 1) = omega (arith, small, is, some_power t) in
    let there : bit_at m t ≡ 0 = ap (λ (x : ℕ). bit_at x t) less
    ∙ bit_at_cat_low a (t + 1) (2 ^ t - 1) t (omega arith) ∙ bit_at_ones_above t t (omega arith) in (
      λ h. (
        (both_set n m i h).0,
        λ e. let b : bit_at m t ≡ 1 = rw (← e) (both_set n m i h).1 in
            absurd (omega (arith, b, there)),
      ),
      λ h. set_both n m i h.0 (ap (λ (x : ℕ). bit_at x i) less ∙ one_less a t i
          (sym (ap (λ (x : ℕ). bit_at x i) is) ∙ h.0, h.1) (above n t i z.2 h)),
    ) where
      above : (n t i : ℕ) → ((j : ℕ) → j < t → bit_at n j ≡ 0) → (bit_at n i ≡ 1) × (i ≢ t) → t < i
      above n t i below h = go (cases_order i t) where
        go : (i ≡ t) ⊎ ((i < t) ⊎ (t < i)) → t < i
        go (inl e) = absurd (h.1 e)
        go (inr (inl l)) = absurd (omega (arith, below i l, h.0))
        go (inr (inr g)) = g

-- ---- the bytes of a window

tells : (x : ℕ) (b : Bool) → ltb x 128 ≡ b → (cond {A = ℕ} b 1 0 ≡ 1) ↔ (x < 128)
tells x true e = (λ h. ltb-true x 128 e, λ h. refl)
tells x false e = (λ h. absurd (omega arith), λ h. absurd (differ (sym (lt-ltb x 128 h) ∙ e))) where
  differ : true ≡ false → ⊥
  differ h = cc

byte_there : (bytes : List ℕ) (at i : ℕ) → i < 64 → get_or (take 64 (drop at bytes)) i 0 ≡ get_or bytes (at + i) 0
byte_there bytes at i lt = get_or-take 64 (drop at bytes) i 0 lt ∙ get_or-drop at bytes i 0

window_len : (bytes : List ℕ) (at : ℕ) → at + 64 ≤ length bytes → length (take 64 (drop at bytes)) ≡ 64
window_len bytes at le = length-take-le 64 (drop at bytes) (omega (arith, length-drop at bytes, le))

pub last_found : (bytes : List ℕ) (at : ℕ) → at + 64 ≤ length bytes → AreLast bytes at
    (mask_l (map (top 7) (zip2 (λ a b. cond (ltb a b) 255 0) (take 64 (drop at bytes)) (replicate 64 128))) % 2 ^ 64)
last_found bytes at le i = go (cases_order i 64) where
  seen : List ℕ
  seen = take 64 (drop at bytes)

  bit : bit_at (mask_l (map (top 7) (zip2 (λ a b. cond (ltb a b) 255 0) seen (replicate 64 128))) % 2 ^ 64) i
      ≡ cond (get_or (map (λ b. ltb b 128) seen) i false) 1 0
  bit = ap (λ (n : ℕ). bit_at n i) (bitmask_splat w8 ltb seen 64 128 (window_len bytes at le) (omega arith))
      ∙ bit_mask_l (map (λ b. ltb b 128) seen) i

  Told : Type 0
  Told = (bit_at (mask_l (map (top 7) (zip2 (λ a b. cond (ltb a b) 255 0) seen (replicate 64 128))) % 2 ^ 64) i ≡ 1)
      ↔ ((i < 64) × (get_or bytes (at + i) 0 < 128))

  past : 64 ≤ i → Told
  past ge =
      let none : get_or (map (λ b. ltb b 128) seen) i false ≡ false = get_or_past _ i false
      (omega (arith, ge, length-map seen (λ b. ltb b 128), window_len bytes at le)) in
      let zero : cond {A = ℕ} (get_or (map (λ b. ltb b 128) seen) i false) 1 0 ≡ 0 = rw none refl in
      (λ h. absurd (omega (arith, h, bit, zero)), λ h. absurd (omega (arith, ge, h.0)))

  go : (i ≡ 64) ⊎ ((i < 64) ⊎ (64 < i)) → Told
  go (inl e) = past (omega (arith, e))
  go (inr (inr g)) = past (omega (arith, g))
  go (inr (inl lt)) =
      let x = get_or bytes (at + i) 0 in
      let same : get_or (map (λ b. ltb b 128) seen) i false ≡ ltb x 128 =
      get_or-map (λ b. ltb b 128) seen i 0 false (omega (arith, lt, window_len bytes at le))
      ∙ ap (λ b. ltb b 128) (byte_there bytes at i lt) in
      let told = tells x (ltb x 128) refl in
      let there = bit ∙ ap (λ b. cond {A = ℕ} b 1 0) same in
      (λ h. (lt, told.0 (sym there ∙ h)), λ h. there ∙ told.1 h.1)

-- ---- numbers of at most four bytes

-- of four bits one is set
one_of_four : (f : ℕ → ℕ) (a b c d : ℕ) → f 0 ≡ a → f 1 ≡ b → f 2 ≡ c → f 3 ≡ d → a < 2 → b < 2 → c < 2 → d < 2
    → min (min (1 - a) (1 - b)) (min (1 - c) (1 - d)) ≡ 0 → (k : ℕ) × (k < 4) × (f k ≡ 1)
one_of_four f (suc zero) b c d p q r s la lb lc ld h = (0, omega arith, p)
one_of_four f (suc (suc a)) b c d p q r s la lb lc ld h = absurd (omega (arith, la))
one_of_four f zero (suc zero) c d p q r s la lb lc ld h = (1, omega arith, q)
one_of_four f zero (suc (suc b)) c d p q r s la lb lc ld h = absurd (omega (arith, lb))
one_of_four f zero zero (suc zero) d p q r s la lb lc ld h = (2, omega arith, r)
one_of_four f zero zero (suc (suc c)) d p q r s la lb lc ld h = absurd (omega (arith, lc))
one_of_four f zero zero zero (suc zero) p q r s la lb lc ld h = (3, omega arith, s)
one_of_four f zero zero zero (suc (suc d)) p q r s la lb lc ld h = absurd (omega (arith, ld))
one_of_four f zero zero zero zero p q r s la lb lc ld h = absurd (omega (arith, h))

abbrev pub two_on : ℕ → ℕ
two_on last = bit_and (2 ^ 64 - 1 - last) ((2 ^ 64 - 1 - last) / 2)

abbrev pub four_on : ℕ → ℕ
four_on last = bit_and (two_on last) (two_on last / 4)

two_bits : (last i : ℕ) → last < 2 ^ 64 → i + 1 < 64
    → bit_at (two_on last) i ≡ min (1 - bit_at last i) (1 - bit_at last (suc i))
two_bits last i small lt =
    let m = 2 ^ 64 - 1 - last in
    let here : bit_at m i ≡ 1 - bit_at last i = bit_at_not w64 last i small (omega (arith, lt)) in
    let next : bit_at (m / 2) i ≡ 1 - bit_at last (suc i) = sym (bit_at-suc m i)
    ∙ bit_at_not w64 last (suc i) small (omega (arith, lt)) in
    bit_at_and m (m / 2) i ∙ rw (here, next) refl

four_bits : (last i : ℕ) → last < 2 ^ 64 → i + 3 < 64 → bit_at (four_on last) i ≡ min
    (min (1 - bit_at last i) (1 - bit_at last (suc i)))
    (min (1 - bit_at last (suc (suc i))) (1 - bit_at last (suc (suc (suc i)))))
four_bits last i small lt =
    let t = two_on last in
    let quarter : t / 4 ≡ t / 2 / 2 = omega arith in
    let later : bit_at (t / 4) i ≡ bit_at t (suc (suc i)) = ap (λ (n : ℕ). bit_at n i) quarter
    ∙ sym (bit_at-suc (t / 2) i) ∙ sym (bit_at-suc t (suc i)) in
    bit_at_and t (t / 4) i ∙ rw (
      later,
      two_bits last i small (omega (arith, lt)),
      two_bits last (suc (suc i)) small (omega (arith, lt)),
    ) refl

-- where four do not go on, one of them ends a number
one_ends : (bytes : List ℕ) (at last i : ℕ) → AreLast bytes at last → last < 2 ^ 64 → i + 3 < 64
    → bit_at (four_on last) i ≡ 0 → EndsInFour bytes at i
one_ends bytes at last i is small lt none =
    let found = one_of_four (λ k. bit_at last (i + k)) (bit_at last i) (bit_at last (suc i)) (bit_at last (suc (suc i)))
    (bit_at last (suc (suc (suc i)))) (ap (bit_at last) (omega arith)) (ap (bit_at last) (omega arith))
    (ap (bit_at last) (omega arith)) (ap (bit_at last) (omega arith)) (bit_at-lt last i) (bit_at-lt last (suc i))
    (bit_at-lt last (suc (suc i))) (bit_at-lt last (suc (suc (suc i)))) (sym (four_bits last i small lt) ∙ none) in
    (found.0, found.1, ((is (i + found.0)).0 found.2).1)

pub all_ends : (bytes : List ℕ) (at last : ℕ) → AreLast bytes at last → last < 2 ^ 64 → four_on last ≡ 0
    → AreEnds bytes at 0 last
all_ends bytes at last is small none = (
  64,
  λ i. (λ h. let s = (is i).0 h in (omega arith, s.0, s.0, s.1), λ h. (is i).1 (h.2, h.3)),
  λ i lt room. one_ends bytes at last i is small room (ap (λ (n : ℕ). bit_at n i) none ∙ bit_at-zero i),
)

pub some_ends : (bytes : List ℕ) (at last : ℕ) → AreLast bytes at last → last < 2 ^ 64 → four_on last ≢ 0
    → AreEnds bytes at 0 (last % (1 * 2 ^ trailing_zeros w64 (four_on last) % 2 ^ 64))
some_ends bytes at last is small some =
    let four = four_on last in
    let t = trailing_zeros w64 four in
    let fits : four < 2 ^ 64 = omega (
      arith,
      and_le_l (two_on last) (two_on last / 4),
      and_le_l (2 ^ 64 - 1 - last) ((2 ^ 64 - 1 - last) / 2),
    ) in
    let z = bit_at-trailing_zeros w64 four (omega (arith, some)) fits in
    let power : 2 ^ t < 2 ^ 64 = pow-lt z.0 in
    let same : 1 * 2 ^ t % 2 ^ 64 ≡ 2 ^ t = omega (arith, power) in
    rw same (
      t,
      λ i. (
        λ h. let lt = low_place last t i h in let s = (is i).0 (sym (low_bits last t i lt) ∙ h) in
            (omega arith, lt, s.0, s.1),
        λ h. low_bits last t i h.1 ∙ (is i).1 (h.2, h.3),
      ),
      λ i lt room. one_ends bytes at last i is small room (z.2 i lt),
    )

-- ---- the next number

-- as many groups as bytes go on
groups_on : (bytes : List ℕ) (at m : ℕ) → ((j : ℕ) → get_or bytes j 0 < 256) → m ≤ 9 → at + m < length bytes
    → ((j : ℕ) → j < m → 128 ≤ get_or bytes (at + j) 0) → GroupsUpTo bytes at m (at + m)
groups_on bytes at zero byte le there on = rw (at_none at) (no_groups bytes at (omega (arith, there))) where
  at_none : (n : ℕ) → n + 0 ≡ n
  at_none n = omega arith
groups_on bytes at (suc m) byte le there on =
    let before = groups_on bytes at m byte (omega (arith, le)) (omega (arith, there))
    (λ j lt. on j (omega (arith, lt))) in
    let same : at + suc m ≡ at + m + 1 = omega arith in
    let step : m + 1 ≡ suc m = omega arith in
    let more = one_more bytes at m (at + m) before (omega (arith, le)) (omega (arith, there)) (byte (at + m))
    (on m (omega arith)) in
    rw (same, ← step) more

-- the lowest bit of the ends from a start on
pub record NextEnd (bytes : List ℕ) (at start ends : ℕ) : Type 0 where
  pub from : start ≤ trailing_zeros w64 ends
  pub within : trailing_zeros w64 ends < 64
  pub int : Ends int_at bytes (at + start) (at + trailing_zeros w64 ends + 1)
  pub whole : Ends long_at bytes (at + start) (at + trailing_zeros w64 ends + 1)

-- the bytes before the lowest go on
going_on : (bytes : List ℕ) (at start ends i : ℕ) → AreEnds bytes at start ends → start ≤ i
    → i < trailing_zeros w64 ends → 0 < ends → ends < 2 ^ 64 → 128 ≤ get_or bytes (at + i) 0
going_on bytes at start ends i (reach, is, short) le lt some small = go (cases_lt (get_or bytes (at + i) 0) 128) where
  go : (get_or bytes (at + i) 0 < 128) ⊎ (128 ≤ get_or bytes (at + i) 0) → 128 ≤ get_or bytes (at + i) 0
  go (inr ge) = ge
  go (inl last) =
      let z = bit_at-trailing_zeros w64 ends some small in
      let there = (is (trailing_zeros w64 ends)).0 z.1 in
      absurd (omega (arith, z.2 i lt, (is i).1 (le, omega (arith, there.1, lt), omega (arith, z.0, lt), last)))

four_at_most : (bytes : List ℕ) (at start ends : ℕ) → AreEnds bytes at start ends → 0 < ends → ends < 2 ^ 64
    → trailing_zeros w64 ends - start < 4
four_at_most bytes at start ends (reach, is, short) some small =
    go (cases_lt (trailing_zeros w64 ends - start) 4) where
      go : (trailing_zeros w64 ends - start < 4) ⊎ (4 ≤ trailing_zeros w64 ends - start)
          → trailing_zeros w64 ends - start < 4
      go (inl lt) = lt
      go (inr ge) =
          let z = bit_at-trailing_zeros w64 ends some small in
          let there = (is (trailing_zeros w64 ends)).0 z.1 in
          let one = short start (omega (arith, there.1, ge)) (omega (arith, z.0, ge)) in
          absurd (omega (
            arith,
            one.2,
            going_on bytes at start ends (start + one.0) (reach, is, short) (omega arith)
                (omega (arith, one.1, ge)) some small,
          ))

pub next_end : (bytes : List ℕ) (at start ends : ℕ) → ((j : ℕ) → get_or bytes j 0 < 256) → at + 64 ≤ length bytes
    → AreEnds bytes at start ends → 0 < ends → ends < 2 ^ 64 → NextEnd bytes at start ends
next_end bytes at start ends byte room are some small =
    let t = trailing_zeros w64 ends in
    let z = bit_at-trailing_zeros w64 ends some small in
    let there = (are.1 t).0 z.1 in
    let len = four_at_most bytes at start ends are some small in
    let place : at + start + (t - start) ≡ at + t = omega (arith, there.0) in
    let groups : GroupsUpTo bytes (at + start) (t - start) (at + t) = rw (← place) (groups_on bytes (at + start)
    (t - start) byte (omega (arith, len)) (omega (arith, there.0, there.2, room)) (λ j lt.
    let same : at + (start + j) ≡ at + start + j = omega arith in
    rw (← same) (going_on bytes at start ends (start + j) are (omega arith) (omega (arith, lt, there.0)) some
    small))) in
    record {
      from = there.0;
      within = z.0;
      int = int_ends bytes (at + start) (t - start) (at + t) groups len (omega (arith, room, z.0)) there.3;
      whole = long_ends bytes (at + start) (t - start) (at + t) groups (omega (arith, len)) (omega (arith, room, z.0))
          there.3;
    }

-- the ends behind the lowest
pub later_ends : (bytes : List ℕ) (at start ends others : ℕ) → AreEnds bytes at start ends → 0 < ends → ends < 2 ^ 64
    → ((i : ℕ) → (bit_at others i ≡ 1) ↔ ((bit_at ends i ≡ 1) × (i ≢ trailing_zeros w64 ends)))
    → AreEnds bytes at (trailing_zeros w64 ends + 1) others
later_ends bytes at start ends others (reach, is, short) some small but =
    let t = trailing_zeros w64 ends in
    let z = bit_at-trailing_zeros w64 ends some small in
    let there = (is t).0 z.1 in (
      reach,
      λ i. (
        λ h. let b = (but i).0 h in let s = (is i).0 b.0 in
            (above i (cases_order i (trailing_zeros w64 ends)) b, s.1, s.2, s.3),
        λ h. (but i).1 ((is i).1 (omega (arith, h.0, there.0), h.1, h.2, h.3), λ e. omega (arith, e, h.0)),
      ),
      short,
    ) where
      above : (i : ℕ) → (i ≡ trailing_zeros w64 ends) ⊎ ((i < trailing_zeros w64 ends) ⊎ (trailing_zeros w64 ends < i))
          → (bit_at ends i ≡ 1) × (i ≢ trailing_zeros w64 ends) → trailing_zeros w64 ends + 1 ≤ i
      above i (inl e) b = absurd (b.1 e)
      above i (inr (inl l)) b = absurd (omega (arith, (bit_at-trailing_zeros w64 ends some small).2 i l, b.0))
      above i (inr (inr g)) b = omega (arith, g)

-- where some bit is left, some was there
pub some_before : (ends others : ℕ) → 0 < others → others < 2 ^ 64
    → ((i : ℕ) → (bit_at others i ≡ 1) ↔ ((bit_at ends i ≡ 1) × (i ≢ trailing_zeros w64 ends))) → 0 < ends
some_before zero others some small but =
    let z = bit_at-trailing_zeros w64 others some small in
    absurd (omega (arith, bit_at-zero (trailing_zeros w64 others), ((but (trailing_zeros w64 others)).0 z.1).0))
some_before (suc k) others some small but = omega arith

-- ---- pairs

first_joined : {A : Type 0} (read : Position → Read A) (n m : ℕ) (r : Read A) (q : Position)
    → ((p : Position) → behind (values_at read n p) ≡ Ok q
    → behind (values_at read (n + m) p) ≡ behind (values_at read m q))
    → behind (r >>= λ first. values_at read n first.1 >>= λ others. Ok (first.0 ∷ others.0, others.1)) ≡ Ok q
    → behind (r >>= λ first. values_at read (n + m) first.1 >>= λ others. Ok (first.0 ∷ others.0, others.1))
    ≡ behind (values_at read m q)
first_joined {A} read n m (Ok x) q rest e =
    behind_made (λ (vs : List A). x.0 ∷ vs) (values_at read (n + m) x.1)
    ∙ rest x.1 (sym (behind_made (λ (vs : List A). x.0 ∷ vs) (values_at read n x.1)) ∙ e)
first_joined {A} read n m (Err f) q rest e = absurd cc

-- some values, and behind them some more
values_joined : {A : Type 0} (read : Position → Read A) (n m : ℕ) (p q : Position) → behind (values_at read n p) ≡ Ok q
    → behind (values_at read (n + m) p) ≡ behind (values_at read m q)
unfolding values_at
values_joined read zero m p q e =
    let same : p ≡ q = ok_is p q e in
    let none : 0 + m ≡ m = omega arith in
    rw (same, none) refl
values_joined read (suc n) m p q e =
    let more : suc n + m ≡ suc (n + m) = omega arith in
    rw more (first_joined read n m (read p) q (λ r f. values_joined read n m r q f) e)

-- so many ints and longs lie between two places
abbrev pub ArePairs : ℕ → List ℕ → ℕ → ℕ → Type 0
ArePairs n bytes at end = (left : ℕ) → EndsCounted (values_at (datum_at (pair long)) n) bytes at left end left

pub no_pairs : (bytes : List ℕ) (at : ℕ) → at ≤ length bytes → ArePairs 0 bytes at at
unfolding values_at
no_pairs bytes at le left = (le, refl)

pub pairs_joined : (n m : ℕ) (bytes : List ℕ) (at mid end : ℕ) → ArePairs n bytes at mid → ArePairs m bytes mid end
    → ArePairs (n + m) bytes at end
pairs_joined n m bytes at mid end before after left = (
  (after left).0,
  values_joined (datum_at (pair long)) n m (standing bytes at left) (standing bytes mid left) (before left).1
      ∙ (after left).1,
)

one_pair : (bytes : List ℕ) (at mid end : ℕ) → Ends int_at bytes at mid → Ends long_at bytes mid end
    → ArePairs 1 bytes at end
unfolding values_at
one_pair bytes at mid end k z left =
    let v = long_pair_ends bytes at mid end left k z in
    (z.1, rw v.1 refl)

-- so many pairs were passed, and the ends behind them are left
pub record PairOn (bytes : List ℕ) (at pairs ends here : ℕ) : Type 0 where
  pub from : at ≤ here
  pub fits : ends < 2 ^ 64
  pub ends_left : AreEnds bytes at (here - at) ends
  pub so_far : ArePairs pairs bytes at here

pub first_on : (bytes : List ℕ) (at ends : ℕ) → at ≤ length bytes → ends < 2 ^ 64 → AreEnds bytes at 0 ends
    → PairOn bytes at 0 ends at
first_on bytes at ends le small are =
    let none : at - at ≡ 0 = omega arith in
    record { from = omega arith; fits = small; ends_left = rw none are; so_far = no_pairs bytes at le }

pub pair_on : (bytes : List ℕ) (at pairs ends here longs others : ℕ) → ((j : ℕ) → get_or bytes j 0 < 256)
    → at + 64 ≤ length bytes → 0 < longs → longs < 2 ^ 64 → others < 2 ^ 64
    → ((i : ℕ) → (bit_at longs i ≡ 1) ↔ ((bit_at ends i ≡ 1) × (i ≢ trailing_zeros w64 ends)))
    → ((i : ℕ) → (bit_at others i ≡ 1) ↔ ((bit_at longs i ≡ 1) × (i ≢ trailing_zeros w64 longs)))
    → PairOn bytes at pairs ends here → PairOn bytes at (pairs + 1) others (at + trailing_zeros w64 longs + 1)
pair_on bytes at pairs ends here longs others byte room some few fewer longs_but others_but p =
    let small = p.fits in
    let there : 0 < ends = some_before ends longs some few longs_but in
    let key = next_end bytes at (here - at) ends byte room p.ends_left there small in
    let first : at + (here - at) ≡ here = omega (arith, p.from) in
    let second : at + (trailing_zeros w64 ends + 1) ≡ at + trailing_zeros w64 ends + 1 = omega arith in
    let left = later_ends bytes at (here - at) ends longs p.ends_left there small longs_but in
    let number = next_end bytes at (trailing_zeros w64 ends + 1) longs byte room left some few in
    let third : at + trailing_zeros w64 longs + 1 - at ≡ trailing_zeros w64 longs + 1 = omega arith in
    record {
      from = omega arith;
      fits = fewer;
      ends_left = rw third (later_ends bytes at (trailing_zeros w64 ends + 1) longs others left some few others_but);
      so_far = pairs_joined pairs 1 bytes at here (at + trailing_zeros w64 longs + 1) p.so_far (one_pair bytes here
          (at + trailing_zeros w64 ends + 1) (at + trailing_zeros w64 longs + 1) (rw first at key.int)
          (rw second at number.whole));
    }
