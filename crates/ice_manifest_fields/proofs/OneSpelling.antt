-- One decimal number is kept as the same bytes, however many bytes it was written with.
use Rattle.std.proofs.Common.{◌≡◌, ◌⊎◌, inl, inr, ℕ, zero, suc, ◌+◌, ◌-◌, ◌*◌, ◌^◌, ◌<◌, ◌≤◌, nat_lt, pos, ◌-ℤ◌, Bool}
use Rattle.std.proofs.Common.{true, false, List, [], ◌∷◌, length, refl, sym, ap, subst, ◌∙◌, arith}
use Rattle.std.proofs.Math.Nat.{pow-succ', pow-le-pow_right, mul-le-mul_right}
use Rattle.std.proofs.lemmas.Bool.{ltb-true, ltb-false, lt-ltb, le-ltb}
use Rattle.std.proofs.lemmas.Int.{ints}
use Rattle.ice_manifest_fields.specs.Decimals.{magnitude, twos_complement, is_redundant, shortest, AreBytes}
use Rattle.ice_manifest_fields.specs.Decimals.{KeepsOneSpelling}
use Rattle.ice_manifest_fields.proofs.Decimals.{same_number}

-- ---- numbers alone

-- a number is below another or not
low_or_high : (x n : ℕ) → (x < n) ⊎ (n ≤ x)
low_or_high x n =
    let P : (b : Bool) → nat_lt x n ≡ b → (x < n) ⊎ (n ≤ x) =
    λ b. elim b as (λ v. nat_lt x n ≡ v → (x < n) ⊎ (n ≤ x)) [
      | true ↦ λ e. inl (ltb-true x n e)
      | false ↦ λ e. inr
          (ltb-false x n e)
    ] in
    P (nat_lt x n) refl

byte_below : (b P m : ℕ) → b < 256 → m < P → b * P + m < 256 * P
byte_below b P m lt h = let p : b * P ≤ 255 * P = mul-le-mul_right P (omega (arith, lt)) in omega (arith, p, h)

low_below : (b P m : ℕ) → b < 128 → m < P → b * P + m < 128 * P
low_below b P m lt h = let p : b * P ≤ 127 * P = mul-le-mul_right P (omega (arith, lt)) in omega (arith, p, h)

high_above : (b P m : ℕ) → 128 ≤ b → 128 * P ≤ b * P + m
high_above b P m le = let p : 128 * P ≤ b * P = mul-le-mul_right P le in omega (arith, p)

-- a number that half a lower place holds begins with a zero, and the place is low
begins_with_zero : (b c Q R m : ℕ) → R ≡ 256 * Q → b * R + (c * Q + m) < 128 * Q → (b ≡ 0) × (c < 128)
begins_with_zero zero c Q R m r lt = (
  refl,
  elim (low_or_high c 128) as (λ _. c < 128) [
    | inl low ↦ low
    | inr high ↦ let p : 128 * Q ≤ c * Q =
        mul-le-mul_right Q high in absurd (omega (arith, p, lt))
  ],
)
begins_with_zero (suc b) c Q R m r lt = let p : 1 * R ≤ suc b * R = mul-le-mul_right R (omega arith) in
    absurd (omega (arith, p, r, lt))

-- the same below zero
begins_with_ones : (b c Q R m : ℕ) → R ≡ 256 * Q → b < 256 → c < 256 → m < Q → 65408 * Q ≤ b * R + (c * Q + m)
    → (b ≡ 255) × (128 ≤ c)
begins_with_ones b c Q R m r lb lc lt le =
    let first : b ≡ 255 = elim (low_or_high b 255) as (λ _. b ≡ 255) [
      | inl low ↦
          let p : b * R ≤ 254 * R = mul-le-mul_right R (omega (arith, low)) in
          let q : c * Q ≤ 255 * Q = mul-le-mul_right Q (omega (arith, lc)) in
          absurd (omega (arith, p, q, r, lt, le))
      | inr high ↦ omega (arith, high, lb)
    ] in (
      first,
      elim (low_or_high c 128) as (λ _. 128 ≤ c) [
        | inl low ↦
            let p : b * R ≤ 255 * R = mul-le-mul_right R (omega (arith, lb)) in
            let q : c * Q ≤ 127 * Q = mul-le-mul_right Q (omega (arith, low)) in
            absurd (omega (arith, p, q, r, lt, le))
        | inr high ↦ high
      ],
    )

-- what two places hold tells them apart
same_place : (x y P m n : ℕ) → m < P → n < P → x * P + m ≡ y * P + n → (x ≡ y) × (m ≡ n)
same_place x y P m n lm ln e = elim (low_or_high x y) as (λ _. (x ≡ y) × (m ≡ n)) [
  | inl low ↦ let p : suc x * P ≤ y * P = mul-le-mul_right P low in absurd (omega (arith, p, lm, e))
  | inr high ↦ elim (low_or_high y x) as (λ _. (x ≡ y) × (m ≡ n)) [
    | inl low ↦ let p : suc y * P ≤ x * P = mul-le-mul_right P low in absurd (omega (arith, p, ln, e))
    | inr low ↦ let is : x ≡ y = omega (arith, high, low) in (is, omega (arith, ap (λ z. z * P) is, e))
  ]
]

-- ---- bytes

below : (bs : List ℕ) → AreBytes bs → magnitude bs < 256 ^ length bs
below [] h = omega arith
below (b ∷ bs) h =
    let p : 256 ^ length (b ∷ bs) ≡ 256 * 256 ^ length bs = pow-succ' 256 (length bs) in
    rw p (byte_below b (256 ^ length bs) (magnitude bs) h.0 (below bs h.1))

same_bytes : (xs ys : List ℕ) → length xs ≡ length ys → AreBytes xs → AreBytes ys → magnitude xs ≡ magnitude ys
    → xs ≡ ys
same_bytes [] [] l hx hy e = refl
same_bytes [] (y ∷ ys) l hx hy e = absurd (omega (arith, l))
same_bytes (x ∷ xs) [] l hx hy e = absurd (omega (arith, l))
same_bytes (x ∷ xs) (y ∷ ys) l hx hy e =
    let k : length xs ≡ length ys = omega (arith, l) in
    let P : ℕ → Type 0 = λ n. x * 256 ^ length xs + magnitude xs ≡ y * 256 ^ n + magnitude ys in
    let f : x * 256 ^ length xs + magnitude xs ≡ y * 256 ^ length xs + magnitude ys = subst P (sym k) e in
    let by : magnitude ys < 256 ^ length xs = rw k (below ys hy.1) in
    let s = same_place x y (256 ^ length xs) (magnitude xs) (magnitude ys) (below xs hx.1) by f in
    rw (s.0, same_bytes xs ys k hx.1 hy.1 s.1) refl

low_is : (x : ℕ) (xs : List ℕ) → x < 128 → twos_complement (x ∷ xs) ≡ pos (magnitude (x ∷ xs))
low_is x xs lt = rw (lt-ltb x 128 lt) refl

high_is : (x : ℕ) (xs : List ℕ) → 128 ≤ x → twos_complement (x ∷ xs) ≡ pos (magnitude (x ∷ xs)) -ℤ pos
    (256 ^ length (x ∷ xs))
high_is x xs le = rw (le-ltb x 128 le) refl

zero_is_redundant : (b c : ℕ) → b ≡ 0 → c < 128 → is_redundant b c ≡ true
zero_is_redundant b c is lt = rw (is, lt-ltb c 128 lt) refl

ones_are_redundant : (b c : ℕ) → b ≡ 255 → 128 ≤ c → is_redundant b c ≡ true
ones_are_redundant b c is le = rw (is, le-ltb c 128 le) refl

-- where fewer bytes spell the number too, the first is redundant
first_is_redundant : (x : ℕ) (xs : List ℕ) (b c : ℕ) (bs : List ℕ) → AreBytes (x ∷ xs) → AreBytes (b ∷ c ∷ bs)
    → length xs ≤ length bs → twos_complement (x ∷ xs) ≡ twos_complement (b ∷ c ∷ bs) → is_redundant b c ≡ true
first_is_redundant x xs b c bs hx hb le e =
    let less : 256 ^ length xs ≤ 256 ^ length bs = pow-le-pow_right (omega arith) le in
    let X : 256 ^ length (x ∷ xs) ≡ 256 * 256 ^ length xs = pow-succ' 256 (length xs) in
    let R : 256 ^ length (c ∷ bs) ≡ 256 * 256 ^ length bs = pow-succ' 256 (length bs) in
    let S : 256 ^ length (b ∷ c ∷ bs) ≡ 256 * 256 ^ length (c ∷ bs) = pow-succ' 256 (length (c ∷ bs)) in
    let mx : magnitude xs < 256 ^ length xs = below xs hx.1 in
    let mb : magnitude bs < 256 ^ length bs = below bs hb.1.1 in
    let whole : magnitude (b ∷ c ∷ bs) < 256 ^ length (b ∷ c ∷ bs) = below (b ∷ c ∷ bs) hb in
    let of_x : magnitude (x ∷ xs) < 256 ^ length (x ∷ xs) = below (x ∷ xs) hx in
    let G : Type 0 = is_redundant b c ≡ true in
    elim (low_or_high x 128) as (λ _. G) [
      | inl xl ↦ elim (low_or_high b 128) as (λ _. G) [
        | inl bl ↦
            let f : pos (magnitude (x ∷ xs)) ≡ pos (magnitude (b ∷ c ∷ bs)) = sym (low_is x xs xl) ∙ e ∙ low_is b
            (c ∷ bs) bl in
            let small : x * 256 ^ length xs + magnitude xs < 128 * 256 ^ length xs = low_below x (256 ^ length xs)
            (magnitude xs) xl mx in
            let z = begins_with_zero b c (256 ^ length bs) (256 ^ length (c ∷ bs)) (magnitude bs) R
            (omega (arith, ints, f, small, less)) in
            zero_is_redundant b c z.0 z.1
        | inr bh ↦
            let f : pos (magnitude (x ∷ xs)) ≡ pos (magnitude (b ∷ c ∷ bs)) -ℤ pos (256 ^ length (b ∷ c ∷ bs)) =
            sym (low_is x xs xl) ∙ e ∙ high_is b (c ∷ bs) bh in
            absurd (omega (arith, ints, f, whole))
      ]
      | inr xh ↦ elim (low_or_high b 128) as (λ _. G) [
        | inl bl ↦
            let f : pos (magnitude (x ∷ xs)) -ℤ pos (256 ^ length (x ∷ xs)) ≡ pos (magnitude (b ∷ c ∷ bs)) =
            sym (high_is x xs xh) ∙ e ∙ low_is b (c ∷ bs) bl in
            absurd (omega (arith, ints, f, of_x))
        | inr bh ↦
            let f : pos (magnitude (x ∷ xs)) -ℤ pos (256 ^ length (x ∷ xs)) ≡ pos (magnitude (b ∷ c ∷ bs)) -ℤ pos
            (256 ^ length (b ∷ c ∷ bs)) = sym (high_is x xs xh) ∙ e ∙ high_is b (c ∷ bs) bh in
            let large : 128 * 256 ^ length xs ≤ x * 256 ^ length xs + magnitude xs = high_above x (256 ^ length xs)
            (magnitude xs) xh in
            let o = begins_with_ones b c (256 ^ length bs) (256 ^ length (c ∷ bs)) (magnitude bs) R hb.0 hb.1.0 mb
            (omega (arith, ints, f, large, less, X, R, S)) in
            ones_are_redundant b c o.0 o.1
      ]
    ]

-- as many bytes spell a number once
one_of_a_length : (x : ℕ) (xs : List ℕ) (y : ℕ) (ys : List ℕ) → length xs ≡ length ys → AreBytes (x ∷ xs)
    → AreBytes (y ∷ ys) → twos_complement (x ∷ xs) ≡ twos_complement (y ∷ ys) → x ∷ xs ≡ y ∷ ys
one_of_a_length x xs y ys l hx hy e =
    let of_x : magnitude (x ∷ xs) < 256 ^ length (x ∷ xs) = below (x ∷ xs) hx in
    let of_y : magnitude (y ∷ ys) < 256 ^ length (y ∷ ys) = below (y ∷ ys) hy in
    let same : 256 ^ length (x ∷ xs) ≡ 256 ^ length (y ∷ ys) = ap (λ n. 256 ^ suc n) l in
    let G : Type 0 = x ∷ xs ≡ y ∷ ys in
    let given : magnitude (x ∷ xs) ≡ magnitude (y ∷ ys) → G = same_bytes (x ∷ xs) (y ∷ ys) (ap suc l) hx hy in
    elim (low_or_high x 128) as (λ _. G) [
      | inl xl ↦ elim (low_or_high y 128) as (λ _. G) [
        | inl yl ↦ let f : pos (magnitude (x ∷ xs)) ≡ pos (magnitude (y ∷ ys)) = sym (low_is x xs xl) ∙ e ∙ low_is y ys
            yl in given (omega (arith, ints, f))
        | inr yh ↦
            let f : pos (magnitude (x ∷ xs)) ≡ pos (magnitude (y ∷ ys)) -ℤ pos (256 ^ length (y ∷ ys)) =
            sym (low_is x xs xl) ∙ e ∙ high_is y ys yh in
            absurd (omega (arith, ints, f, of_y))
      ]
      | inr xh ↦ elim (low_or_high y 128) as (λ _. G) [
        | inl yl ↦
            let f : pos (magnitude (x ∷ xs)) -ℤ pos (256 ^ length (x ∷ xs)) ≡ pos (magnitude (y ∷ ys)) =
            sym (high_is x xs xh) ∙ e ∙ low_is y ys yl in
            absurd (omega (arith, ints, f, of_x))
        | inr yh ↦
            let f : pos (magnitude (x ∷ xs)) -ℤ pos (256 ^ length (x ∷ xs)) ≡ pos (magnitude (y ∷ ys)) -ℤ pos
            (256 ^ length (y ∷ ys)) = sym (high_is x xs xh) ∙ e ∙ high_is y ys yh in
            given (omega (arith, ints, f, same))
      ]
    ]

-- ---- longer ones

longer : (k x : ℕ) (xs : List ℕ) (y : ℕ) (ys : List ℕ) → length ys ≡ k + length xs → AreBytes (x ∷ xs)
    → AreBytes (y ∷ ys) → twos_complement (x ∷ xs) ≡ twos_complement (y ∷ ys) → shortest (x ∷ xs) ≡ shortest (y ∷ ys)
unfolding shortest
longer zero x xs y ys l hx hy e = ap shortest (one_of_a_length x xs y ys (omega (arith, l)) hx hy e)
longer (suc k) x xs y [] l hx hy e = absurd (omega (arith, l))
longer (suc k) x xs y (z ∷ ys) l hx hy e =
    let first : is_redundant y z ≡ true = first_is_redundant x xs y z ys hx hy (omega (arith, l)) e in
    rw first (longer k x xs z ys (omega (arith, l)) hx hy.1 (e ∙ sym (same_number y z ys first)))

pub keeps_one_spelling : KeepsOneSpelling
keeps_one_spelling [] ys lx ly hx hy e = absurd (omega (arith, lx))
keeps_one_spelling (x ∷ xs) [] lx ly hx hy e = absurd (omega (arith, ly))
keeps_one_spelling (x ∷ xs) (y ∷ ys) lx ly hx hy e = elim (low_or_high (length xs) (length ys)) as
    (λ _. shortest (x ∷ xs) ≡ shortest (y ∷ ys)) [
      | inl low ↦ longer (length ys - length xs) x xs y ys (omega (arith, low)) hx hy e
      | inr high ↦ sym (longer (length xs - length ys) y ys x xs (omega (arith, high)) hy hx (sym e))
    ]
