-- Windows whose bytes are all ASCII.
use Rattle.std.proofs.Common.{◌≡◌, ◌⊎◌, inl, inr, ℕ, ◌+◌, ◌-◌, ◌*◌, ◌%◌, ◌^◌, ◌<◌, ◌≤◌, List, get_or, take, drop, sym}
use Rattle.std.proofs.Common.{ap, ◌∙◌, arith, w64}
use Rattle.std.specs.Int.{bit_at}
use Rattle.std.specs.Str.{IsAscii}
use Rattle.std.proofs.lemmas.Bool.{cases_lt}
use Rattle.std.proofs.lemmas.List.{get_or-take, get_or-drop, get_or_past, length-take}
use Rattle.std.proofs.lemmas.Nat.Bits.{bit_at-zero, bit_at-lt, bit_at_ones, bit_at_not}
use Rattle.std.proofs.Math.Pow.{pow-lt}
use Rattle.avro_file.specs.Window.{AreLast}
use Rattle.avro_file.proofs.Windows.{low_bits}

-- the bytes between two places are ASCII
abbrev pub AreSmall : List ℕ → ℕ → ℕ → Type 0
AreSmall bytes start end = (i : ℕ) → start ≤ i → i < end → get_or bytes i 0 < 128

pub none_small : (bytes : List ℕ) (start : ℕ) → AreSmall bytes start start
none_small bytes start i le lt = absurd (omega arith)

-- so many bytes more, whose bits are set
small_on : (bytes : List ℕ) (start here last n : ℕ) → n ≤ 64 → AreLast bytes here last
    → ((i : ℕ) → i < n → bit_at last i ≡ 1) → AreSmall bytes start here → AreSmall bytes start (here + n)
small_on bytes start here last n le is set so_far i from lt = go (cases_lt i here) where
  go : (i < here) ⊎ (here ≤ i) → get_or bytes i 0 < 128
  go (inl before) = so_far i from before
  go (inr ge) =
      let place : here + (i - here) ≡ i = omega arith in
      rw place at ((is (i - here)).0 (set (i - here) (omega (arith, lt, ge)))).1

pub window_on : (bytes : List ℕ) (start here last : ℕ) → AreLast bytes here last → last ≡ 2 ^ 64 - 1
    → AreSmall bytes start here → AreSmall bytes start (here + 64)
window_on bytes start here last is all so_far = small_on bytes start here last 64 (omega arith) is
    (λ i lt. ap (λ (n : ℕ). bit_at n i) all ∙ bit_at_ones 64 i lt) so_far

pub rest_on : (bytes : List ℕ) (start here end last : ℕ) → AreLast bytes here last → last < 2 ^ 64 → here ≤ end
    → end - here < 64 → (2 ^ 64 - 1 - last) % (1 * 2 ^ (end - here) % 2 ^ 64) ≡ 0
    → AreSmall bytes start here → AreSmall bytes start end
rest_on bytes start here end last is small le room none so_far =
    let n = end - here in
    let power : 2 ^ n < 2 ^ 64 = pow-lt room in
    let same : 1 * 2 ^ n % 2 ^ 64 ≡ 2 ^ n = omega (arith, power) in
    let place : here + n ≡ end = omega (arith, le) in
    let low : (2 ^ 64 - 1 - last) % 2 ^ n ≡ 0 = rw same at none in
    rw place at (small_on bytes start here last n (omega (arith, room)) is (λ i lt.
    let zero : bit_at (2 ^ 64 - 1 - last) i ≡ 0 = sym (low_bits (2 ^ 64 - 1 - last) n i lt)
    ∙ ap (λ (m : ℕ). bit_at m i) low ∙ bit_at-zero i in
    let not : bit_at (2 ^ 64 - 1 - last) i ≡ 1 - bit_at last i = bit_at_not w64 last i small
    (omega (arith, lt, room)) in
    omega (arith, zero, not, bit_at-lt last i)) so_far)

pub small_is_ascii : (bytes : List ℕ) (start end : ℕ) → AreSmall bytes start end
    → IsAscii (take (end - start) (drop start bytes))
small_is_ascii bytes start end are i = go (cases_lt i (end - start)) where
  go : (i < end - start) ⊎ (end - start ≤ i) → get_or (take (end - start) (drop start bytes)) i 0 < 128
  go (inl lt) = rw (get_or-take (end - start) (drop start bytes) i 0 lt, get_or-drop start bytes i 0)
      (are (start + i) (omega arith) (omega (arith, lt)))
  go (inr ge) = rw (get_or_past (take (end - start) (drop start bytes)) i 0 (omega (
    arith,
    ge,
    length-take (end - start) (drop start bytes),
  ))) (omega arith)
