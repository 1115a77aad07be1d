-- The rule of a desk: which numbers its seats drew, and which manifests they marked and saw marked.
use Rattle.std.specs.Prelude.{◌≡◌, ◌≢◌, ℕ, suc, ◌+◌, ◌-◌, ◌^◌, ◌<◌, ◌≤◌, ◌==◌, List, [], ◌∷◌, ◌++◌, length, take, min}
use Rattle.std.specs.Prelude.{cond, nat_lt, nat_le, slice_index}
use Rattle.std.specs.List.{sum_by}
use mathlib.Core.Option.{some}
use lib.ListN.{get_elem?}
use Rattle.atomic_table.specs.Table.{Me, Step}
use Rattle.ice_desk.specs.declared.hand.Hand.{Hand}
use Rattle.ice_desk.specs.declared.hand.Size.{Size}

abbrev pub hand : ℕ → List ℕ → List ℕ → List ℕ → Hand
hand seats drawn marked seen = record { seats = seats; drawn = drawn; marked = marked; seen = seen }

-- how often x stands in the list
abbrev pub times : ℕ → List ℕ → ℕ
times x xs = sum_by (λ y. cond (y == x) 1 0) xs

-- how many of the numbers are no tickets
abbrev pub late : ℕ → List ℕ → ℕ
late limit ts = sum_by (λ t. cond (nat_le limit t) 1 0) ts

-- 1 below n, and else 0
abbrev pub once_below : ℕ → ℕ → ℕ
once_below x n = cond (nat_lt x n) 1 0

abbrev pub but_last : List ℕ → List ℕ
but_last ts = take (length ts - 1) ts

-- Of the numbers that a hand drew, at most one for each of its seats is no ticket, and for one seat that is the last.
pub record IsHand (limit : ℕ) (v : Hand) : Type 0 where
  pub count : late limit v.drawn ≤ v.seats
  pub last : v.seats ≡ 1 → late limit (but_last v.drawn) ≡ 0
  pub idle : v.seats ≡ 0 → (v.drawn ≡ []) × (v.marked ≡ []) × (v.seen ≡ [])

pub record IsKept (size : Size) (words : List ℕ) (views : List Hand) : Type 0 where
  -- a word for the next number, and one for each mark
  pub width : length words ≡ suc size.manifests
  -- the hands stand for all seats together
  pub seats : sum_by (λ (v : Hand). v.seats) views ≡ size.seats
  -- the numbers drawn are those below the word, each once
  pub once : (x : ℕ) → sum_by (λ (v : Hand). times x v.drawn) views ≡ once_below x (slice_index words 0)
  -- as many numbers were drawn as the word says
  pub count : sum_by (λ (v : Hand). length v.drawn) views ≡ slice_index words 0
  -- past the limit, the word counts the numbers that are no tickets
  pub most : slice_index words 0 ≤ size.limit + sum_by (λ (v : Hand). late size.limit v.drawn) views
  pub each : (id : ℕ) (v : Hand) → get_elem? views id ≡ some v → IsHand size.limit v
  -- a mark is 1 where some hand marked its manifest, and else 0
  pub marks : (i : ℕ) → i < size.manifests
      → slice_index words (suc i) ≡ min 1 (sum_by (λ (v : Hand). times i v.marked) views)
  -- what a hand saw marked is a manifest that some hand marked
  pub seen : (i : ℕ) → 0 < sum_by (λ (v : Hand). times i v.seen) views
      → (i < size.manifests) × (0 < sum_by (λ (v : Hand). times i v.marked) views)

abbrev pub opening_hand : Size → Hand
opening_hand size = hand size.seats [] [] []

abbrev pub one_seat : Hand
one_seat = hand 1 [] [] []

abbrev pub no_seat : Hand
no_seat = hand 0 [] [] []

abbrev pub without_one : Hand → Hand
without_one v = hand (v.seats - 1) v.drawn v.marked v.seen

abbrev pub gathered : Hand → Hand → Hand
gathered v w = hand (v.seats + w.seats) (v.drawn ++ w.drawn) (v.marked ++ w.marked) (v.seen ++ w.seen)

abbrev pub drawing : Hand → ℕ → Hand
drawing v t = hand v.seats (v.drawn ++ t ∷ []) v.marked v.seen

abbrev pub marking : Hand → ℕ → Hand
marking v i = hand v.seats v.drawn (v.marked ++ i ∷ []) v.seen

abbrev pub seeing : Hand → ℕ → Hand
seeing v i = hand v.seats v.drawn v.marked (v.seen ++ i ∷ [])

abbrev Sat : Type 0
Sat = Me (Unit {0}) Hand

-- The word's old value is drawn, which is no less than how many this seat drew before. The word stays below 2 ^ 32.
abbrev pub Draws : Step (Unit {0}) → Sat → ℕ → Sat → Type 0
Draws st m found n = (n.0 ≡ drawing m.0 found) × (n.1 ≡ m.1) × (length m.0.drawn ≤ found) × (found + 1 < 2 ^ 32)

-- The word suc i is the mark of i: it is set.
abbrev pub Marks : Step (Unit {0}) → Sat → ℕ → Sat → Type 0
Marks st m found n = ((i : ℕ) → st.word ≡ suc i → n.0 ≡ marking m.0 i) × (n.1 ≡ m.1)

-- The mark of i is 1, and it is seen; or there is none, and then this hand neither made it nor saw it.
abbrev pub Looks : Step (Unit {0}) → Sat → ℕ → Sat → Type 0
Looks st m found n = ((i : ℕ) → st.word ≡ suc i → (found ≡ 1 → n.0 ≡ seeing m.0 i)
    × (found ≢ 1 → (n.0 ≡ m.0) × (times i m.0.marked ≡ 0) × (times i m.0.seen ≡ 0))) × (n.1 ≡ m.1)
