-- What a desk and its seats say of the rule's key.
use Rattle.std.proofs.Common.{◌≡◌, ⊎_elim, ℕ, zero, suc, ◌+◌, ◌^◌, ◌<◌, ◌≤◌, ◌==◌, Bool, true, false, cond, List, []}
use Rattle.std.proofs.Common.{◌∷◌, ◌++◌, length, get_or, sym, refl, ap, ◌∙◌, subst, arith, eq-eqb, nat_lt, nat_le}
use Rattle.std.proofs.Common.{slice_index, slice_get, Some}
use Rattle.std.specs.List.{All, sum_by}
use Rattle.std.proofs.lemmas.Bool.{cases_lt, ltb-false, lt-ltb, le-ltb, lt-leb}
use Rattle.std.proofs.lemmas.List.{length-append, get_or_append_left}
use Rattle.std.proofs.lemmas.List.Sums.{sum_by-cons, sum_by-append, sum_by_push}
use Rattle.std.proofs.lemmas.Option.{slice_get_within, get_or_from_slice_get}
use Rattle.std.proofs.Math.Nat.{mul-le-mul}
use Rattle.std.proofs.Math.Seq.{get_or-append_seam}
use mathlib.Core.Option.{none, some, some-injective, some-ne-none}
use lib.ListN.{get_elem?}
use Rattle.atomic_table.specs.Table.{Me, step, Allows}
use Rattle.ice_desk.specs.declared.hand.Hand.{Hand}
use Rattle.ice_desk.specs.declared.desk.Desk.{Desk}
use Rattle.ice_desk.specs.declared.desk.Seat.{Seat}
use Rattle.ice_desk.specs.Tickets.{late, times, once_below, one_seat, Marks, Looks}
use Rattle.ice_desk.specs.Seats.{limit_of, hand_of, drawn_in, IsSeatOf}
use Rattle.ice_desk.proofs.Keeps.{Rules, marks, looks}

pub limit_is : (desk : Desk) → desk.table.shared.key.limit ≡ limit_of desk
limit_is desk = ap (λ k. k.limit) desk.size

pub seats_is : (desk : Desk) → desk.table.shared.key.seats ≡ desk.seats
seats_is desk = ap (λ k. k.seats) desk.size

pub manifests_is : (desk : Desk) → desk.table.shared.key.manifests ≡ desk.manifests
manifests_is desk = ap (λ k. k.manifests) desk.size

pub limit_small : (desk : Desk) → limit_of desk ≤ 196608
limit_small desk = mul-le-mul desk.small.0 desk.small.1

pub small_key : (desk : Desk) → desk.table.shared.key.limit + desk.table.shared.key.seats + 1 < 2 ^ 32
small_key desk = omega (arith, limit_is desk, seats_is desk, limit_small desk, desk.small.3)

pub wide : (desk : Desk) → 0 < desk.table.shared.table_id.words
wide desk = omega (arith, desk.words)

pub early : (desk : Desk) (seat : Seat) → IsSeatOf desk seat → seat.done ≡ false
    → late desk.table.shared.key.limit (hand_of seat).drawn ≡ 0
early desk seat is not_done =
    let le = ltb-false 0 (late (limit_of desk) (hand_of seat).drawn) (sym is.done ∙ not_done) in
    ap (λ (l : ℕ). late l (hand_of seat).drawn) (limit_is desk) ∙ omega (arith, le)

pub wide_mark : (desk : Desk) (i : ℕ) → i < desk.manifests → i + 1 < desk.table.shared.table_id.words
wide_mark desk i lt = omega (arith, desk.words, lt)

pub marks_at : (desk : Desk) (slots id i : ℕ) (me : Me (Unit {0}) Hand) → me.0.seats ≡ 1 → i < desk.manifests
    → Allows (Rules desk.table.shared.key) slots id me (i + 1) (λ _. 1) (λ _. Marks (step slots (i + 1) 1 0 none) me 1)
marks_at desk slots id i me one lt =
    let same : suc i ≡ i + 1 = omega arith in
    subst (λ (k : ℕ). Allows (Rules desk.table.shared.key) slots id me k (λ _. 1) (λ _. Marks
    (step slots k 1 0 none) me 1)) same
    (marks desk.table.shared.key slots id i me one (omega (arith, manifests_is desk, lt)))

pub looks_at : (desk : Desk) (slots id i : ℕ) (me : Me (Unit {0}) Hand) → me.0.seats ≡ 1 → i < desk.manifests
    → Allows (Rules desk.table.shared.key) slots id me (i + 1) (λ n. n) (Looks (step slots (i + 1) 0 0 none) me)
looks_at desk slots id i me one lt =
    let same : suc i ≡ i + 1 = omega arith in
    subst (λ (k : ℕ). Allows (Rules desk.table.shared.key) slots id me k (λ n. n) (Looks
    (step slots k 0 0 none) me)) same
    (looks desk.table.shared.key slots id i me one (omega (arith, manifests_is desk, lt)))

-- a seat that drew nothing more is still a seat
pub still_seat : (desk : Desk) (old new : Seat) → IsSeatOf desk old → new.place.table_id ≡ old.place.table_id
    → new.place.me.1 ≡ old.place.me.1
    → (hand_of new).seats ≡ (hand_of old).seats → (hand_of new).drawn ≡ (hand_of old).drawn → new.done ≡ old.done
    → IsSeatOf desk new
still_seat desk old new is table free seats drawn done = record {
  table = table ∙ is.table;
  one = seats ∙ is.one;
  free = free ∙ is.free;
  done = done ∙ is.done ∙ ap (λ ts. nat_lt 0 (late (limit_of desk) ts)) (sym drawn);
}

-- a seat that was just cut off
pub fresh_seat : (desk : Desk) (seat : Seat) → seat.place.table_id ≡ desk.table.shared.table_id
    → hand_of seat ≡ one_seat → seat.place.me.1 ≡ [] → seat.done ≡ false → IsSeatOf desk seat
fresh_seat desk seat table hand free done = record {
  table = table;
  one = ap (λ (v : Hand). v.seats) hand;
  free = free;
  done = done ∙ ap (λ (v : Hand). nat_lt 0 (late (limit_of desk) v.drawn)) (sym hand);
}

-- the last of a list, and the others
pub popped : {X : Type 0} (P : X → Type 0) (xs ys : List X) (x : X) → xs ≡ ys ++ x ∷ [] → All P xs → All P ys × P x
popped P xs ys x is all =
    let all' : All P (ys ++ x ∷ []) = subst (All P) is all in (
      (λ k d lt. subst P (get_or_append_left ys (x ∷ []) d k lt) (all' k d (omega (
        arith,
        length-append ys (x ∷ []),
        lt,
      )))),
      subst P (get_or-append_seam ys x [] x) (all' (length ys) x (omega (arith, length-append ys (x ∷ [])))),
    )

-- what one more seat did goes to the one that takes it in
pub taken_in : (f : Seat → List ℕ) (t n : ℕ) (old other new : List ℕ) (xs ys : List Seat) (x : Seat)
    → xs ≡ ys ++ x ∷ [] → new ≡ old ++ other → f x ≡ other
    → times t old + sum_by (λ (s : Seat). times t (f s)) xs ≡ n
    → times t new + sum_by (λ (s : Seat). times t (f s)) ys ≡ n
taken_in f t n old other new xs ys x is grown same sum =
    let cut : sum_by (λ (s : Seat). times t (f s)) xs ≡ sum_by (λ (s : Seat). times t (f s)) ys + times t (f x) =
    ap (sum_by (λ (s : Seat). times t (f s))) is ∙ sum_by_push (λ (s : Seat). times t (f s)) ys x in
    let more : times t new ≡ times t old + times t other =
    ap (times t) grown ∙ sum_by-append (λ y. cond (y == t) 1 0) old other in
    omega (arith, cut, more, ap (times t) same, sum)

abbrev one_where : Bool → ℕ
one_where b = cond b 1 0

one_if : {b : Bool} → b ≡ true → one_where b ≡ 1
one_if is = ap one_where is

none_if : {b : Bool} → b ≡ false → one_where b ≡ 0
none_if is = ap one_where is

late_some : (limit : ℕ) (ts : List ℕ) → 0 < late limit ts → (t : ℕ) × (limit ≤ t) × (0 < times t ts)
late_some limit [] some_late = absurd (omega (arith, some_late))
late_some limit (t ∷ ts) some_late = ⊎_elim
    (λ early.
    let not_late : nat_le limit t ≡ false = lt-leb limit t early in
    let rest = late_some limit ts (omega (
      arith,
      some_late,
      sum_by-cons (λ u. cond (nat_le limit u) 1 0) t ts,
      none_if not_late,
    )) in
    (rest.0, rest.1, omega (arith, rest.2, sum_by-cons (λ y. cond (y == rest.0) 1 0) t ts)))
    (λ is_late. (t, is_late, omega (arith, sum_by-cons (λ y. cond (y == t) 1 0) t ts, one_if (eq-eqb t t refl))))
    (cases_lt t limit)

seat_at : (f : Seat → ℕ) (xs : List Seat) (k : ℕ) (s : Seat) → k < length xs → get_or xs k s ≡ s → f s ≤ sum_by f xs
seat_at f [] k s lt is = absurd (omega (arith, lt))
seat_at f (x ∷ xs) zero s lt is = omega (arith, sum_by-cons f x xs, ap f is)
seat_at f (x ∷ xs) (suc k) s lt is = omega (arith, sum_by-cons f x xs, seat_at f xs k s (omega (arith, lt)) is)

-- where a seat drew a number that is no ticket, each ticket was drawn once
pub all_drawn : (limit word k : ℕ) (seats : List Seat) (s : Seat) → ((t : ℕ) → drawn_in seats t ≡ once_below t word)
    → slice_get seats k ≡ Some s → 0 < late limit (hand_of s).drawn
    → (t : ℕ) → t < limit → drawn_in seats t ≡ 1
all_drawn limit word k seats s once at some_late t lt =
    let found = late_some limit (hand_of s).drawn some_late in
    let u : ℕ = found.0 in
    let drawn : 0 < once_below u word = let n =
    seat_at (λ (r : Seat). times u (hand_of r).drawn) seats k s (slice_get_within seats k s at)
    (get_or_from_slice_get seats k s s at) in omega (arith, found.2, n, once u) in
    let below : u < word = ⊎_elim (λ yes. yes) (λ no. absurd (omega (
      arith,
      drawn,
      none_if (le-ltb u word no),
    ))) (cases_lt u word) in
    once t ∙ one_if (lt-ltb t word (omega (arith, lt, found.1, below)))

pub first_word : (ws : List ℕ) (n : ℕ) → get_elem? ws 0 ≡ some n → slice_index ws 0 ≡ n
first_word [] n at = absurd (some-ne-none n (sym at))
first_word (w ∷ ws) n at = some-injective w n at

pub one_shorter : (xs ys : List Seat) (x : Seat) → xs ≡ ys ++ x ∷ [] → length xs ≡ length ys + 1
one_shorter xs ys x is = ap length is ∙ length-append ys (x ∷ [])
