-- Each step keeps the desk's rule.
use Rattle.std.proofs.Common.{◌≡◌, ◌≢◌, ⊎_elim, ℕ, zero, suc, ◌+◌, ◌-◌, ◌%◌, ◌^◌, ◌<◌, ◌≤◌, ◌==◌, Bool, true, false}
use Rattle.std.proofs.Common.{cond, List, [], ◌∷◌, ◌++◌, length, set, replicate, min, sym, refl, ap, ◌∙◌, subst}
use Rattle.std.proofs.Common.{arith, eq-eqb, ne_eqb, nat_le, slice_index}
use Rattle.std.specs.List.{sum_by}
use Rattle.std.proofs.lemmas.Bool.{cases_lt, cases_eq, lt-ltb, le-ltb, le-leb}
use Rattle.std.proofs.lemmas.List.{length-set, get_or-set_same, get_or-set_other, set-get_or, get_or-replicate}
use Rattle.std.proofs.lemmas.List.{get_or_past, length-replicate, length-append}
use Rattle.std.proofs.lemmas.List.Sums.{sum_by-cons, sum_by-append, sum_by_push}
use Rattle.std.proofs.Math.Nat.{mod-eq_of_lt}
use Rattle.std.proofs.Math.Seq.{take-append_seam}
use mathlib.Core.Option.{none, some, some-injective, some-ne-none}
use lib.ListN.{get_elem?}
use Rattle.atomic_table.specs.Table.{State, Me, step, keeps, Allows, Splits, Joins, Final, Seen}
use Rattle.atomic_table.proofs.Lists.{at_set, at_snoc, set_else, set_again}
use Rattle.ice_desk.specs.declared.hand.Hand.{Hand}
use Rattle.ice_desk.specs.declared.hand.Size.{Size}
use Rattle.ice_desk.specs.Tickets.{hand, times, late, once_below, but_last, IsHand, IsKept, opening_hand, one_seat}
use Rattle.ice_desk.specs.Tickets.{no_seat, without_one, gathered, drawing, marking, seeing, Draws, Marks, Looks}

abbrev At : List Hand → ℕ → Hand → Type 0
At views id v = get_elem? views id ≡ some v

sum_set : (f : Hand → ℕ) (vs : List Hand) (id : ℕ) (v w : Hand) → At vs id v
    → sum_by f (set vs id w) + f v ≡ sum_by f vs + f w
sum_set f [] id v w at = absurd (some-ne-none v (sym at))
sum_set f (x ∷ xs) zero v w at = let is : f x ≡ f v = ap f (some-injective x v at) in
    omega (arith, sum_by-cons f w xs, sum_by-cons f x xs, is)
sum_set f (x ∷ xs) (suc id) v w at = omega (
  arith,
  sum_by-cons f x (set xs id w),
  sum_by-cons f x xs,
  sum_set f xs id v w at,
)

sum_at : (f : Hand → ℕ) (vs : List Hand) (id : ℕ) (v : Hand) → At vs id v → f v ≤ sum_by f vs
sum_at f [] id v at = absurd (some-ne-none v (sym at))
sum_at f (x ∷ xs) zero v at = let is : f x ≡ f v = ap f (some-injective x v at) in omega (arith, sum_by-cons f x xs, is)
sum_at f (x ∷ xs) (suc id) v at = omega (arith, sum_by-cons f x xs, sum_at f xs id v at)

sum_le : (f g : Hand → ℕ) (vs : List Hand) → ((id : ℕ) (v : Hand) → At vs id v → f v ≤ g v) → sum_by f vs ≤ sum_by g vs
sum_le f g [] le = omega arith
sum_le f g (x ∷ xs) le = omega (
  arith,
  sum_by-cons f x xs,
  sum_by-cons g x xs,
  le 0 x refl,
  sum_le f g xs (λ id v at. le (suc id) v at),
)

each_set : (P : Hand → Type 0) (vs : List Hand) (id : ℕ) (w : Hand) → ((j : ℕ) (u : Hand) → At vs j u → P u) → P w
    → (j : ℕ) (u : Hand) → At (set vs id w) j u → P u
each_set P vs id w each new j u at = ⊎_elim (λ t. subst P t.1 new) (λ t. each j u t.1) (at_set vs id j w u at)

-- a change that f doesn't see
same : (f : Hand → ℕ) (vs : List Hand) (id : ℕ) (v w : Hand) → At vs id v → f w ≡ f v
    → sum_by f (set vs id w) ≡ sum_by f vs
same f vs id v w at is = let s = sum_set f vs id v w at in omega (arith, is, s)

pub times_more : (x t : ℕ) (ts : List ℕ) → times x (ts ++ t ∷ []) ≡ times x ts + cond (t == x) 1 0
times_more x t ts = sum_by_push (λ y. cond (y == x) 1 0) ts t

late_more : (limit t : ℕ) (ts : List ℕ) → late limit (ts ++ t ∷ []) ≡ late limit ts + cond (nat_le limit t) 1 0
late_more limit t ts = sum_by_push (λ y. cond (nat_le limit y) 1 0) ts t

below_step : (x n : ℕ) → once_below x (n + 1) ≡ once_below x n + cond (n == x) 1 0
below_step x n = ⊎_elim
    (λ lt. rw (lt-ltb x (n + 1) (omega (arith, lt)), lt-ltb x n lt, ne_eqb n x (λ e. omega (arith, e, lt))) refl)
    (λ le. ⊎_elim
    (λ e. rw (lt-ltb x (n + 1) (omega (arith, e)), le-ltb x n le, eq-eqb n x e) refl)
    (λ ne. rw (le-ltb x (n + 1) (grind (arith, le, ne)), le-ltb x n le, ne_eqb n x ne) refl)
    (cases_eq n x))
    (cases_lt x n)

late_step : (limit n s : ℕ) → n ≤ limit + s → n + 1 ≤ limit + (s + cond (nat_le limit n) 1 0)
late_step limit n s le = ⊎_elim
    (λ lt. omega (arith, lt))
    (λ ge. let is : nat_le limit n ≡ true = le-leb limit n ge in rw is (omega (arith, le)))
    (cases_lt n limit)

but_last_more : (ts : List ℕ) (t : ℕ) → but_last (ts ++ t ∷ []) ≡ ts
but_last_more ts t =
    let is : length (ts ++ t ∷ []) - 1 ≡ length ts = omega (arith, length-append ts (t ∷ [])) in
    rw is (take-append_seam ts (t ∷ []))

one_or_none : (b : Bool) → cond b 1 0 ≤ 1
one_or_none true = omega arith
one_or_none false = omega arith

none_early : (limit : ℕ) (ts : List ℕ) (v : Hand) → late limit ts ≡ 0 → v.seats ≡ 1 → (t : ℕ)
    → IsHand limit (drawing (hand v.seats ts v.marked v.seen) t)
none_early limit ts v early one t = record {
  count = omega (arith, late_more limit t ts, early, one, one_or_none (nat_le limit t));
  last = λ _. ap (late limit) (but_last_more ts t) ∙ early;
  idle = λ none. absurd (omega (arith, one, none));
}

abbrev pub Rules : Size → State (Unit {0}) Hand → Type 0
Rules size s = IsKept size s.words s.views

-- the word of a rule that holds is small
pub word_small : (size : Size) (words : List ℕ) (views : List Hand) → IsKept size words views
    → slice_index words 0 ≤ size.limit + size.seats
word_small size words views kept =
    let few = sum_le (λ (v : Hand). late size.limit v.drawn) (λ (v : Hand). v.seats) views (λ id v at.
    (kept.each id v at).count) in
    omega (arith, kept.most, kept.seats, few)

drawn_kept : (size : Size) (words : List ℕ) (views : List Hand) (id : ℕ) (v : Hand) → IsKept size words views
    → At views id v → v.seats ≡ 1 → late size.limit v.drawn ≡ 0
    → IsKept size (set words 0 (slice_index words 0 + 1)) (set views id (drawing v (slice_index words 0)))
drawn_kept size words views id v kept at one early =
    let n : ℕ = slice_index words 0 in
    let w : Hand = drawing v n in
    let words' : List ℕ = set words 0 (n + 1) in
    let wide : 0 < length words = omega (arith, kept.width) in
    let first : slice_index words' 0 ≡ n + 1 = get_or-set_same words 0 (n + 1) 0 wide in
    let sum : (f : Hand → ℕ) → f w ≡ f v → sum_by f (set views id w) ≡ sum_by f views =
    λ f is. same f views id v w at is in
    record {
      width = length-set words 0 (n + 1) ∙ kept.width;
      seats = sum (λ u. u.seats) refl ∙ kept.seats;
      once = λ x.
          let s = sum_set (λ (u : Hand). times x u.drawn) views id v w at in
          let more = times_more x n v.drawn in
          let new : once_below x (slice_index words' 0) ≡ once_below x n + cond (n == x) 1 0 =
          ap (once_below x) first ∙ below_step x n in
          omega (arith, s, more, new, kept.once x);
      count =
          let s = sum_set (λ (u : Hand). length u.drawn) views id v w at in
          omega (arith, s, length-append v.drawn (n ∷ []), first, kept.count);
      most =
          let s = sum_set (λ (u : Hand). late size.limit u.drawn) views id v w at in
          let more = late_more size.limit n v.drawn in
          let step = late_step size.limit n (sum_by (λ (u : Hand). late size.limit u.drawn) views) kept.most in
          omega (arith, s, more, step, first);
      each = each_set (IsHand size.limit) views id w kept.each (none_early size.limit v.drawn v early one n);
      marks = λ i lt. get_or-set_other words 0 (suc i) (n + 1) 0 (λ e. omega (
        arith,
        e,
      )) ∙ kept.marks i lt ∙ ap (min 1) (sym (sum (λ u. times i u.marked) refl));
      seen = λ i some_seen.
          let was = kept.seen i (omega (arith, some_seen, sum (λ u. times i u.seen) refl)) in
          (was.0, omega (arith, was.1, sum (λ u. times i u.marked) refl));
    }

pub draws : (size : Size) (slots id : ℕ) (me : Me (Unit {0}) Hand) → size.limit + size.seats + 1 < 2 ^ 32
    → me.0.seats ≡ 1 → late size.limit me.0.drawn ≡ 0
    → Allows (Rules size) slots id me 0 (λ n. (n + 1) % 2 ^ 64) (Draws (step slots 0 1 0 none) me)
draws size slots id me small one early s kept _ at _ =
    let n : ℕ = slice_index s.words 0 in
    let low = word_small size s.words s.views kept in
    let next : (n + 1) % 2 ^ 64 ≡ n + 1 = mod-eq_of_lt (omega (arith, small, low)) in
    let w : Hand = drawing me.0 n in (
      w,
      keeps,
      tt,
      subst (λ (k : ℕ). IsKept size (set s.words 0 k) (set s.views id w)) (sym next)
          (drawn_kept size s.words s.views id me.0 kept at one early),
      (
        refl,
        refl,
        omega (arith, sum_at (λ (u : Hand). length u.drawn) s.views id me.0 at, kept.count),
        omega (
          arith,
          small,
          low,
        ),
      ),
    )

marked_kept : (size : Size) (words : List ℕ) (views : List Hand) (id i : ℕ) (v : Hand) → IsKept size words views
    → At views id v → v.seats ≡ 1 → i < size.manifests
    → IsKept size (set words (suc i) 1) (set views id (marking v i))
marked_kept size words views id i v kept at one inside =
    let w : Hand = marking v i in
    let words' : List ℕ = set words (suc i) 1 in
    let room : suc i < length words = omega (arith, kept.width, inside) in
    let first : slice_index words' 0 ≡ slice_index words 0 =
    get_or-set_other words (suc i) 0 1 0 (λ e. omega (arith, e)) in
    let sum : (f : Hand → ℕ) → f w ≡ f v → sum_by f (set views id w) ≡ sum_by f views =
    λ f is. same f views id v w at is in
    let more : (j : ℕ) → sum_by (λ (u : Hand). times j u.marked) (set views id w) ≡ sum_by (λ
    (u : Hand). times j u.marked) views + cond (i == j) 1 0 = λ j.
    let s = sum_set (λ (u : Hand). times j u.marked) views id v w at in omega (arith, s, times_more j i v.marked) in
    let was = kept.each id v at in
    record {
      width = length-set words (suc i) 1 ∙ kept.width;
      seats = sum (λ u. u.seats) refl ∙ kept.seats;
      once = λ x. sum (λ u. times x u.drawn) refl ∙ kept.once x ∙ ap (once_below x) (sym first);
      count = omega (arith, first, kept.count, sum (λ (u : Hand). length u.drawn) refl);
      most = omega (arith, first, kept.most, sum (λ (u : Hand). late size.limit u.drawn) refl);
      each = each_set (IsHand size.limit) views id w kept.each (record {
        count = was.count;
        last = was.last;
        idle =
            λ none. absurd (omega (arith, one, none));
      });
      marks = λ j lt. ⊎_elim
          (λ e.
          let here : slice_index words' (suc i) ≡ 1 = get_or-set_same words (suc i) 1 0 room in
          let grown : sum_by (λ (u : Hand). times j u.marked) (set views id w) ≡ sum_by (λ
          (u : Hand). times j u.marked) views + 1 =
          more j ∙ ap (λ b. sum_by (λ (u : Hand). times j u.marked) views + cond b 1 0) (eq-eqb i j e) in
          subst (λ (k : ℕ). slice_index words' (suc k) ≡ 1) e here ∙ omega (arith, grown))
          (λ ne.
          let there : slice_index words' (suc j) ≡ slice_index words (suc j) =
          get_or-set_other words (suc i) (suc j) 1 0 (λ e. ne (omega (arith, e))) in
          let still : sum_by (λ (u : Hand). times j u.marked) (set views id w) ≡ sum_by (λ
          (u : Hand). times j u.marked) views + 0 =
          more j ∙ ap (λ b. sum_by (λ (u : Hand). times j u.marked) views + cond b 1 0) (ne_eqb i j ne) in
          there ∙ kept.marks j lt ∙ ap (min 1) (omega (arith, still)))
          (cases_eq i j);
      seen = λ j some_seen.
          let was_seen = kept.seen j (omega (arith, some_seen, sum (λ u. times j u.seen) refl)) in
          (was_seen.0, omega (arith, was_seen.1, more j));
    }

pub marks : (size : Size) (slots id i : ℕ) (me : Me (Unit {0}) Hand) → me.0.seats ≡ 1 → i < size.manifests
    → Allows (Rules size) slots id me (suc i) (λ _. 1) (λ _. Marks (step slots (suc i) 1 0 none) me 1)
marks size slots id i me one inside s kept _ at _ = (
  marking me.0 i,
  keeps,
  tt,
  marked_kept size s.words s.views id i me.0 kept at one inside,
  ((λ j e. let same_one : i ≡ j = omega (arith, e) in ap (marking me.0) same_one), refl),
)

seen_kept : (size : Size) (words : List ℕ) (views : List Hand) (id i : ℕ) (v : Hand) → IsKept size words views
    → At views id v → v.seats ≡ 1 → i < size.manifests → slice_index words (suc i) ≡ 1
    → IsKept size words (set views id (seeing v i))
seen_kept size words views id i v kept at one inside is_one =
    let w : Hand = seeing v i in
    let sum : (f : Hand → ℕ) → f w ≡ f v → sum_by f (set views id w) ≡ sum_by f views =
    λ f is. same f views id v w at is in
    let was = kept.each id v at in
    record {
      width = kept.width;
      seats = sum (λ u. u.seats) refl ∙ kept.seats;
      once = λ x. sum (λ u. times x u.drawn) refl ∙ kept.once x;
      count = sum (λ u. length u.drawn) refl ∙ kept.count;
      most = omega (arith, kept.most, sum (λ (u : Hand). late size.limit u.drawn) refl);
      each = each_set (IsHand size.limit) views id w kept.each (record {
        count = was.count;
        last = was.last;
        idle =
            λ none. absurd (omega (arith, one, none));
      });
      marks = λ j lt. kept.marks j lt ∙ ap (min 1) (sym (sum (λ u. times j u.marked) refl));
      seen = λ j some_seen.
          let s = sum_set (λ (u : Hand). times j u.seen) views id v w at in
          let more = times_more j i v.seen in
          let marked = sum (λ u. times j u.marked) refl in
          ⊎_elim
          (λ e.
          let is : slice_index words (suc j) ≡ 1 = subst (λ (k : ℕ). slice_index words (suc k) ≡ 1) e is_one in
          let lt : j < size.manifests = omega (arith, e, inside) in
          (lt, omega (arith, kept.marks j lt, is, marked)))
          (λ ne.
          let new : ℕ = cond (i == j) 1 0 in
          let none_new : new ≡ 0 = ap (λ b. cond b 1 0) (ne_eqb i j ne) in
          let old = kept.seen j (omega (arith, some_seen, s, more, none_new)) in
          (old.0, omega (arith, old.1, marked)))
          (cases_eq i j);
    }

unseen : (size : Size) (words : List ℕ) (views : List Hand) (id i : ℕ) (v : Hand) → IsKept size words views
    → At views id v → i < size.manifests → slice_index words (suc i) ≢ 1
    → (times i v.marked ≡ 0) × (times i v.seen ≡ 0)
unseen size words views id i v kept at inside not_one =
    let mark = kept.marks i inside in
    let M : ℕ = sum_by (λ (u : Hand). times i u.marked) views in
    let S : ℕ = sum_by (λ (u : Hand). times i u.seen) views in
    let none_marked : M ≡ 0 = ⊎_elim (λ some_marked. absurd (not_one (mark ∙ omega (
      arith,
      some_marked,
    )))) (λ le. omega (arith, le)) (cases_lt 0 M) in
    let none_seen : S ≡ 0 = ⊎_elim (λ some_seen. let m = (kept.seen i some_seen).1 in
    absurd (omega (arith, m, none_marked))) (λ le. omega (arith, le)) (cases_lt 0 S) in (
      omega (arith, sum_at (λ (u : Hand). times i u.marked) views id v at, none_marked),
      omega (
        arith,
        sum_at (λ (u : Hand). times i u.seen) views id v at,
        none_seen,
      ),
    )

pub looks : (size : Size) (slots id i : ℕ) (me : Me (Unit {0}) Hand) → me.0.seats ≡ 1 → i < size.manifests
    → Allows (Rules size) slots id me (suc i) (λ n. n) (Looks (step slots (suc i) 0 0 none) me)
looks size slots id i me one inside s kept _ at _ =
    let n : ℕ = slice_index s.words (suc i) in
    let unchanged : set s.words (suc i) n ≡ s.words = set-get_or s.words (suc i) 0 in
    ⊎_elim
    (λ is. (
      seeing me.0 i,
      keeps,
      tt,
      subst (λ (ws : List ℕ). IsKept size ws (set s.views id (seeing me.0 i))) (sym unchanged)
          (seen_kept size s.words s.views id i me.0 kept at one inside is),
      (
        (λ j e. let same_one : i ≡ j = omega (arith, e) in
            ((λ _. ap (seeing me.0) same_one), λ ne. absurd (ne is))),
        refl,
      ),
    ))
    (λ ne.
    let none_here = unseen size s.words s.views id i me.0 kept at inside ne in
    let views_same : set s.views id me.0 ≡ s.views = set_again s.views id me.0 at in (
      me.0,
      keeps,
      tt,
      subst (λ (ws : List ℕ). IsKept size ws (set s.views id me.0)) (sym unchanged) (subst (λ
          (vs : List Hand). IsKept size s.words vs) (sym views_same) kept),
      (
        (λ j e. let same_one : i ≡ j = omega (arith, e) in (
          (λ is. absurd (ne is)),
          λ _. let there =
              subst (λ (k : ℕ). (times k me.0.marked ≡ 0) × (times k me.0.seen ≡ 0)) same_one none_here in
              (refl, there.0, there.1),
        )),
        refl,
      ),
    ))
    (cases_eq n 1)

pub opens : (size : Size) (words : List ℕ) → words ≡ replicate (size.manifests + 1) 0 → 0 < size.seats
    → IsKept size words (opening_hand size ∷ [])
opens size words is some_seats =
    let all_zero : (i : ℕ) → slice_index words i ≡ 0 = λ i. ⊎_elim
    (λ lt. ap (λ (ws : List ℕ). slice_index ws i) is ∙ get_or-replicate (size.manifests + 1) i 0 0 lt)
    (λ le. get_or_past words i 0 (omega (arith, ap length is, length-replicate {A = ℕ} (size.manifests + 1) 0, le)))
    (cases_lt i (size.manifests + 1)) in
    let one : (f : Hand → ℕ) → sum_by f (opening_hand size ∷ []) ≡ f (opening_hand size) =
    λ f. omega (arith, sum_by-cons f (opening_hand size) []) in
    record {
      width = omega (arith, ap length is, length-replicate {A = ℕ} (size.manifests + 1) 0);
      seats = one (λ u. u.seats);
      once = λ x. one (λ u. times x u.drawn) ∙ sym (ap (once_below x) (all_zero 0)
          ∙ ap (λ b. cond b 1 0) (le-ltb x 0 (omega arith)));
      count = one (λ u. length u.drawn) ∙ sym (all_zero 0);
      most = omega (arith, all_zero 0);
      each = λ id v at. ⊎_elim (λ none_there. absurd (some-ne-none v (sym none_there))) (λ e. subst
          (IsHand size.limit) e (record {
            count = omega arith;
            last = λ _. refl;
            idle =
                λ none. absurd (omega (arith, some_seats, none));
          })) (at_snoc [] (opening_hand size) v id at);
      marks = λ i lt. all_zero (suc i) ∙ sym (ap (min 1) (one (λ u. times i u.marked)));
      seen = λ i some_seen. absurd (omega (arith, some_seen, one (λ (u : Hand). times i u.seen)));
    }

-- A seat is cut off one that has done nothing and stands for more.
pub splits : (size : Size) (id : ℕ) (v : Hand) → v ≡ hand v.seats [] [] [] → 1 < v.seats
    → Splits (Rules size) id v (without_one v) one_seat
splits size id v blank more s kept at =
    let views' : List Hand = set s.views id (without_one v) ++ one_seat ∷ [] in
    let drew : v.drawn ≡ [] = ap (λ u. u.drawn) blank in
    let sum : (f : Hand → ℕ) → f (without_one v) + f one_seat ≡ f v → sum_by f views' ≡ sum_by f s.views = λ f is.
    omega (
      arith,
      sum_by_push f (set s.views id (without_one v)) one_seat,
      sum_set f s.views id v (without_one v) at,
      is,
    ) in
    let drawn : (x : ℕ) → sum_by (λ (u : Hand). times x u.drawn) views' ≡ sum_by (λ
    (u : Hand). times x u.drawn) s.views = λ x. sum (λ u. times x u.drawn) (omega arith) in
    let marked : (x : ℕ) → sum_by (λ (u : Hand). times x u.marked) views' ≡ sum_by (λ
    (u : Hand). times x u.marked) s.views = λ x. sum (λ u. times x u.marked) (omega arith) in
    let seen : (x : ℕ) → sum_by (λ (u : Hand). times x u.seen) views' ≡ sum_by (λ
    (u : Hand). times x u.seen) s.views = λ x. sum (λ u. times x u.seen) (omega arith) in
    let none_late : late size.limit v.drawn ≡ 0 = ap (late size.limit) drew in
    record {
      width = kept.width;
      seats = sum (λ u. u.seats) (omega (arith, more)) ∙ kept.seats;
      once = λ x. drawn x ∙ kept.once x;
      count = sum (λ u. length u.drawn) (omega arith) ∙ kept.count;
      most = omega (arith, kept.most, sum (λ (u : Hand). late size.limit u.drawn) (omega arith));
      each = λ j u there. ⊎_elim
          (λ old. each_set (IsHand size.limit) s.views id (without_one v) kept.each
          (record {
            count = omega (arith, none_late);
            last =
                λ _. ap (λ ts. late size.limit (but_last ts)) drew;
            idle =
                λ none. absurd (omega (arith, more, none));
          }) j u old)
          (λ e. subst (IsHand size.limit) e (record {
            count = omega arith;
            last = λ _. refl;
            idle =
                λ none. absurd (omega (arith, none));
          }))
          (at_snoc (set s.views id (without_one v)) one_seat u j there);
      marks = λ i lt. kept.marks i lt ∙ ap (min 1) (sym (marked i));
      seen = λ i some_seen. let was = kept.seen i (omega (arith, some_seen, seen i)) in
          (was.0, omega (arith, was.1, marked i));
    }

pub joins : (size : Size) (id : ℕ) (v : Hand) (other : ℕ) (w : Hand) → 0 < v.seats → 0 < w.seats
    → Joins (Rules size) id v other w (gathered v w) no_seat
joins size id v other w some_v some_w s kept at apart there =
    let b : Hand = gathered v w in
    let mid : List Hand = set s.views id b in
    let views' : List Hand = set mid other no_seat in
    let there_before : At s.views other w = sym (set_else s.views id other b apart) ∙ there in
    let sum : (f : Hand → ℕ) → f b + f no_seat ≡ f v + f w → sum_by f views' ≡ sum_by f s.views = λ f is.
    omega (arith, sum_set f mid other w no_seat there, sum_set f s.views id v b at, is) in
    let weigh : (g : ℕ → ℕ) (xs ys : List ℕ)
    → sum_by g (xs ++ ys) + 0 ≡ sum_by g xs + sum_by g ys = λ g xs ys. omega (arith, sum_by-append g xs ys) in
    let drawn : (x : ℕ) → sum_by (λ (u : Hand). times x u.drawn) views' ≡ sum_by (λ
    (u : Hand). times x u.drawn) s.views = λ x. sum (λ u. times x u.drawn) (weigh (λ y. cond
    (y == x) 1 0) v.drawn w.drawn) in
    let marked : (x : ℕ) → sum_by (λ (u : Hand). times x u.marked) views' ≡ sum_by (λ
    (u : Hand). times x u.marked) s.views = λ x. sum (λ u. times x u.marked) (weigh (λ y. cond
    (y == x) 1 0) v.marked w.marked) in
    let seen : (x : ℕ) → sum_by (λ (u : Hand). times x u.seen) views' ≡ sum_by (λ
    (u : Hand). times x u.seen) s.views = λ x. sum (λ u. times x u.seen) (weigh (λ y. cond
    (y == x) 1 0) v.seen w.seen) in
    let lates : late size.limit (v.drawn ++ w.drawn) + 0 ≡ late size.limit v.drawn + late size.limit w.drawn =
    weigh (λ t. cond (nat_le size.limit t) 1 0) v.drawn w.drawn in
    record {
      width = kept.width;
      seats = sum (λ u. u.seats) (omega arith) ∙ kept.seats;
      once = λ x. drawn x ∙ kept.once x;
      count = sum (λ u. length u.drawn) (omega (arith, length-append v.drawn w.drawn)) ∙ kept.count;
      most = omega (arith, kept.most, sum (λ (u : Hand). late size.limit u.drawn) lates);
      each = each_set (IsHand size.limit) mid other no_seat
          (each_set (IsHand size.limit) s.views id b kept.each
          (record {
            count = omega (
              arith,
              lates,
              (kept.each id v at).count,
              (kept.each other w there_before).count,
            );
            last =
                λ one. absurd (omega (arith, one, some_v, some_w));
            idle =
                λ none. absurd (omega (arith, none, some_v));
          }))
          (record { count = omega arith; last = λ _. refl; idle = λ _. (refl, refl, refl) });
      marks = λ i lt. kept.marks i lt ∙ ap (min 1) (sym (marked i));
      seen = λ i some_seen. let was = kept.seen i (omega (arith, some_seen, seen i)) in
          (was.0, omega (arith, was.1, marked i));
    }

idle_sum : (f : Hand → ℕ) (limit : ℕ) (vs : List Hand) → ((id : ℕ) (v : Hand) → At vs id v → IsHand limit v)
    → ((v : Hand) → IsHand limit v → v.seats ≡ 0 → f v ≡ 0) → sum_by (λ (v : Hand). v.seats) vs ≡ 0 → sum_by f vs ≡ 0
idle_sum f limit [] each idle empty = refl
idle_sum f limit (x ∷ xs) each idle empty =
    let parts = sum_by-cons (λ (v : Hand). v.seats) x xs in
    let here : f x ≡ 0 = idle x (each 0 x refl) (omega (arith, parts, empty)) in
    let there = idle_sum f limit xs (λ id v at. each (suc id) v at) idle (omega (arith, parts, empty)) in
    omega (arith, sum_by-cons f x xs, here, there)

-- where one hand stands for all seats, what all did is what it did
alone : (f : Hand → ℕ) (size : Size) (words : List ℕ) (views : List Hand) (id : ℕ) (v : Hand)
    → IsKept size words views → At views id v → v.seats ≡ size.seats
    → f no_seat ≡ 0 → ((u : Hand) → IsHand size.limit u → u.seats ≡ 0 → f u ≡ 0) → sum_by f views ≡ f v
alone f size words views id v kept at all nothing idle =
    let rest : List Hand = set views id no_seat in
    let none_left : sum_by (λ (u : Hand). u.seats) rest ≡ 0 = let s =
    sum_set (λ (u : Hand). u.seats) views id v no_seat at in omega (arith, s, kept.seats, all) in
    let each = each_set (IsHand size.limit) views id no_seat kept.each (record {
      count = omega arith;
      last =
          λ _. refl;
      idle = λ _. (refl, refl, refl);
    }) in
    let empty : sum_by f rest ≡ 0 = idle_sum f size.limit rest each idle none_left in
    omega (arith, sum_set f views id v no_seat at, nothing, empty)

-- What the desk's word says of one hand that stands for all seats.
pub record Ended (size : Size) (v : Hand) (word : ℕ) : Type 0 where
  pub once : (t : ℕ) → times t v.drawn ≡ once_below t word
  pub small : word ≤ size.limit + size.seats
  pub seen : (i : ℕ) → 0 < times i v.seen → 0 < times i v.marked

pub ends : (size : Size) (id : ℕ) (v : Hand) (ws : List ℕ) (xs : List (Unit {0}))
    → Final (Seen (Rules size) id v) ws xs → v.seats ≡ size.seats → Ended size v (slice_index ws 0)
ends size id v ws xs final all =
    let s = final.0 in
    let kept = final.1.0 in
    let at = final.1.1 in
    let words : slice_index s.words 0 ≡ slice_index ws 0 = ap (λ (us : List ℕ). slice_index us 0) final.2 in
    record {
      once = λ t. sym (alone (λ u. times t u.drawn) size s.words s.views id v kept at all refl (λ u is none. ap
          (times t) (is.idle none).0)) ∙ kept.once t ∙ ap (once_below t) words;
      small = omega (arith, words, word_small size s.words s.views kept);
      seen = λ i some_seen.
          let M = alone (λ u. times i u.marked) size s.words s.views id v kept at all refl (λ u is none. ap (times i)
          (is.idle none).1) in
          let S = alone (λ u. times i u.seen) size s.words s.views id v kept at all refl (λ u is none. ap (times i)
          (is.idle none).2) in
          let was = kept.seen i (omega (arith, some_seen, S)) in
          omega (arith, was.1, M);
    }
