-- What the workers of some seats do together.
use Rattle.std.proofs.Common.{◌≡◌, ℕ, zero, suc, ◌+◌, ◌*◌, ◌%◌, ◌^◌, ◌<◌, ◌≤◌, ◌==◌, Bool, true, false, cond, IsTrue}
use Rattle.std.proofs.Common.{◌||◌, nat_lt}
use Rattle.std.proofs.Common.{List, [], ◌∷◌, ◌++◌, length, replicate, slice_get, slice_index_or, slice_set, Option}
use Rattle.std.proofs.Common.{Some, None, Result, Ok, Err, IfOk, sym, refl, ap, ◌∙◌, subst, arith, ⊎_elim, inl, inr}
use Rattle.std.specs.List.{All, sum_by}
use Rattle.std.proofs.lemmas.Bool.{cases_lt, lt-ltb, ltb-true}
use borrow.Author.Tests.{eqb-true}
use Rattle.std.proofs.lemmas.List.{length-append}
use Rattle.std.proofs.lemmas.List.Elements.{All-append}
use Rattle.std.proofs.lemmas.List.Sums.{sum_by-cons, sum_by-append}
use Rattle.std.proofs.Math.Nat.{mod-eq_of_lt, mul-le-mul}
use Rattle.ice_state.specs.Contents.{Content, World, content, is_row_taken, no_row}
use Rattle.ice_state.specs.Joins.{either, join}
use Rattle.ice_state.specs.Scans.{Scanned}
use Rattle.ice_desk.specs.declared.hand.Hand.{Hand}
use Rattle.ice_desk.specs.declared.desk.Desk.{Desk}
use Rattle.ice_desk.specs.declared.desk.Seat.{Seat}
use Rattle.ice_desk.specs.declared.left.Left.{Left}
use Rattle.ice_desk.specs.Left.{all_left, failed, left_by_both}
use Rattle.ice_desk.specs.Plans.{AreServed}
use Rattle.ice_desk.specs.Seats.{IsFresh, IsSeatOf, drawn_in, had_done, hand_of, limit_of, marked_in, seen_in}
use Rattle.ice_desk.specs.Tickets.{times}
use Rattle.ice_desk.specs.Wanted.{untaken}
use Rattle.ice_desk.specs.Works.{AtLeast, IsTicketOf, Lacks, MayFailAt, Worked, had_seen, missed}
use Rattle.ice_desk.proofs.Taking.{none_untaken}
use Rattle.ice_desk.proofs.Works.{miss, miss_at, missed_less, or_more}

no_row_length : (n : ℕ) → length (replicate n false) ≡ n
no_row_length zero = refl
no_row_length (suc n) = ap suc (no_row_length n)

-- where a fact holds of at least one of the numbers, it holds of one
some_of : (P : ℕ → Type 0) (ts : List ℕ) (k : ℕ) → AtLeast P ts k → 0 < k → (t : ℕ) × P t
some_of P [] k is some = absurd (omega (arith, is, some))
some_of P (t ∷ ts) k (inl rest) some = some_of P ts k rest some
some_of P (t ∷ ts) k (inr (j, is, so, rest)) some = (t, so)

-- the manifest was taken, or one of these seats saw it marked
abbrev met : Content → List Seat → ℕ → Bool
met c seats i = is_row_taken c i || nat_lt 0 (seen_in seats i)

seen_more : (ss us : List Seat) (i : ℕ) → seen_in ss i ≤ seen_in us i → IsTrue (nat_lt 0 (seen_in ss i))
    → IsTrue (nat_lt 0 (seen_in us i))
seen_more ss us i le is = lt-ltb 0 (seen_in us i) (omega (arith, le, ltb-true 0 (seen_in ss i) is))

-- one worker, who began with nothing
served_alone : (world : Option World) (may_fail : List ℕ → Type 0) (desk : Desk) (scan : Scanned) (old new : Seat)
    (before after : Content) (left : Left)
    → IsFresh old → ((w : World) → before ≡ content w scan (no_row scan)) → IsSeatOf desk new
    → IsTrue (had_done desk new) → all_left left < 2 ^ 32
    → Worked world may_fail desk scan old new before after left
    → AreServed world may_fail desk scan (new ∷ []) after left
served_alone world may_fail desk scan old new before after left fresh none seat done small w = record {
  each = one_is (IsSeatOf desk) seat;
  done = one_is (λ s. IsTrue (had_done desk s)) done;
  tickets = w.tickets;
  drawn = λ t. sum_by-cons (λ (s : Seat). times t (hand_of s).drawn) new [] ∙ omega (
    arith,
    ap (times t) w.drawn ∙ ap
        (λ (v : Hand). times t (v.drawn ++ w.tickets)) fresh,
  );
  of_scan = w.of_scan;
  content = λ v told. w.content v (no_row scan) told (record {
    flags = no_row_length (length scan.wanted);
    is = none v;
  });
  missed = omega (
    arith,
    w.unseen,
    missed_less desk (λ i. is_row_taken after i || had_seen new i) (met after (new ∷ []))
        (λ i is. or_more (is_row_taken after i) (had_seen new i) (is_row_taken after i)
        (nat_lt 0 (seen_in (new ∷ []) i)) (λ taken. taken) (λ saw. lt-ltb 0 (seen_in (new ∷ []) i) (omega (
          arith,
          ltb-true 0 (times i (hand_of new).seen) saw,
          sum_by-cons (λ (s : Seat). times i (hand_of s).seen) new [],
        ))) is) w.tickets,
  );
  marked = λ i some. ⊎_elim
      (λ first.
      let blank : times i (hand_of old).marked ≡ 0 = ap (λ (v : Hand). times i v.marked) fresh in
      absurd (omega (arith, first, blank)))
      (λ taken. taken)
      (w.marked i (omega (arith, some, sum_by-cons (λ (s : Seat). times i (hand_of s).marked) new [])));
  small = omega (arith, small);
  absent = λ some. let at = some_of (IsTicketOf desk (Lacks world scan)) w.tickets left.absent w.absent some in
      (at.0 % desk.manifests, at.1.1);
  device = λ some. let at = some_of (IsTicketOf desk (MayFailAt may_fail scan)) w.tickets left.device w.device some in
      (at.0 % desk.manifests, at.1.1);
}
  where
    one_is : (P : Seat → Type 0) → P new → All P (new ∷ [])
    one_is P p zero d l = p
    one_is P p (suc k) d l = absurd (omega (arith, l))

pub one_served : (world : Option World) (may_fail : List ℕ → Type 0) (desk : Desk) (scan : Scanned) (seats : List Seat)
    (old new : Seat) (before after : Content) (left : Left)
    → length seats ≡ 1 → old ≡ slice_index_or seats 0 old → All IsFresh seats
    → ((w : World) → before ≡ content w scan (no_row scan)) → IsSeatOf desk new → IsTrue (had_done desk new)
    → all_left left < 2 ^ 32
    → Worked world may_fail desk scan old new before after left
    → AreServed world may_fail desk scan (slice_set seats 0 new) after left
one_served world may_fail desk scan [] old new before after left one is fresh none seat done small w = absurd cc
one_served world may_fail desk scan (s ∷ []) old new before after left one is fresh none seat done small w =
    served_alone world may_fail desk scan old new before after left (subst IsFresh (sym is) (fresh 0 s (omega arith)))
    none seat done small w
one_served world may_fail desk scan (s ∷ t ∷ ss) old new before after left one is fresh none seat done small w =
    absurd cc

join_length : (c d : Content) (n : ℕ) → length c ≡ n → length d ≡ n → length (join c d) ≡ n
join_length [] d n l r = r
join_length (x ∷ xs) [] n l r = l
join_length (x ∷ xs) (y ∷ ys) zero l r = absurd cc
join_length (x ∷ xs) (y ∷ ys) (suc n) l r = ap suc (join_length xs ys n (omega (arith, l)) (omega (arith, r)))

either_length : (ts us : List Bool) (n : ℕ) → length ts ≡ n → length us ≡ n → length (either ts us) ≡ n
either_length [] us n l r = r
either_length (t ∷ ts) [] n l r = l
either_length (t ∷ ts) (u ∷ us) zero l r = absurd cc
either_length (t ∷ ts) (u ∷ us) (suc n) l r = ap suc (either_length ts us n (omega (arith, l)) (omega (arith, r)))

-- what either took is taken in the union
taken_left : (c d : Content) (i : ℕ) → IsTrue (is_row_taken c i) → IsTrue (is_row_taken (join c d) i)
taken_left [] d i h = absurd cc
taken_left (x ∷ xs) [] i h = h
taken_left (Some r ∷ xs) (y ∷ ys) zero h = refl
taken_left (None ∷ xs) (y ∷ ys) zero h = absurd cc
taken_left (x ∷ xs) (y ∷ ys) (suc i) h = taken_left xs ys i h

taken_right : (c d : Content) (i : ℕ) → IsTrue (is_row_taken d i) → IsTrue (is_row_taken (join c d) i)
taken_right [] d i h = h
taken_right (x ∷ xs) [] i h = absurd cc
taken_right (Some r ∷ xs) (y ∷ ys) zero h = refl
taken_right (None ∷ xs) (y ∷ ys) zero h = h
taken_right (x ∷ xs) (y ∷ ys) (suc i) h = taken_right xs ys i h

-- a sum above 0 has a part above 0
either_some : {X : Type 0} {n a b : ℕ} → n ≡ a + b → 0 < n → (0 < a → X) → (0 < b → X) → X
either_some {X} {n} {a} {b} sum some left right = ⊎_elim left (λ none. right (omega (arith, sum, some, none)))
    (cases_lt 0 a)

-- what two crews missed together
missed_both : (desk : Desk) (ls rs : List Seat) (lc rc : Content) (lt rt : List ℕ) (l r n : ℕ)
    → missed desk (met lc ls) lt ≤ l → missed desk (met rc rs) rt ≤ r → n ≡ l + r
    → missed desk (met (join lc rc) (ls ++ rs)) (lt ++ rt) ≤ n
missed_both desk ls rs lc rc lt rt l r n first second sum =
    let seen : (i : ℕ) → seen_in (ls ++ rs) i ≡ seen_in ls i + seen_in rs i =
    λ i. sum_by-append (λ (s : Seat). times i (hand_of s).seen) ls rs in
    omega (
      arith,
      sum_by-append (miss_at desk (met (join lc rc) (ls ++ rs))) lt rt,
      missed_less desk (met lc ls) (met (join lc rc) (ls ++ rs))
          (λ i is. or_more (is_row_taken lc i) (nat_lt 0 (seen_in ls i)) (is_row_taken (join lc rc) i)
          (nat_lt 0 (seen_in (ls ++ rs) i)) (taken_left lc rc i)
          (seen_more ls (ls ++ rs) i (omega (arith, seen i))) is) lt,
      missed_less desk (met rc rs) (met (join lc rc) (ls ++ rs))
          (λ i is. or_more (is_row_taken rc i) (nat_lt 0 (seen_in rs i)) (is_row_taken (join lc rc) i)
          (nat_lt 0 (seen_in (ls ++ rs) i)) (taken_right lc rc i)
          (seen_more rs (ls ++ rs) i (omega (arith, seen i))) is) rt,
      first,
      second,
      sum,
    )

-- two crews together
pub served_both : (world : Option World) (may_fail : List ℕ → Type 0) (desk : Desk) (scan : Scanned) {X E : Type 0}
    (seats : X → List Seat) (state : X → Content) (left : X → Left) (r : Result X E)
    (ls rs : List Seat) (lc rc : Content) (ll rl : Left)
    → AreServed world may_fail desk scan ls lc ll → AreServed world may_fail desk scan rs rc rl
    → IfOk r (λ x. seats x ≡ ls ++ rs) → IfOk r (λ x. state x ≡ join lc rc) → IfOk r (λ x. left x ≡ left_by_both ll rl)
    → ((w : World) (ts us : List Bool) → lc ≡ content w scan ts → rc ≡ content w scan us
    → IfOk r (λ x. state x ≡ content w scan (either ts us)))
    → IfOk r (λ x. AreServed world may_fail desk scan (seats x) (state x) (left x))
served_both world may_fail desk scan seats state left (Ok x) ls rs lc rc ll rl first second all joined sum united =
    record {
      each = subst (All (IsSeatOf desk)) (sym all) (All-append (IsSeatOf desk) ls rs first.each second.each);
      done = subst (All (λ s. IsTrue (had_done desk s))) (sym all) (All-append (λ s. IsTrue (had_done desk s)) ls rs
          first.done second.done);
      tickets = first.tickets ++ second.tickets;
      drawn = λ t. ap (λ ss. drawn_in ss t) all ∙ omega (
        arith,
        sum_by-append (λ (s : Seat). times t (hand_of s).drawn) ls rs,
        sum_by-append (λ y. cond (y == t) 1 0) first.tickets second.tickets,
        first.drawn t,
        second.drawn t,
      );
      of_scan = ap length joined ∙ join_length lc rc (length scan.wanted) first.of_scan second.of_scan;
      content = λ w told.
          let l = first.content w told in
          let r = second.content w told in (
            either l.0 r.0,
            record {
              flags = either_length l.0 r.0 (length scan.wanted) l.1.flags r.1.flags;
              is = united w l.0 r.0 l.1.is r.1.is;
            },
          );
      missed = subst (λ c. missed desk (met c (seats x)) (first.tickets ++ second.tickets) ≤ failed (left x)) (sym
          joined) (subst (λ ss. missed desk (met (join lc rc) ss) (first.tickets ++ second.tickets) ≤ failed (left x))
          (sym all) (missed_both desk ls rs lc rc first.tickets second.tickets (failed ll) (failed rl) (failed (left x))
          first.missed second.missed (omega (arith, ap failed sum))));
      marked = λ i some. subst (λ c. IsTrue (is_row_taken c i)) (sym joined) (either_some
          (ap (λ ss. marked_in ss i) all ∙ sum_by-append (λ (s : Seat). times i (hand_of s).marked) ls rs) some
          (λ l. taken_left lc rc i (first.marked i l)) (λ r. taken_right lc rc i (second.marked i r)));
      small = omega (arith, ap length all, length-append ls rs, ap all_left sum, first.small, second.small);
      absent = λ some. either_some (ap (λ l. l.absent) sum) some first.absent second.absent;
      device = λ some. either_some (ap (λ l. l.device) sum) some first.device second.device;
    }
served_both world may_fail desk scan seats state left (Err e) ls rs lc rc ll rl first second all joined sum united = tt

abbrev one_where : Bool → ℕ
one_where b = cond b 1 0

-- a number that was drawn counts among those that were missed
missed_here : (f : ℕ → ℕ) (t u : ℕ) (ts : List ℕ) (b : Bool) → (u == t) ≡ b → (0 < times t ts → f t ≤ sum_by f ts)
    → 0 < times t (u ∷ ts) → f t ≤ sum_by f (u ∷ ts)
missed_here f t u ts true is later some = omega (arith, sum_by-cons f u ts, ap f (eqb-true u t is))
missed_here f t u ts false is later some =
    let none : one_where (u == t) ≡ 0 = ap one_where is in
    omega (arith, sum_by-cons f u ts, later (omega (arith, some, none, sum_by-cons (λ y. cond (y == t) 1 0) u ts)))

missed_at : (f : ℕ → ℕ) (t : ℕ) (ts : List ℕ) → 0 < times t ts → f t ≤ sum_by f ts
missed_at f t [] some = absurd (omega (arith, some))
missed_at f t (u ∷ ts) some = missed_here f t u ts (u == t) refl (missed_at f t ts) some

-- where each ticket was drawn, no read or take failed, and what was seen marked was marked, each manifest was taken
all_taken : (world : Option World) (may_fail : List ℕ → Type 0) (desk : Desk) (scan : Scanned) (seats : List Seat)
    (state : Content) (left : Left)
    → AreServed world may_fail desk scan seats state left → desk.manifests ≡ length scan.wanted → 0 < desk.rounds
    → ((t : ℕ) → t < limit_of desk → drawn_in seats t ≡ 1)
    → ((i : ℕ) → 0 < seen_in seats i → 0 < marked_in seats i) → failed left ≡ 0
    → (i : ℕ) → i < length scan.wanted → is_row_taken state i ≡ true
all_taken world may_fail desk scan seats state left served size rounds drawn marks none i below =
    by (is_row_taken state i) (nat_lt 0 (seen_in seats i)) refl refl
  where
    same_size : desk.manifests ≤ desk.manifests
    same_size = omega arith

    one_round : 1 ≤ desk.rounds
    one_round = omega (arith, rounds)

    each_round : desk.manifests * 1 ≤ limit_of desk
    each_round = mul-le-mul same_size one_round

    ticket : i < limit_of desk
    ticket = omega (arith, below, size, each_round)

    same : i % desk.manifests ≡ i
    same = mod-eq_of_lt (omega (arith, below, size))

    none_missed : miss_at desk (met state seats) i ≡ 0
    none_missed = omega (
      arith,
      missed_at (miss_at desk (met state seats)) i served.tickets (omega (arith, served.drawn i, drawn i ticket)),
      served.missed,
      none,
    )

    by : (taken seen : Bool) → is_row_taken state i ≡ taken → nat_lt 0 (seen_in seats i) ≡ seen
        → is_row_taken state i ≡ true
    by true seen is saw = is
    by false true is saw = served.marked i (marks i (ltb-true 0 (seen_in seats i) saw))
    by false false is saw =
        let one : miss_at desk (met state seats) i ≡ 1 = ap (λ b. miss b (met state seats (i % desk.manifests)))
        (lt-ltb i (limit_of desk) ticket) ∙ ap (λ k. miss true (met state seats k)) same ∙ ap
        (λ b. miss true (b || nat_lt 0 (seen_in seats i))) is ∙ ap (miss true) saw in
        absurd (omega (arith, one, none_missed))

-- some seat had no ticket any more
pub nothing_left : (world : Option World) (may_fail : List ℕ → Type 0) (desk : Desk) (scan : Scanned)
    (seats : List Seat) (state : Content) (left : Left)
    → AreServed world may_fail desk scan seats state left → desk.manifests ≡ length scan.wanted → 0 < desk.rounds
    → 0 < length seats
    → ((k : ℕ) (s : Seat) → slice_get seats k ≡ Some s → IsTrue (had_done desk s) → (t : ℕ) → t < limit_of desk
    → drawn_in seats t ≡ 1)
    → ((i : ℕ) → 0 < seen_in seats i → 0 < marked_in seats i)
    → failed left ≡ 0 → untaken state scan.wanted ≡ []
nothing_left world may_fail desk scan [] state left served size rounds some whole marks none =
    absurd (omega (arith, some))
nothing_left world may_fail desk scan (s ∷ ss) state left served size rounds some whole marks none =
    none_untaken state scan.wanted served.of_scan
    (all_taken world may_fail desk scan (s ∷ ss) state left served size rounds
    (whole 0 s refl (served.done 0 s (omega arith))) marks none)
