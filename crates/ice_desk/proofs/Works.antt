-- One more ticket of a worker.
use Rattle.std.proofs.Common.{◌≡◌, ◌⊎◌, ⊎_elim, inl, inr, ℕ, zero, suc, ◌+◌, ◌*◌, ◌%◌, ◌^◌, ◌<◌, ◌≤◌, ◌==◌, Bool, true}
use Rattle.std.proofs.Common.{false, ◌&&◌, ◌||◌, not, cond, nat_lt, IsTrue, List, [], ◌∷◌, ◌++◌, length, get_or, Option}
use Rattle.std.proofs.Common.{Some, sym, refl, ap, ◌∙◌, subst, arith, append_assoc, append-nil, eq-eqb, ne_eqb}
use Rattle.std.proofs.lemmas.Bool.{cases_lt, cases_eq, le-ltb, lt-ltb, ltb-true}
use Rattle.std.proofs.lemmas.Nat.{mod_below}
use Rattle.std.proofs.lemmas.List.{length-append, length-set}
use Rattle.std.proofs.lemmas.List.Sums.{count_by-le-length, sum_by-cons, sum_by_push}
use Rattle.ice_manifest_reading.specs.declared.row.Row.{Row}
use Rattle.ice_state.specs.Contents.{Content, World, IsOf, add, is_row_taken, took, took_at}
use Rattle.ice_state.specs.Scans.{Scanned}
use Rattle.ice_desk.specs.declared.hand.Hand.{Hand}
use Rattle.ice_desk.specs.declared.desk.Desk.{Desk}
use Rattle.ice_desk.specs.declared.desk.Seat.{Seat}
use Rattle.ice_desk.specs.declared.desk.Claim.TheVariants.{Done}
use Rattle.ice_desk.specs.declared.left.Left.{Left}
use Rattle.ice_desk.specs.declared.left.Served.{Served}
use Rattle.ice_desk.specs.declared.left.Served.TheVariants as served
use Rattle.ice_desk.specs.Left.{all_left, counted, failed}
use Rattle.ice_desk.specs.Tickets.{times, drawing, marking, seeing}
use Rattle.ice_desk.specs.Seats.{hand_of, limit_of, Claims}
use Rattle.ice_desk.specs.Wanted.{IsContentOf}
use Rattle.ice_desk.specs.Works.{AtLeast, IsPathAt, IsTicketOf, Lacks, MayFailAt, Serves, Worked, had_seen}
use Rattle.ice_desk.specs.Works.{missed}
use Rattle.ice_desk.proofs.Keeps.{times_more}
use Rattle.ice_desk.proofs.Taking.{taken_before, taken_here, took_length}

taken_after : (scan : Scanned) (c : Content) (rows : List Row) (i j : ℕ) (bytes : List ℕ)
    → is_row_taken (took_at scan c rows i bytes) j ≡ true → (is_row_taken c j ≡ true) ⊎ (i ≡ j)
taken_after scan [] rows i j bytes h = inl h
taken_after scan (s ∷ ss) [] i j bytes h = inl h
taken_after scan (s ∷ ss) (row ∷ rows) zero zero bytes h = inr refl
taken_after scan (s ∷ ss) (row ∷ rows) zero (suc j) bytes h = inl h
taken_after scan (s ∷ ss) (row ∷ rows) (suc i) zero bytes h = inl h
taken_after scan (s ∷ ss) (row ∷ rows) (suc i) (suc j) bytes h = ⊎_elim (λ was. inl was) (λ e. inr (ap suc e))
    (taken_after scan ss rows i j bytes h)

-- the path of the row that stands there
pub path_at : (so : List ℕ → Type 0) (rows : List Row) (i : ℕ) (row : Row) → i < length rows → row ≡ get_or rows i row
    → so row.path → IsPathAt so rows i
path_at so [] i row l e h = absurd (omega arith)
path_at so (r ∷ rs) zero row l e h = subst (λ (q : Row). so q.path) e h
path_at so (r ∷ rs) (suc i) row l e h = path_at so rs i row (omega arith) e h

pub add_length : (ts : List Bool) (i : ℕ) → length (add ts i) ≡ length ts
add_length ts i = length-set ts i true

module _ (P : ℕ → Type 0) where
  at_least_more : (ts : List ℕ) (k t : ℕ) → AtLeast P ts k → AtLeast P (ts ++ t ∷ []) k
  at_least_more [] k t is = inl is
  at_least_more (x ∷ xs) k t is = ⊎_elim (λ r. inl (at_least_more xs k t r))
      (λ r. inr (r.0, r.1, r.2, at_least_more xs r.0 t r.3)) is

  at_least_one : (ts : List ℕ) (k t : ℕ) → P t → AtLeast P ts k → AtLeast P (ts ++ t ∷ []) (k + 1)
  at_least_one [] k t p is = inr (0, omega (arith, is), p, refl)
  at_least_one (x ∷ xs) k t p is = ⊎_elim (λ r. inl (at_least_one xs k t p r))
      (λ r. inr (r.0 + 1, omega (arith, r.1), r.2, at_least_one xs r.0 t p r.3)) is

at_least_weaker : (P Q : ℕ → Type 0) → ((t : ℕ) → P t → Q t) → (ts : List ℕ) (k : ℕ) → AtLeast P ts k → AtLeast Q ts k
at_least_weaker P Q more [] k is = is
at_least_weaker P Q more (x ∷ xs) k is = ⊎_elim (λ r. inl (at_least_weaker P Q more xs k r))
    (λ r. inr (r.0, r.1, more x r.2, at_least_weaker P Q more xs r.0 r.3)) is

abbrev pub miss : Bool → Bool → ℕ
miss ticket so = cond (ticket && not so) 1 0

miss_less : (a b c : Bool) → (IsTrue b → IsTrue c) → miss a c ≤ miss a b
miss_less false b c more = omega arith
miss_less true true c more = let is : c ≡ true = more refl in rw is (omega arith)
miss_less true false true more = omega arith
miss_less true false false more = omega arith

miss_one : (a b : Bool) → miss a b ≤ 1
miss_one false b = omega arith
miss_one true true = omega arith
miss_one true false = omega arith

miss_none : (a : Bool) → miss a true ≡ 0
miss_none false = refl
miss_none true = refl

-- one for a ticket, none for another number
abbrev ticket_at : Desk → ℕ → ℕ
ticket_at desk t = cond (nat_lt t (limit_of desk)) 1 0

is_one : (desk : Desk) (t : ℕ) → t < limit_of desk → ticket_at desk t ≡ 1
is_one desk t ticket = ap (λ b. cond b 1 0) (lt-ltb t (limit_of desk) ticket)

abbrev pub miss_at : Desk → (ℕ → Bool) → ℕ → ℕ
miss_at desk so t = miss (nat_lt t (limit_of desk)) (so (t % desk.manifests))

pub missed_less : (desk : Desk) (before after : ℕ → Bool)
    → ((i : ℕ) → IsTrue (before i) → IsTrue (after i)) → (ts : List ℕ)
    → missed desk after ts ≤ missed desk before ts
missed_less desk before after more [] = omega arith
missed_less desk before after more (t ∷ ts) =
    omega (
      arith,
      sum_by-cons (miss_at desk before) t ts,
      sum_by-cons (miss_at desk after) t ts,
      missed_less desk before after more ts,
      miss_less (nat_lt t (limit_of desk)) (before (t % desk.manifests)) (after (t % desk.manifests))
          (more (t % desk.manifests)),
    )

pub or_left : (a b : Bool) → IsTrue a → IsTrue (a || b)
or_left true b is = refl
or_left false b is = absurd cc

pub or_right : (a b : Bool) → IsTrue b → IsTrue (a || b)
or_right true b is = refl
or_right false b is = is

pub or_more : (a b c d : Bool) → (IsTrue a → IsTrue c) → (IsTrue b → IsTrue d) → IsTrue (a || b) → IsTrue (c || d)
or_more true b c d left right is = or_left c d (left refl)
or_more false b c d left right is = or_right c d (right is)

abbrev one_where : Bool → ℕ
one_where b = cond b 1 0

here : (t : ℕ) → one_where (t == t) ≡ 1
here t = ap one_where (eq-eqb t t refl)

elsewhere : (i j : ℕ) → (i ≡ j → ⊥) → one_where (i == j) ≡ 0
elsewhere i j ne = ap one_where (ne_eqb i j ne)

module _ (world : Option World) (may_fail : List ℕ → Type 0) (desk : Desk) (scan : Scanned) (old : Seat)
    (before : Content) where
  abbrev Did : Seat → Content → Left → Type 0
  Did new after left = Worked world may_fail desk scan old new before after left

  abbrev Keeps : Content → Content → Type 0
  Keeps taken after = (w : World) (ts : List Bool) → world ≡ Some w → IsContentOf w scan taken ts
      → (us : List Bool) × IsContentOf w scan after us

  abbrev taken_in : Content → ℕ → Bool
  taken_in c i = is_row_taken c i

  abbrev met : Content → Seat → ℕ → Bool
  met c seat i = is_row_taken c i || had_seen seat i

  -- the seat drew one more number t, and saw and marked no less than before
  record Drew (mid new : Seat) (after : Content) (t : ℕ) : Type 0 where
    drawn : (hand_of new).drawn ≡ (hand_of mid).drawn ++ t ∷ []
    saw : (j : ℕ) → IsTrue (had_seen mid j) → IsTrue (had_seen new j)
    marks : (j : ℕ) → 0 < times j (hand_of new).marked
        → (0 < times j (hand_of mid).marked) ⊎ IsTrue (is_row_taken after j)

  abbrev seen_by : Seat → ℕ → Type 0
  seen_by seat = IsTicketOf desk (λ i. IsTrue (had_seen seat i))

  -- why the tickets were left
  record Causes (new : Seat) (ts : List ℕ) (left : Left) : Type 0 where
    absent : AtLeast (IsTicketOf desk (Lacks world scan)) ts left.absent
    device : AtLeast (IsTicketOf desk (MayFailAt may_fail scan)) ts left.device
    seen : AtLeast (seen_by new) ts left.marked

  -- what was seen marked is still seen
  still_seen : (mid new : Seat) (ts : List ℕ) (k : ℕ) → ((j : ℕ) → IsTrue (had_seen mid j) → IsTrue (had_seen new j))
      → AtLeast (seen_by mid) ts k → AtLeast (seen_by new) ts k
  still_seen mid new ts k saw is =
      at_least_weaker (seen_by mid) (seen_by new) (λ u was. (was.0, saw (u % desk.manifests) was.1)) ts k is

  -- the causes so far stand with one more number
  causes_more : (mid new : Seat) (taken after : Content) (left : Left) (t : ℕ) (w : Did mid taken left)
      → Drew mid new after t → Causes new (w.tickets ++ t ∷ []) left
  causes_more mid new taken after left t w drew = record {
    absent = at_least_more (IsTicketOf desk (Lacks world scan)) w.tickets left.absent t w.absent;
    device = at_least_more (IsTicketOf desk (MayFailAt may_fail scan)) w.tickets left.device t w.device;
    seen = at_least_more (seen_by new) w.tickets left.marked t (still_seen mid new w.tickets left.marked drew.saw
        w.seen);
  }

  -- one more number t, after which the worker stands so
  advance : (mid new : Seat) (taken after : Content) (left left' : Left) (t : ℕ) (w : Did mid taken left)
      → Drew mid new after t
      → length after ≡ length taken
      → ((j : ℕ) → IsTrue (is_row_taken taken j) → IsTrue (is_row_taken after j))
      → ((j : ℕ) → IsTrue (is_row_taken after j) → IsTrue (is_row_taken taken j) ⊎
      ((t < limit_of desk) × (t % desk.manifests ≡ j)))
      → Keeps taken after
      → miss_at desk (taken_in after) t + all_left left ≤ all_left left'
      → all_left left' ≤ all_left left + ticket_at desk t
      → miss_at desk (met after new) t + failed left ≤ failed left'
      → Causes new (w.tickets ++ t ∷ []) left'
      → Did new after left'
  advance mid new taken after left left' t w drew width more gain keeps misses few unseen causes = record {
    tickets = w.tickets ++ t ∷ [];
    drawn = drew.drawn ∙ ap (λ ts. ts ++ t ∷ []) w.drawn ∙ append_assoc (hand_of old).drawn w.tickets (t ∷ []);
    of_scan = width ∙ w.of_scan;
    kept = λ i is. more i (w.kept i is);
    gained = λ i is. ⊎_elim
        (λ was. ⊎_elim (λ first. inl first) (λ r. inr (r.0, omega (arith, r.1, times_more r.0 t w.tickets), r.2, r.3))
        (w.gained i was))
        (λ now. inr (t, omega (arith, times_more t t w.tickets, here t), now.0, now.1))
        (gain i is);
    content = λ v ts told h. let us = w.content v ts told h in keeps v us.0 told us.1;
    untaken = omega (
      arith,
      sum_by_push (miss_at desk (taken_in after)) w.tickets t,
      missed_less desk (taken_in taken) (taken_in after) more w.tickets,
      w.untaken,
      misses,
    );
    unseen = omega (
      arith,
      sum_by_push (miss_at desk (met after new)) w.tickets t,
      missed_less desk (met taken mid) (met after new)
          (λ i is. or_more (is_row_taken taken i) (had_seen mid i) (is_row_taken after i) (had_seen new i) (more i)
          (drew.saw i) is) w.tickets,
      w.unseen,
      unseen,
    );
    few = omega (arith, few, w.few, sum_by_push (ticket_at desk) w.tickets t);
    absent = causes.absent;
    device = causes.device;
    seen = causes.seen;
    marked = λ i is. ⊎_elim
        (λ was. ⊎_elim (λ first. inl first) (λ taken. inr (more i taken)) (w.marked i was)) (λ now. inr now)
        (drew.marks i is);
  }

  pub began : IsOf scan before → Did old before (record { absent = 0; device = 0; memory = 0; marked = 0 })
  began is = record {
    tickets = [];
    drawn = sym (append-nil (hand_of old).drawn);
    of_scan = is;
    kept = λ i is. is;
    gained = λ i is. inl is;
    content = λ v ts told h. (ts, h);
    untaken = omega arith;
    unseen = omega arith;
    few = omega arith;
    absent = refl;
    device = refl;
    seen = refl;
    marked = λ i is. inl is;
  }

  -- a seat's hand alone is looked at
  same_hand : (mid new : Seat) (taken : Content) (left : Left) → hand_of new ≡ hand_of mid → Did mid taken left
      → Did new taken left
  same_hand mid new taken left is w = record {
    tickets = w.tickets;
    drawn = ap (λ (v : Hand). v.drawn) is ∙ w.drawn;
    of_scan = w.of_scan;
    kept = w.kept;
    gained = w.gained;
    content = w.content;
    untaken = w.untaken;
    unseen = subst (λ (v : Hand). missed desk (λ i. is_row_taken taken i || nat_lt 0 (times i v.seen)) w.tickets ≤
        failed left) (sym is) w.unseen;
    few = w.few;
    absent = w.absent;
    device = w.device;
    seen = still_seen mid new w.tickets left.marked
        (λ j was. subst (λ (v : Hand). IsTrue (nat_lt 0 (times j v.seen))) (sym is) was) w.seen;
    marked = λ i some. w.marked i (subst (λ (v : Hand). 0 < times i v.marked) is some);
  }

  -- a number is drawn, and nothing is marked or looked at
  drew_alone : (mid new : Seat) (after : Content) (t : ℕ) → hand_of new ≡ drawing (hand_of mid) t
      → Drew mid new after t
  drew_alone mid new after t draws = record {
    drawn = ap (λ (v : Hand). v.drawn) draws;
    saw = λ j was. subst (λ (v : Hand). IsTrue (nat_lt 0 (times j v.seen))) (sym draws) was;
    marks = λ j some. inl (subst (λ (v : Hand). 0 < times j v.marked) draws some);
  }

  -- a number after which the state is as it was
  unchanged : (mid new : Seat) (taken after : Content) (left left' : Left) (t : ℕ) (w : Did mid taken left)
      → Drew mid new after t → after ≡ taken
      → miss_at desk (taken_in after) t + all_left left ≤ all_left left'
      → all_left left' ≤ all_left left + ticket_at desk t
      → miss_at desk (met after new) t + failed left ≤ failed left'
      → Causes new (w.tickets ++ t ∷ []) left'
      → Did new after left'
  unchanged mid new taken after left left' t w drew same misses few unseen causes =
      advance mid new taken after left left' t w drew (ap length same)
      (λ j was. subst (λ (ts : Content). IsTrue (is_row_taken ts j)) (sym same) was)
      (λ j now. inl (subst (λ (ts : Content). IsTrue (is_row_taken ts j)) same now))
      (λ v ts told h. (ts, subst (λ (c : Content). IsContentOf v scan c ts) (sym same) h))
      misses few unseen causes

  -- nothing is missed by a number that is no ticket, nor where the manifest is so
  late_none : (so : ℕ → Bool) (t : ℕ) → limit_of desk ≤ t → miss_at desk so t ≡ 0
  late_none so t late = ap (λ b. miss b (so (t % desk.manifests))) (le-ltb t (limit_of desk) late)

  so_none : (so : ℕ → Bool) (t : ℕ) → IsTrue (so (t % desk.manifests)) → miss_at desk so t ≡ 0
  so_none so t is = ap (miss (nat_lt t (limit_of desk))) is ∙ miss_none (nat_lt t (limit_of desk))

  -- a number that is no ticket
  too_late : (mid new : Seat) (taken : Content) (left : Left) (t : ℕ) → hand_of new ≡ drawing (hand_of mid) t
      → limit_of desk ≤ t → Did mid taken left → Did new taken left
  too_late mid new taken left t draws late w =
      let drew = drew_alone mid new taken t draws in
      unchanged mid new taken taken left left t w drew refl
      (omega (arith, late_none (taken_in taken) t late)) (omega arith) (omega (arith, late_none (met taken new) t late))
      (causes_more mid new taken taken left t w drew)

  pub ended : (mid new : Seat) (taken : Content) (left : Left) → Claims desk mid new Done → Did mid taken left
      → Did new taken left
  ended mid new taken left claims w = ⊎_elim
      (λ again. same_hand mid new taken left again.1 w)
      (λ drew. too_late mid new taken left drew.1.0 drew.1.1.0 drew.1.2 w)
      claims.1

  -- a ticket is left because a read or a take failed
  left_one : (mid new : Seat) (taken after : Content) (left left' : Left) (t : ℕ) (w : Did mid taken left)
      → Drew mid new after t → t < limit_of desk → after ≡ taken → failed left' ≡ failed left + 1
      → left'.marked ≡ left.marked
      → Causes new (w.tickets ++ t ∷ []) left'
      → Did new after left'
  left_one mid new taken after left left' t w drew ticket same grown marks causes =
      unchanged mid new taken after left left' t w drew same
      (omega (
        arith,
        grown,
        marks,
        miss_one (nat_lt t (limit_of desk)) (is_row_taken after (t % desk.manifests)),
      ))
      (omega (arith, grown, marks, is_one desk t ticket))
      (omega (arith, grown, miss_one (nat_lt t (limit_of desk)) (met after new (t % desk.manifests)))) causes

  -- a ticket's manifest is taken, and marked then
  took_one : (mid new : Seat) (taken after : Content) (left : Left) (t i : ℕ)
      → hand_of new ≡ marking (drawing (hand_of mid) t) i → t < limit_of desk → i ≡ t % desk.manifests
      → i < length taken
      → ((bytes : List ℕ) × (after ≡ took scan taken i bytes))
      → Keeps taken after → Did mid taken left → Did new after left
  took_one mid new taken after left t i hand ticket is inside some keeps w =
      let bytes : List ℕ = some.0 in
      let is_took : after ≡ took scan taken i bytes = some.1 in
      let there : IsTrue (is_row_taken after i) = subst (λ (c : Content). IsTrue (is_row_taken c i)) (sym is_took)
      (taken_here scan taken scan.wanted i bytes w.of_scan inside) in
      let there' : IsTrue (is_row_taken after (t % desk.manifests)) = subst (λ (k : ℕ). IsTrue (is_row_taken after k))
      is there in
      let drew : Drew mid new after t = record {
        drawn = ap (λ (v : Hand). v.drawn) hand;
        saw = λ j was. subst (λ (v : Hand). IsTrue (nat_lt 0 (times j v.seen))) (sym hand) was;
        marks = λ j now.
            let marks : 0 < times j ((hand_of mid).marked ++ i ∷ []) = subst (λ (v : Hand). 0 < times j v.marked) hand
            now in
            ⊎_elim
            (λ e. inr (subst (λ (k : ℕ). IsTrue (is_row_taken after k)) e there))
            (λ ne. inl (omega (arith, marks, times_more j i (hand_of mid).marked, elsewhere i j ne)))
            (cases_eq i j);
      } in
      advance mid new taken after left left t w drew
      (ap length is_took ∙ took_length scan taken scan.wanted i bytes)
      (λ j was. subst (λ (c : Content). IsTrue (is_row_taken c j)) (sym is_took) (taken_before scan taken scan.wanted i
      j bytes was))
      (λ j now. ⊎_elim (λ was. inl was) (λ e. inr (ticket, sym is ∙ e)) (taken_after scan taken scan.wanted i j bytes
      (subst (λ (c : Content). IsTrue (is_row_taken c j)) is_took now)))
      keeps
      (omega (arith, so_none (taken_in after) t there')) (omega arith)
      (omega (
        arith,
        so_none (met after new) t
            (or_left (is_row_taken after (t % desk.manifests)) (had_seen new (t % desk.manifests)) there'),
      ))
      (causes_more mid new taken after left t w drew)

  -- a ticket's manifest is seen marked
  passed_one : (mid new : Seat) (taken after : Content) (left : Left) (t i : ℕ)
      → hand_of new ≡ seeing (drawing (hand_of mid) t) i → t < limit_of desk → i ≡ t % desk.manifests → after ≡ taken
      → Did mid taken left → Did new after (record left { marked = left.marked + 1 })
  passed_one mid new taken after left t i hand ticket is same w =
      let saw : (j : ℕ) → times j (hand_of new).seen ≡ times j (hand_of mid).seen + one_where (i == j) = λ j.
      ap (λ (v : Hand). times j v.seen) hand ∙ times_more j i (hand_of mid).seen in
      let now : IsTrue (had_seen new (t % desk.manifests)) = lt-ltb 0 (times (t % desk.manifests) (hand_of new).seen)
      (omega (arith, saw (t % desk.manifests), ap one_where (eq-eqb i (t % desk.manifests) is))) in
      let drew : Drew mid new after t = record {
        drawn = ap (λ (v : Hand). v.drawn) hand;
        saw = λ j was. lt-ltb 0 (times j (hand_of new).seen) (omega (
          arith,
          saw j,
          ltb-true 0 (times j (hand_of mid).seen) was,
        ));
        marks = λ j some. inl (subst (λ (v : Hand). 0 < times j v.marked) hand some);
      } in
      let more = causes_more mid new taken after left t w drew in
      unchanged mid new taken after left (record left { marked = left.marked + 1 }) t w drew same
      (omega (arith, miss_one (nat_lt t (limit_of desk)) (is_row_taken after (t % desk.manifests))))
      (omega (arith, is_one desk t ticket))
      (omega (
        arith,
        so_none (met after new) t
            (or_right (is_row_taken after (t % desk.manifests)) (had_seen new (t % desk.manifests)) now),
      ))
      (record {
        absent = more.absent;
        device = more.device;
        seen = at_least_one (seen_by new) w.tickets left.marked t (ticket, now)
            (still_seen mid new w.tickets left.marked drew.saw w.seen);
      })

  -- a ticket is drawn and served
  pub served_one : (mid drew new : Seat) (taken after : Content) (left : Left) (t i : ℕ) (s : Served)
      → hand_of drew ≡ drawing (hand_of mid) t → t < limit_of desk → i ≡ t % desk.manifests → i < length taken
      → Serves world may_fail scan i drew new taken after s → Did mid taken left → Did new after (counted left s)
  served_one mid drew new taken after left t i served.Taken draws ticket is inside serves w =
      took_one mid new taken after left t i (serves.0 ∙ ap (λ v. marking v i) draws) ticket is inside serves.1
      (λ v ts told h. (add ts i, serves.2 v ts told h)) w
  served_one mid drew new taken after left t i served.Absent draws ticket is inside serves w =
      let alone = drew_alone mid new after t (serves.0.0 ∙ draws) in
      let more = causes_more mid new taken after left t w alone in
      left_one mid new taken after left (record left { absent = left.absent + 1 }) t w alone ticket serves.0.1
      (omega arith) refl (record {
        absent = at_least_one (IsTicketOf desk (Lacks world scan)) w.tickets left.absent t
            (ticket, subst (Lacks world scan) is serves.1) w.absent;
        device = more.device;
        seen = more.seen;
      })
  served_one mid drew new taken after left t i served.Device draws ticket is inside serves w =
      let alone = drew_alone mid new after t (serves.0.0 ∙ draws) in
      let more = causes_more mid new taken after left t w alone in
      left_one mid new taken after left (record left { device = left.device + 1 }) t w alone ticket serves.0.1
      (omega arith) refl (record {
        absent = more.absent;
        device = at_least_one (IsTicketOf desk (MayFailAt may_fail scan)) w.tickets left.device t
            (ticket, subst (MayFailAt may_fail scan) is serves.1) w.device;
        seen = more.seen;
      })
  served_one mid drew new taken after left t i served.Memory draws ticket is inside serves w =
      let alone = drew_alone mid new after t (serves.0 ∙ draws) in
      let more = causes_more mid new taken after left t w alone in
      left_one mid new taken after left (record left { memory = left.memory + 1 }) t w alone ticket serves.1
      (omega arith) refl (record { absent = more.absent; device = more.device; seen = more.seen })
  served_one mid drew new taken after left t i served.Marked draws ticket is inside serves w =
      passed_one mid new taken after left t i (serves.0 ∙ ap (λ v. seeing v i) draws) ticket is serves.1 w

-- a ticket's manifest is one of the desk's
pub index_below : (desk : Desk) (t i : ℕ) → t < limit_of desk → i ≡ t % desk.manifests → i < desk.manifests
index_below desk t i ticket is = ⊎_elim
    (λ some. omega (arith, is, mod_below t desk.manifests some))
    (λ le.
    let empty : limit_of desk ≡ 0 * desk.rounds = ap (λ (n : ℕ). n * desk.rounds) (omega (arith, le)) in
    absurd (omega (arith, ticket, empty)))
    (cases_lt 0 desk.manifests)

-- a worker left no more tickets than it drew
pub left_few : (world : Option World) (may_fail : List ℕ → Type 0) (desk : Desk) (scan : Scanned) (old new : Seat)
    (before after : Content) (left : Left)
    → Worked world may_fail desk scan old new before after left → all_left left ≤ length (hand_of new).drawn
left_few world may_fail desk scan old new before after left w =
    omega (
      arith,
      w.few,
      count_by-le-length (λ t. nat_lt t (limit_of desk)) w.tickets,
      ap length w.drawn ∙ length-append (hand_of old).drawn w.tickets,
    )

pub few_counted : (left : Left) (s : Served) (t : ℕ) → all_left left ≤ t → t + 1 < 2 ^ 32
    → all_left (counted left s) < 2 ^ 32
few_counted left served.Taken t few small = omega (arith, few, small)
few_counted left served.Absent t few small = omega (arith, few, small)
few_counted left served.Device t few small = omega (arith, few, small)
few_counted left served.Memory t few small = omega (arith, few, small)
few_counted left served.Marked t few small = omega (arith, few, small)
