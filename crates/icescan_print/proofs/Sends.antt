-- Lemmas on what was sent, piece by piece.
use Rattle.std.proofs.lemmas.List.Sums.{sum_by-cons}
use Rattle.std.proofs.Common.{◌≡◌, ◌<◌, ◌≤◌, ◌+◌, ℕ, zero, suc, List, [], ◌∷◌, ◌++◌, arith, get_or, length, map, take}
use Rattle.std.proofs.Common.{drop, slice_get, Option, Some, None, Result, Ok, Err, refl, sym, ap, subst, ◌∙◌}
use Rattle.std.proofs.Common.{append_assoc}
use Rattle.std.specs.List.{AllByRecursion, flat_map}
use Rattle.std.specs.Prelude.{ℤ, pos, sum_by}
use Rattle.std.specs.Fmt.{signed_decimal}
use Rattle.ice_state.specs.Lines.{LacksDeletes, OwnedLine}
use Rattle.icescan_print.specs.PlanTexts.{deletes_of, ids_text}
use Rattle.std.proofs.lemmas.List.{append-nil, take_all}
use Rattle.icescan_print.specs.declared.sink.SinkFault.{SinkFault}
use Rattle.std.specs.Result.{IsErr}
use Rattle.icescan_print.proofs.Writes.{appends_both, front_after, front_before}
use Rattle.icescan_print.specs.Written.{Appends, AppendsFront, Sent, Wrote}

joined : (s t p q r xs ys : List ℕ) → s ++ q ≡ p ++ xs → t ++ r ≡ q ++ ys → (s ++ t) ++ r ≡ p ++ (xs ++ ys)
joined s t p q r xs ys h k = append_assoc s t r ∙ ap (λ l. s ++ l) k ∙ sym (append_assoc s q ys) ∙ ap (λ l. l ++ ys) h
    ∙ append_assoc p xs ys

owed : (s p q xs ys : List ℕ) → s ++ q ≡ p ++ xs → s ++ (q ++ ys) ≡ p ++ (xs ++ ys)
owed s p q xs ys h = sym (append_assoc s q ys) ∙ ap (λ l. l ++ ys) h ∙ append_assoc p xs ys

appends_nothing : (o : Option (List ℕ)) → Appends o o []
appends_nothing None = tt
appends_nothing (Some x) = ap Some (sym (append-nil x))

module _ {X : Type 0} (taken : X → Option (List ℕ)) (may_fail : X → Type 0) where
  -- a text after one that was sent
  pub sent_more : (a b c : X) (p q r : List ℕ) (u : Unit) (e : Result Unit SinkFault) (xs ys : List ℕ)
      → Sent taken may_fail a p (Ok u) b q xs → Sent taken may_fail b q e c r ys
      → Sent taken may_fail a p e c r (xs ++ ys)
  sent_more a b c p q r u (Ok v) xs ys h k =
      let s = h.all in
      let t = k.all in
      record {
        all = (s.0 ++ t.0, appends_both _ _ _ s.0 t.0 s.1 t.1, joined s.0 t.0 p q r xs ys s.2 t.2);
        front = tt;
        cause = tt;
        still = λ m. h.still (k.still m);
      }
  sent_more a b c p q r u (Err e) xs ys h k =
      let s = h.all in
      record {
        all = tt;
        front = subst (λ l. AppendsFront (taken a) (taken c) l) (owed s.0 p q xs ys s.2)
            (front_after _ _ _ s.0 (q ++ ys) s.1 k.front);
        cause = h.still k.cause;
        still = λ m. h.still (k.still m);
      }

  -- a failure in the first of two texts
  pub sent_less : (a b : X) (p q q' : List ℕ) (e : SinkFault) (r : Result Unit SinkFault) (xs ys : List ℕ) → IsErr r
      → Sent taken may_fail a p (Err e) b q xs → Sent taken may_fail a p r b q' (xs ++ ys)
  sent_less a b p q q' e (Ok u) xs ys f h = cc
  sent_less a b p q q' e (Err d) xs ys f h = record {
    all = tt;
    front = rw (← append_assoc) (front_before _ _ (p ++ xs) ys h.front);
    cause = h.cause;
    still = h.still;
  }

  -- one failure is as good as another
  pub sent_fails : (a b : X) (p q q' : List ℕ) (e : SinkFault) (r : Result Unit SinkFault) (xs : List ℕ) → IsErr r
      → Sent taken may_fail a p (Err e) b q xs → Sent taken may_fail a p r b q' xs
  sent_fails a b p q q' e (Ok u) xs f h = cc
  sent_fails a b p q q' e (Err d) xs f h = record { all = tt; front = h.front; cause = h.cause; still = h.still }

  -- nothing sent yet
  pub sent_none : (a : X) (p : List ℕ) (u : Unit) → Sent taken may_fail a p (Ok u) a p []
  sent_none a p u = record
      { all = ([], appends_nothing (taken a), sym (append-nil p)); front = tt; cause = tt; still = λ m. m }

  -- a piece that waits
  pub sent_kept : (a : X) (p xs : List ℕ) (u : Unit) → Sent taken may_fail a p (Ok u) a (p ++ xs) xs
  sent_kept a p xs u = record { all = ([], appends_nothing (taken a), refl); front = tt; cause = tt; still = λ m. m }

  -- a piece that waits where all before it was written
  pub sent_first : (a b : X) (p xs : List ℕ) (u v : Unit) → Wrote taken may_fail a (Ok u) b p
      → Sent taken may_fail a p (Ok v) b xs xs
  sent_first a b p xs u v h = record { all = (p, h.all, refl); front = tt; cause = tt; still = h.still }

  -- a piece that was written where all before it was
  pub sent_through : (a b c : X) (p xs : List ℕ) (u : Unit) (r : Result Unit SinkFault)
      → Wrote taken may_fail a (Ok u) b p → Wrote taken may_fail b r c xs → Sent taken may_fail a p r c [] xs
  sent_through a b c p xs u (Ok v) h k = record {
    all = (p ++ xs, appends_both _ _ _ p xs h.all k.all, append-nil (p ++ xs));
    front = tt;
    cause = tt;
    still = λ m.
        h.still (k.still m);
  }
  sent_through a b c p xs u (Err e) h k = record {
    all = tt;
    front = front_after _ _ _ p xs h.all k.front;
    cause = h.still k.cause;
    still = λ m. h.still
        (k.still m);
  }

  -- a piece before which a write failed
  pub sent_stops : (a b : X) (p q xs : List ℕ) (e : SinkFault) (r : Result Unit SinkFault) → IsErr r
      → Wrote taken may_fail a (Err e) b p → Sent taken may_fail a p r b q xs
  sent_stops a b p q xs e (Ok u) f h = cc
  sent_stops a b p q xs e (Err d) f h = record
      { all = tt; front = front_before _ _ p xs h.front; cause = h.cause; still = h.still }

  -- what was sent from an empty page, and then what waited
  pub wrote_all_sent : (a b c : X) (p xs : List ℕ) (u : Unit) (r : Result Unit SinkFault)
      → Sent taken may_fail a [] (Ok u) b p xs → Wrote taken may_fail b r c p → Wrote taken may_fail a r c xs
  wrote_all_sent a b c p xs u (Ok v) h k = let s = h.all in record {
    all = subst (λ l. Appends (taken a) (taken c) l) s.2 (appends_both _ _ _ s.0 p s.1 k.all);
    front = tt;
    cause =
        tt;
    still = λ m. h.still (k.still m);
  }
  wrote_all_sent a b c p xs u (Err e) h k = let s = h.all in record {
    all = tt;
    front = subst (λ l. AppendsFront (taken a) (taken c) l) s.2 (front_after _ _ _ s.0 p s.1 k.front);
    cause = h.still k.cause;
    still = λ m. h.still (k.still m);
  }

-- the texts of the first of some things, one after another, and of one more
pub flat_next : {X : Type 0} (f : X → List ℕ) (xs : List X) (i : ℕ) (x : X) → slice_get xs i ≡ Some x
    → flat_map f (take (suc i) xs) ≡ flat_map f (take i xs) ++ f x
flat_next f [] i x h = absurd cc
flat_next f (y ∷ ys) zero x h = let e : y ≡ x = cc in rw e (append-nil (f x))
flat_next f (y ∷ ys) (suc i) x h = ap (λ l. f y ++ l) (flat_next f ys i x h)
    ∙ sym (append_assoc (f y) (flat_map f (take i ys)) (f x))

-- the texts of all, cut at one of them
pub flat_cut : {X : Type 0} (f : X → List ℕ) (xs : List X) (i : ℕ) (x : X) → slice_get xs i ≡ Some x → flat_map f xs
    ≡ flat_map f (take i xs) ++ (f x ++ flat_map f (drop (suc i) xs))
flat_cut f [] i x h = absurd cc
flat_cut f (y ∷ ys) zero x h = let e : y ≡ x = cc in rw e refl
flat_cut f (y ∷ ys) (suc i) x h = ap (λ l. f y ++ l) (flat_cut f ys i x h)
    ∙ sym (append_assoc (f y) (flat_map f (take i ys)) (f x ++ flat_map f (drop (suc i) ys)))

pub flat_all : {X : Type 0} (f : X → List ℕ) (xs : List X) (i : ℕ) → length xs ≤ i → flat_map f (take i xs)
    ≡ flat_map f xs
flat_all f xs i h = ap (flat_map f) (take_all i xs h)

-- the sum over the first of some things, and over one more
pub sum_next : {X : Type 0} (f : X → ℕ) (xs : List X) (i : ℕ) (x : X) → slice_get xs i ≡ Some x
    → sum_by f (take (suc i) xs) ≡ sum_by f (take i xs) + f x
sum_next f [] i x h = absurd cc
sum_next f (y ∷ ys) zero x h = let e : y ≡ x = cc in rw e (omega arith)
sum_next f (y ∷ ys) (suc i) x h = omega
    (arith, sum_by-cons f y (take (suc i) ys), sum_by-cons f y (take i ys), sum_next f ys i x h)

-- lines without delete files have none together
pub none_counted : (lines : List OwnedLine) → AllByRecursion LacksDeletes lines → 0 ≡ sum_by deletes_of lines
none_counted [] all = refl
none_counted (l ∷ ls) all =
    omega (arith, sum_by-cons deletes_of l ls, ap length all.0.0, ap length all.0.1, none_counted ls all.1)

-- the number that stands at a place
pub number_at : (xs : List ℤ) (i : ℕ) → i < length xs → slice_get xs i ≡ Some (get_or xs i (pos 0))
number_at [] i l = absurd (omega arith)
number_at (x ∷ xs) zero l = refl
number_at (x ∷ xs) (suc i) l = number_at xs i (omega arith)

-- the first id, and those behind it
pub ids_first : (ids : List ℤ) → 1 ≤ length ids → ids_text ids ≡ signed_decimal (get_or ids 0 (pos 0))
    ++ flat_map (λ i. 44 ∷ signed_decimal i) (drop 1 ids)
ids_first [] l = absurd (omega arith)
ids_first (x ∷ xs) l = refl

-- the texts of what some things refer to
pub flat_map-map : {X Y : Type 0} (f : Y → List ℕ) (g : X → Y) (xs : List X) → flat_map f (map g xs)
    ≡ flat_map (λ x. f (g x)) xs
flat_map-map f g [] = refl
flat_map-map f g (x ∷ xs) = ap (λ l. f (g x) ++ l) (flat_map-map f g xs)

-- what stands at a place
pub stands_at : {X : Type 0} (xs : List X) (i : ℕ) (x : X) → i < length xs → x ≡ get_or xs i x → slice_get xs i ≡ Some x
stands_at [] i x l h = absurd (omega arith)
stands_at (y ∷ ys) zero x l h = ap Some (sym h)
stands_at (y ∷ ys) (suc i) x l h = stands_at ys i x (omega arith) h
