-- Pins stand apart.
use Rattle.std.proofs.Common.{◌≡◌, ℕ, zero, suc, true, false, List, [], ◌∷◌, ◌++◌, length, refl, sym, ◌∙◌, ap}
use Rattle.std.specs.Prelude.{◌==◌, cond, slice_set, slice_get, Option, Some, None, Ok, Err}
use Rattle.std.proofs.lemmas.Bool.Decides.{Decides-eqb}
use Rattle.ice_catalog_changes.specs.declared.change.Commit.{Commit}
use Rattle.ice_catalog.specs.declared.event.Event.{Event}
use Rattle.ice_catalog.specs.declared.event.Event.TheVariants as on
use Rattle.ice_catalog.specs.declared.event.Reply.{Reply}
use Rattle.ice_catalog.specs.declared.event.Reply.TheVariants as reply
use Rattle.ice_catalog.specs.Apart.{is_of, alone, pin_after, pin_replies, replies_of_pin}
use Rattle.ice_catalog_versions.specs.Histories.{prepared_on}
use Rattle.ice_catalog.specs.Machines.{Machine, PinnedScan, at_pin, commit, committed, event, finish_at, in_scan}
use Rattle.ice_catalog.specs.Machines.{machine_after, merge, replies_to, take}

-- ---- lists

get_here : {A : Type 0} (i : ℕ) (xs : List A) (x y : A) → slice_get xs i ≡ Some y
    → slice_get (slice_set xs i x) i ≡ Some x
get_here i [] x y e = cc
get_here zero (z ∷ zs) x y e = refl
get_here (suc i) (z ∷ zs) x y e = get_here i zs x y e

get_apart : {A : Type 0} (i j : ℕ) (xs : List A) (x : A) → (i ≡ j → ⊥) → slice_get (slice_set xs i x) j ≡ slice_get xs j
get_apart zero j [] x n = refl
get_apart (suc i) j [] x n = refl
get_apart zero zero (z ∷ zs) x n = absurd (n refl)
get_apart zero (suc j) (z ∷ zs) x n = refl
get_apart (suc i) zero (z ∷ zs) x n = refl
get_apart (suc i) (suc j) (z ∷ zs) x n = get_apart i j zs x (λ e. n (ap suc e))

get_front : {A : Type 0} (i : ℕ) (xs : List A) (x y : A) → slice_get xs i ≡ Some y → slice_get (xs ++ x ∷ []) i ≡ Some y
get_front i [] x y e = cc
get_front zero (z ∷ zs) x y e = e
get_front (suc i) (z ∷ zs) x y e = get_front i zs x y e

pub get_last : {A : Type 0} (xs : List A) (x : A) → slice_get (xs ++ x ∷ []) (length xs) ≡ Some x
get_last [] x = refl
get_last (y ∷ ys) x = get_last ys x

-- ---- one event

committed_pins : (m : Machine) (c : Commit) (r : _) → (committed m c r).1.pins ≡ m.pins
committed_pins m c (Ok s) = refl
committed_pins m c (Err f) = refl

commit_pins : (m : Machine) (base : ℕ) (c : Commit) → (commit m base c).1.pins ≡ m.pins
commit_pins m base c = elim (base == length m.history.journal) as
    (λ b. (cond b (committed m c (prepared_on m.history c)) (reply.Conflict (length m.history.journal), m)).1.pins
    ≡ m.pins) [
      | true ↦ committed_pins m c (prepared_on m.history c)
      | false ↦ refl
    ]

module _ (m : Machine) (k : ℕ) (s : Option PinnedScan) (at : slice_get m.pins k ≡ Some s) where
  own_step : (pin : ℕ) (f : PinnedScan → Reply × PinnedScan) → (pin == k) ≡ true
      → ((at_pin m pin f (slice_get m.pins pin)).0 ≡ (in_scan f s).0) ×
      (slice_get (at_pin m pin f (slice_get m.pins pin)).1.pins k ≡ Some (in_scan f s).1)
  own_step pin f is =
      let same : pin ≡ k = (Decides-eqb pin k).0 is in
      let there : slice_get m.pins pin ≡ Some s = ap (slice_get m.pins) same ∙ at in (
        ap (λ o. (at_pin m pin f o).0) there,
        ap (λ o. slice_get (at_pin m pin f o).1.pins k) there ∙
            (ap (λ j. slice_get (slice_set m.pins pin (in_scan f s).1) j) (sym same) ∙ get_here pin m.pins
            (in_scan f s).1 s there),
      )

  other_at : (pin : ℕ) (f : PinnedScan → Reply × PinnedScan) (o : Option (Option PinnedScan)) → (pin ≡ k → ⊥)
      → slice_get (at_pin m pin f o).1.pins k ≡ Some s
  other_at pin f None n = at
  other_at pin f (Some t) n = get_apart pin k m.pins (in_scan f t).1 n ∙ at

  other_step : (pin : ℕ) (f : PinnedScan → Reply × PinnedScan) → (pin == k) ≡ false
      → slice_get (at_pin m pin f (slice_get m.pins pin)).1.pins k ≡ Some s
  other_step pin f is = other_at pin f (slice_get m.pins pin) (λ e. let h = (Decides-eqb pin k).1 e in cc)

  own : (e : Event) → is_of k e ≡ true → ((event m e).0 ≡ (alone s e).0) × (slice_get (event m e).1.pins k ≡ Some
      (alone s e).1)
  own (on.Pin filter) is = cc
  own (on.Commit base change ids) is = cc
  own (on.Take pin w i) is = own_step pin (λ p. take p w i) is
  own (on.Merge pin into from) is = own_step pin (λ p. merge p into from) is
  own (on.Finish pin w) is =
      let same : pin ≡ k = (Decides-eqb pin k).0 is in
      (ap (λ o. finish_at o w) (ap (slice_get m.pins) same ∙ at), at)

  other : (e : Event) → is_of k e ≡ false → slice_get (event m e).1.pins k ≡ Some s
  other (on.Pin filter) is = get_front k m.pins _ s at
  other (on.Commit base change ids) is = ap (λ ps. slice_get ps k) (commit_pins m base (record {
    change = change;
    ids = ids;
  })) ∙ at
  other (on.Take pin w i) is = other_step pin (λ p. take p w i) is
  other (on.Merge pin into from) is = other_step pin (λ p. merge p into from) is
  other (on.Finish pin w) is = at

-- ---- all events

pub stand_apart : (m : Machine) (k : ℕ) (s : Option PinnedScan) (es : List Event) → slice_get m.pins k ≡ Some s
    → replies_of_pin k es (replies_to m es) ≡ pin_replies k s es
stand_apart m k s [] at = refl
stand_apart m k s (e ∷ es) at =
    let rest = replies_of_pin k es (replies_to (event m e).1 es) in
    elim (is_of k e) as (λ b. is_of k e ≡ b → cond b ((event m e).0 ∷ rest) rest ≡ cond b ((alone s e).0 ∷ pin_replies k
    (alone s e).1 es) (pin_replies k s es)) [
      | true ↦ λ is. let h = own m k s at e is in λ i. h.0 i ∷ stand_apart (event m e).1 k (alone s e).1 es h.1 i
      | false ↦ λ is. stand_apart (event m e).1 k s es (other m k s at e is)
    ] refl

pub after_apart : (m : Machine) (k : ℕ) (s : Option PinnedScan) (es : List Event) → slice_get m.pins k ≡ Some s
    → slice_get (machine_after m es).pins k ≡ Some (pin_after k s es)
after_apart m k s [] at = at
after_apart m k s (e ∷ es) at =
    elim (is_of k e) as (λ b. is_of k e ≡ b → slice_get (machine_after (event m e).1 es).pins k ≡ Some
    (cond b (pin_after k (alone s e).1 es) (pin_after k s es))) [
      | true ↦ λ is. after_apart (event m e).1 k (alone s e).1 es (own m k s at e is).1
      | false ↦ λ is. after_apart (event m e).1 k s es (other m k s at e is)
    ] refl
