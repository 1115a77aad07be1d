-- Slots and their content.
use Rattle.std.proofs.Common.{◌≡◌, ℕ, zero, suc, List, [], ◌∷◌, ◌++◌, refl, ap, ◌∙◌, Option, Some, None, option_map}
use Rattle.std.proofs.Common.{IfSome, is_some, is_none, replicate, get_or, slice_set, length, ◌<◌, sym, arith, subst}
use Rattle.std.proofs.Common.{◌+◌, ◌^◌}
use Rattle.ice_manifest_reading.specs.declared.entry.Entry.{Entry}
use Rattle.ice_state_entries.specs.Kept.{Kept, AreKept, Keeps as KeepsIn, entry_at, entries_at}
use Rattle.ice_state_entries.specs.declared.entries.EntryNumber.{EntryNumber}
use Rattle.ice_state.specs.declared.kept.ordered.Ordered.{Ordered}
use Rattle.ice_state.specs.declared.kept.taken.Taken.{Taken}
use Rattle.ice_state.specs.declared.kept.taken.Taken.TheVariants as taken
use Rattle.ice_state.specs.Contents.{is_row_taken}
use Rattle.ice_state.specs.Orders.{AreOrdered, IsOrder}
use Rattle.ice_state.specs.Outcomes.{by_path, twice}
use Rattle.ice_state.specs.Readings.{Good}
use Rattle.ice_state.specs.Segments.{AreBefore, Keeps, Segmented, segment_at}
use Rattle.ice_state.specs.Slots.{given, HasNumbers, contents, HaveNumbers, IsIn}
use Rattle.ice_state.proofs.SegmentLists.{length-both, segment_behind}

-- ---- entries that stay

module _ (old new : Kept) (keeps : KeepsIn old new) where
  are_kept : (ns : List EntryNumber) → AreKept old ns → AreKept new ns
  are_kept [] all = tt
  are_kept (n ∷ ns) all = ((keeps n all.0).0, are_kept ns all.1)

  entries_kept : (ns : List EntryNumber) → AreKept old ns → entries_at new ns ≡ entries_at old ns
  entries_kept [] all = refl
  entries_kept (n ∷ ns) all =
      ap (λ (x : Entry). x ∷ entries_at new ns) ((keeps n all.0).1)
      ∙ ap (λ (xs : List Entry). entry_at old n ∷ xs) (entries_kept ns all.1)

  ordered_kept : (ordered : Ordered) → AreOrdered old ordered → AreOrdered new ordered
  ordered_kept ordered all = record {
    numbers = are_kept ordered.numbers all.numbers;
    order = subst (λ (xs : List Entry). IsOrder xs ordered.order) (sym (entries_kept ordered.numbers all.numbers))
        all.order;
    once = λ t. subst (λ (xs : List Entry). twice (by_path xs) ≡ []) (sym (entries_kept ordered.numbers all.numbers))
        (all.once t);
  }

-- the same entries by other numbers
pub ordered_alike : (old new : Kept) (ordered moved : Ordered) (numbers : List EntryNumber) → AreOrdered old ordered
    → AreKept new numbers → entries_at new numbers ≡ entries_at old ordered.numbers → moved.numbers ≡ numbers
    → moved.order ≡ ordered.order → moved.rise ≡ ordered.rise → AreOrdered new moved
ordered_alike old new ordered moved numbers all kept same is order rise = record {
  numbers = subst (AreKept new) (sym is) kept;
  order = rw (is, same, order) all.order;
  once = λ t. rw (is, same) (all.once (sym rise ∙ t));
}

module _ (old new : Segmented) (keeps : Keeps old new) where
  pub given-kept : (t : Taken) → HasNumbers old t → given new t ≡ given old t
  given-kept (taken.Good ordered) all = ap Good (entries_kept (segment_at old ordered.segment)
      (segment_at new ordered.segment) (keeps ordered.segment all.0).1 ordered.numbers all.1.numbers)
  given-kept (taken.Bad fault) all = refl

  pub has-kept : (t : Taken) → HasNumbers old t → HasNumbers new t
  has-kept (taken.Good ordered) all = (
    (keeps ordered.segment all.0).0,
    ordered_kept (segment_at old ordered.segment)
        (segment_at new ordered.segment) (keeps ordered.segment all.0).1 ordered all.1,
  )
  has-kept (taken.Bad fault) all = tt

  pub contents-kept : (ss : List (Option Taken)) → HaveNumbers old ss → contents new ss ≡ contents old ss
  contents-kept [] all = refl
  contents-kept (None ∷ ss) all = ap (λ c. None ∷ c) (contents-kept ss all.1)
  contents-kept (Some t ∷ ss) all =
      ap (λ r. Some r ∷ contents new ss) (given-kept t all.0) ∙ ap (λ c. Some (given old t) ∷ c)
      (contents-kept ss all.1)

  pub have-kept : (ss : List (Option Taken)) → HaveNumbers old ss → HaveNumbers new ss
  have-kept [] all = tt
  have-kept (None ∷ ss) all = (tt, have-kept ss all.1)
  have-kept (Some t ∷ ss) all = (has-kept t all.0, have-kept ss all.1)

-- ---- a slot

module _ (kept : Segmented) where
  pub at-contents : (ss : List (Option Taken)) (i : ℕ) (s : Option Taken) → s ≡ get_or ss i s
      → option_map (given kept) s ≡ get_or (contents kept ss) i (option_map (given kept) s)
  at-contents [] i s h = refl
  at-contents (t ∷ ts) zero s h = ap (option_map (given kept)) h
  at-contents (t ∷ ts) (suc i) s h = at-contents ts i s h

  pub length-contents : (ss : List (Option Taken)) → length (contents kept ss) ≡ length ss
  length-contents [] = refl
  length-contents (s ∷ ss) = ap suc (length-contents ss)

  pub is-some-given : (s : Option Taken) → is_some (option_map (given kept) s) ≡ is_some s
  is-some-given None = refl
  is-some-given (Some t) = refl

  pub is-none-given : (s : Option Taken) → is_none (option_map (given kept) s) ≡ is_none s
  is-none-given None = refl
  is-none-given (Some t) = refl

  pub none-contents : (n : ℕ) → contents kept (replicate n None) ≡ replicate n None
  none-contents zero = refl
  none-contents (suc n) = ap (λ c. None ∷ c) (none-contents n)

  pub none-numbers : (n : ℕ) → HaveNumbers kept (replicate n None)
  none-numbers zero = tt
  none-numbers (suc n) = (tt, none-numbers n)

  pub taken-at : (ss : List (Option Taken)) (i : ℕ) (s : Option Taken) → i < length ss → s ≡ get_or ss i s
      → is_row_taken (contents kept ss) i ≡ is_some s
  taken-at [] i s l h = absurd (omega arith)
  taken-at (t ∷ ts) zero s l h = is-some-given t ∙ ap is_some (sym h)
  taken-at (t ∷ ts) (suc i) s l h = taken-at ts i s (omega arith) h

  pub numbers-at : (ss : List (Option Taken)) (i : ℕ) (s : Option Taken) → s ≡ get_or ss i s → HaveNumbers kept ss
      → IfSome s (HasNumbers kept) → IfSome (get_or ss i s) (HasNumbers kept)
  numbers-at [] i s h all none = none
  numbers-at (t ∷ ts) zero s h all none = all.0
  numbers-at (t ∷ ts) (suc i) s h all none = numbers-at ts i s h all.1 none

  pub set-contents : (ss : List (Option Taken)) (i : ℕ) (t : Taken)
      → contents kept (slice_set ss i (Some t)) ≡ slice_set (contents kept ss) i (Some (given kept t))
  set-contents [] i t = refl
  set-contents (s ∷ ss) zero t = refl
  set-contents (s ∷ ss) (suc i) t = ap (λ c. option_map (given kept) s ∷ c) (set-contents ss i t)

  pub set-numbers : (ss : List (Option Taken)) (i : ℕ) (t : Taken) → HaveNumbers kept ss → HasNumbers kept t
      → HaveNumbers kept (slice_set ss i (Some t))
  set-numbers [] i t all one = tt
  set-numbers (s ∷ ss) zero t all one = (one, all.1)
  set-numbers (s ∷ ss) (suc i) t all one = (all.0, set-numbers ss i t all.1 one)

  -- ---- a slot that is put last

  pub last-contents : (ss : List (Option Taken)) (s : Option Taken)
      → contents kept (ss ++ s ∷ []) ≡ contents kept ss ++ option_map (given kept) s ∷ []
  last-contents [] s = refl
  last-contents (t ∷ ts) s = ap (λ c. option_map (given kept) t ∷ c) (last-contents ts s)

  pub last-numbers : (ss : List (Option Taken)) (s : Option Taken) → HaveNumbers kept ss → IfSome s (HasNumbers kept)
      → HaveNumbers kept (ss ++ s ∷ [])
  last-numbers [] s all one = (one, tt)
  last-numbers (t ∷ ts) s all one = (all.0, last-numbers ts s all.1 one)

  pub but-last-numbers : (ss : List (Option Taken)) (s : Option Taken) → HaveNumbers kept (ss ++ s ∷ [])
      → HaveNumbers kept ss × IfSome s (HasNumbers kept)
  but-last-numbers [] s all = (tt, all.0)
  but-last-numbers (t ∷ ts) s all =
      let rest = but-last-numbers ts s all.1 in
      ((all.0, rest.0), rest.1)

-- ---- segments that are put behind others

module _ (before : ℕ) (firsts kept : Segmented) (are : AreBefore before firsts kept) where
  pub behind_at : (n m : ℕ) → m ≡ n + before → segment_at (firsts ++ kept) m ≡ segment_at kept n
  behind_at n m is =
      let further : m ≡ length firsts + n = omega (arith, is, are.counted) in
      ap (segment_at (firsts ++ kept)) further ∙ segment_behind firsts kept n

  pub is_in_behind : (ordered moved : Ordered) → IsIn kept ordered → moved.segment ≡ ordered.segment + before
      → moved.numbers ≡ ordered.numbers → moved.order ≡ ordered.order → moved.rise ≡ ordered.rise
      → IsIn (firsts ++ kept) moved
  is_in_behind ordered moved all at numbers order rise =
      let within : moved.segment < length (firsts ++ kept) =
      omega (arith, all.0, at, are.counted, length-both firsts kept) in
      let one = behind_at ordered.segment moved.segment at in (
        within,
        record {
          numbers = rw (one, numbers) all.1.numbers;
          order = rw (one, numbers, order) all.1.order;
          once = λ t. rw (one, numbers) (all.1.once (sym rise ∙ t));
        },
      )

  pub given_behind : (ordered moved : Ordered) → moved.segment ≡ ordered.segment + before
      → moved.numbers ≡ ordered.numbers
      → given (firsts ++ kept) (taken.Good moved) ≡ given kept (taken.Good ordered)
  given_behind ordered moved at numbers = rw (behind_at ordered.segment moved.segment at, numbers) refl

  pub few_behind : (n : ℕ) → n < length kept → n + before < 2 ^ 32
  few_behind n l = omega (arith, l, are.counted, are.few, length-both firsts kept)
