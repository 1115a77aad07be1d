-- Of two lists the same things may be left out where both have them: nothing else is told then.
use Rattle.std.proofs.Common.{◌≡◌, ℕ, Bool, true, false, List, [], ◌∷◌, ◌++◌, map, filter, cond, refl, sym, ap, subst}
use Rattle.std.proofs.Common.{◌∙◌, inl, inr}
use Rattle.std.specs.Cmp.Lexicographic.{slice_cmp}
use Rattle.std.specs.List.{Contains}
use Rattle.std.specs.Ordering.{nat_cmp, is_eq, ordering_reverse}
use Rattle.std.specs.Str.{bytes_eq}
use Rattle.std.specs.declared.cmp.Ordering.{Ordering}
use Rattle.std.specs.declared.cmp.Ordering.TheVariants.{Less, Equal, Greater}
use Rattle.std.proofs.lemmas.Cmp.{nat_list_cmp_total, tied_itself}
use Rattle.std.proofs.lemmas.Map.Text.{is_eq-slice_cmp}
use Rattle.std.proofs.lemmas.Slice.Eq.{bytes_eq-Decides}
use Rattle.icescan_changes.specs.Walks.{Above, Rises, walked}
use Rattle.ice_state.proofs.Elements.{contains_more}
use Rattle.ice_state_laws.proofs.Lists.{at_head, first_or_behind, in_none}

one : (p q : List ℕ) → slice_cmp nat_cmp p q ≡ Equal → p ≡ q
one p q h = (bytes_eq-Decides p q).0 (sym (is_eq-slice_cmp p q) ∙ ap is_eq h)

-- the same order, seen from the other path
turned : (p q : List ℕ) → slice_cmp nat_cmp p q ≡ Greater → slice_cmp nat_cmp q p ≡ Less
turned p q h = nat_list_cmp_total.antisymm q p ∙ ap ordering_reverse h

turned_back : (p q : List ℕ) → slice_cmp nat_cmp q p ≡ Less → slice_cmp nat_cmp p q ≡ Greater
turned_back p q h = nat_list_cmp_total.antisymm p q ∙ ap ordering_reverse h

-- no path is less than itself
never_less : (p : List ℕ) → slice_cmp nat_cmp p p ≡ Less → ⊥
never_less p h = let clash : Equal ≡ Less = sym (tied_itself nat_list_cmp_total p) ∙ h in absurd cc

pub kept_or_not : (b : Bool) → (b ≡ false → ⊥) → b ≡ true
kept_or_not true h = refl
kept_or_not false h = absurd (h refl)

module _ {X C : Type 0} (path : X → List ℕ) (removed added : X → C) (both : X → X → List C) where
  abbrev is_above : List ℕ → List X → Type 0
  is_above p xs = Above path removed added both p xs

  pub above_each : (p : List ℕ) (xs : List X) (x : X) → is_above p xs → Contains xs x
      → slice_cmp nat_cmp p (path x) ≡ Less
  above_each p [] x h c = absurd (in_none x c)
  above_each p (y ∷ ys) x h c = elim (first_or_behind y x ys c) as (λ _. slice_cmp nat_cmp p (path x) ≡ Less) [
    | inl e ↦ subst (λ z. slice_cmp nat_cmp p (path z) ≡ Less) e h.0
    | inr m ↦ above_each p ys x h.1 m
  ]

  above_through : (p q : List ℕ) (xs : List X) → slice_cmp nat_cmp p q ≡ Less → is_above q xs → is_above p xs
  above_through p q [] l h = tt
  above_through p q (x ∷ xs) l h = (nat_list_cmp_total.trans p q (path x) l h.0, above_through p q xs l h.1)

  module _ (keep : X → Bool) (by_path : (x y : X) → path x ≡ path y → keep x ≡ keep y)
      (nothing : (x : X) → both x x ≡ []) where
    abbrev rises : List X → Type 0
    rises xs = Rises path removed added both xs

    abbrev walk : List X → List X → List C
    walk xs ys = walked path removed added both xs ys

    -- what is left out of a list is in the other
    abbrev pub AreIn : List X → List X → Type 0
    AreIn [] ys = Unit {0}
    AreIn (x ∷ xs) ys = (keep x ≡ false → Contains ys x) × AreIn xs ys

    above_if : (p : List ℕ) (y : X) (l : List X) (b : Bool) → slice_cmp nat_cmp p (path y) ≡ Less → is_above p l
        → is_above p (cond b (y ∷ l) l)
    above_if p y l true h k = (h, k)
    above_if p y l false h k = k

    above_kept : (p : List ℕ) (xs : List X) → is_above p xs → is_above p (filter keep xs)
    above_kept p [] h = tt
    above_kept p (y ∷ ys) h = above_if p y (filter keep ys) (keep y) h.0 (above_kept p ys h.1)

    -- what is in a list and stands behind its first thing is in the rest of it
    behind_first : (b : X) (bs xs : List X) → is_above (path b) xs → AreIn xs (b ∷ bs) → AreIn xs bs
    behind_first b bs [] above h = tt
    behind_first b bs (x ∷ xs) above h = (
      λ out. elim (first_or_behind b x bs (h.0 out)) as (λ _. Contains bs x) [
        | inl e ↦ absurd (never_less (path b) (subst (λ z. slice_cmp nat_cmp (path b) (path z) ≡ Less) (sym e) above.0))
        | inr m ↦ m
      ],
      behind_first b bs xs above.1 h.1,
    )

    -- a thing that the other list lacks is kept
    is_kept : (x : X) (ys : List X) → is_above (path x) ys → (keep x ≡ false → Contains ys x) → keep x ≡ true
    is_kept x ys above h = kept_or_not (keep x) (λ out. never_less (path x) (above_each (path x) ys x above (h out)))

    first_earlier : (a : X) (us zs : List X) → is_above (path a) zs → walk (a ∷ us) zs ≡ removed a ∷ walk us zs
    first_earlier a us [] h = refl
    first_earlier a us (z ∷ zs) h = rw h.0 refl

    first_later : (b : X) (xs bs : List X) → is_above (path b) xs → walk xs (b ∷ bs) ≡ added b ∷ walk xs bs
    first_later b [] bs h = refl
    first_later b (a ∷ us) bs h = rw (turned_back (path a) (path b) h.0) refl

    kept_first : (x : X) (xs : List X) → keep x ≡ true → filter keep (x ∷ xs) ≡ x ∷ filter keep xs
    kept_first x xs is = rw is refl

    out_first : (x : X) (xs : List X) → keep x ≡ false → filter keep (x ∷ xs) ≡ filter keep xs
    out_first x xs is = rw is refl

    out_of_later : (ys : List X) → AreIn ys [] → walk [] (filter keep ys) ≡ walk [] ys
    out_of_later [] h = refl
    out_of_later (y ∷ ys) h =
        ap (λ (l : List X). map added l) (kept_first y ys (is_kept y [] tt h.0))
        ∙ ap (λ (cs : List C). added y ∷ cs) (out_of_later ys h.1)

    -- the first things of both lists have one path
    tied : (a b : X) (us bs : List X) → slice_cmp nat_cmp (path a) (path b) ≡ Equal → is_above (path a) bs
        → (keep a ≡ false → Contains (b ∷ bs) a) → walk (filter keep us) (filter keep bs) ≡ walk us bs
        → walk (filter keep (a ∷ us)) (filter keep (b ∷ bs)) ≡ walk (a ∷ us) (b ∷ bs)
    tied a b us bs is above has rest = cases (keep a) refl where
      same : keep a ≡ keep b
      same = by_path a b (one (path a) (path b) is)

      equal : Contains (b ∷ bs) a → b ≡ a
      equal c = elim (first_or_behind b a bs c) as (λ _. b ≡ a) [
        | inl e ↦ e
        | inr m ↦ absurd (never_less (path a) (above_each (path a) bs a above m))
      ]

      cases : (t : Bool) → keep a ≡ t → walk (filter keep (a ∷ us)) (filter keep (b ∷ bs)) ≡ walk (a ∷ us) (b ∷ bs)
      cases true k =
          rw (kept_first a us k, kept_first b bs (sym same ∙ k), is) (ap (λ (cs : List C). both a b ++ cs) rest)
      cases false k =
          let none : both a b ≡ [] = subst (λ (x : X). both a x ≡ []) (sym (equal (has k))) (nothing a) in
          rw (out_first a us k, out_first b bs (sym same ∙ k), is, none) rest

    out_from : (a : X) (us : List X) → is_above (path a) us
        → ((ys : List X) → rises ys → AreIn us ys → AreIn ys us
        → walk (filter keep us) (filter keep ys) ≡ walk us ys)
        → (ys : List X) → rises ys → AreIn (a ∷ us) ys → AreIn ys (a ∷ us)
        → walk (filter keep (a ∷ us)) (filter keep ys) ≡ walk (a ∷ us) ys
    out_from a us above behind [] k h back =
        ap (λ (l : List X). walk l []) (kept_first a us (is_kept a [] tt h.0))
        ∙ ap (λ (cs : List C). removed a ∷ cs) (behind [] tt h.1 tt)
    out_from a us above behind (b ∷ bs) k h back =
        cases (out_from a us above behind bs k.1) (slice_cmp nat_cmp (path a) (path b)) refl where
          cases : (AreIn (a ∷ us) bs → AreIn bs (a ∷ us)
              → walk (filter keep (a ∷ us)) (filter keep bs) ≡ walk (a ∷ us) bs) → (o : Ordering)
              → slice_cmp nat_cmp (path a) (path b) ≡ o
              → walk (filter keep (a ∷ us)) (filter keep (b ∷ bs)) ≡ walk (a ∷ us) (b ∷ bs)
          cases next Less is =
              let below : is_above (path a) (b ∷ bs) = (is, above_through (path a) (path b) bs is k.0) in
              ap (λ (l : List X). walk l (filter keep (b ∷ bs))) (kept_first a us (is_kept a (b ∷ bs) below h.0))
              ∙ first_earlier a (filter keep us) (filter keep (b ∷ bs)) (above_kept (path a) (b ∷ bs) below)
              ∙ ap (λ (cs : List C). removed a ∷ cs) (behind (b ∷ bs) k h.1 (behind_first a us (b ∷ bs) below back))
              ∙ sym (first_earlier a us (b ∷ bs) below)
          cases next Equal is =
              let same : path a ≡ path b = one (path a) (path b) is in
              let above_bs : is_above (path a) bs = subst (λ q. is_above q bs) (sym same) k.0 in
              tied a b us bs is above_bs h.0 (behind bs k.1
              (behind_first b bs us (subst (λ q. is_above q us) same above) h.1)
              (behind_first a us bs above_bs back.1))
          cases next Greater is =
              let less = turned (path a) (path b) is in
              let below : is_above (path b) (a ∷ us) = (less, above_through (path b) (path a) us less above) in
              ap (λ (l : List X). walk (filter keep (a ∷ us)) l) (kept_first b bs (is_kept b (a ∷ us) below back.0))
              ∙ first_later b (filter keep (a ∷ us)) (filter keep bs) (above_kept (path b) (a ∷ us) below)
              ∙ ap (λ (cs : List C). added b ∷ cs) (next (behind_first b bs (a ∷ us) below h) back.1)
              ∙ sym (first_later b (a ∷ us) bs below)

    pub left_out : (xs ys : List X) → rises xs → rises ys → AreIn xs ys → AreIn ys xs
        → walk (filter keep xs) (filter keep ys) ≡ walk xs ys
    left_out [] ys r s h back = out_of_later ys back
    left_out (a ∷ us) ys r s h back = out_from a us r.0 (λ zs t i b. left_out us zs r.1 t i b) ys s h back

    pub are_in : (xs ys : List X) → ((x : X) → Contains xs x → keep x ≡ false → Contains ys x) → AreIn xs ys
    are_in [] ys h = tt
    are_in (x ∷ xs) ys h = (h x (at_head x xs), are_in xs ys (λ y c. h y (contains_more x y xs c)))
