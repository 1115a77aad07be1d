-- What a walk tells of a path is what the two lists say of it.
use Rattle.std.proofs.Common.{◌≡◌, ℕ, Bool, true, false, List, [], ◌∷◌, ◌++◌, map, refl, sym, ap, subst, ◌∙◌, append-nil}
use Rattle.std.proofs.Common.{Option, None}
use Rattle.std.specs.Cmp.Lexicographic.{slice_cmp}
use Rattle.std.specs.List.{AllByRecursion}
use Rattle.std.specs.Ordering.{nat_cmp, is_eq, ordering_reverse}
use Rattle.std.specs.Str.{bytes_eq}
use Rattle.std.specs.declared.cmp.Ordering.{Ordering}
use Rattle.std.specs.declared.cmp.Ordering.TheVariants.{Less, Equal, Greater}
use Rattle.std.proofs.lemmas.Cmp.{nat_list_cmp_total}
use Rattle.std.proofs.lemmas.Map.Text.{is_eq-slice_cmp}
use Rattle.std.proofs.lemmas.Slice.Eq.{bytes_eq-Decides}
use Rattle.icescan_changes.specs.Walks.{Above, Rises, about_path, at, told_by, walked}

apart : (p q : List ℕ) → slice_cmp nat_cmp p q ≡ Less → bytes_eq p q ≡ false
apart p q h = sym (is_eq-slice_cmp p q) ∙ ap is_eq h

one : (p q : List ℕ) → slice_cmp nat_cmp p q ≡ Equal → p ≡ q
one p q h = (bytes_eq-Decides p q).0 (sym (is_eq-slice_cmp p q) ∙ ap is_eq h)

pub turned : (p q : List ℕ) → slice_cmp nat_cmp p q ≡ Greater → slice_cmp nat_cmp q p ≡ Less
turned p q h = nat_list_cmp_total.antisymm q p ∙ ap ordering_reverse h

-- what stands before the first of some paths stands before them all
pub above_through : {X C : Type 0} (path : X → List ℕ) (removed added : X → C) (both : X → X → List C) (p q : List ℕ)
    (xs : List X) → slice_cmp nat_cmp p q ≡ Less → Above path removed added both q xs
    → Above path removed added both p xs
above_through path removed added both p q [] l h = tt
above_through path removed added both p q (x ∷ xs) l h =
    (nat_list_cmp_total.trans p q (path x) l h.0, above_through path removed added both p q xs l h.1)

module _ {X C : Type 0} (path : X → List ℕ) (removed added : X → C) (both : X → X → List C) (about : C → List ℕ)
    (of_removed : (x : X) → about (removed x) ≡ path x) (of_added : (x : X) → about (added x) ≡ path x)
    (of_both : (x y : X) → path x ≡ path y → AllByRecursion (λ c. about c ≡ path x) (both x y)) where
  abbrev is_above : List ℕ → List X → Type 0
  is_above p xs = Above path removed added both p xs

  abbrev here : List X → List ℕ → Option X
  here xs p = at path removed added both xs p

  abbrev told : Option X → Option X → List C
  told a b = told_by path removed added both a b

  abbrev only : List ℕ → List C → List C
  only p cs = about_path path removed added both about p cs

  abbrev walk : List X → List X → List C
  walk xs ys = walked path removed added both xs ys

  none_above : (p : List ℕ) (xs : List X) → is_above p xs → here xs p ≡ None
  none_above p [] h = refl
  none_above p (x ∷ xs) h = rw (apart p (path x) h.0) (none_above p xs h.1)

  -- a list is told of after its first thing, whose path no other has
  removed_first : (p : List ℕ) (a : X) (us ys : List X) (rest : List C) → is_above (path a) us → is_above (path a) ys
      → only p rest ≡ told (here us p) (here ys p) → only p (removed a ∷ rest) ≡ told (here (a ∷ us) p) (here ys p)
  removed_first p a us ys rest above below ih = cases (bytes_eq p (path a)) refl where
    cases : (t : Bool) → bytes_eq p (path a) ≡ t → only p (removed a ∷ rest) ≡ told (here (a ∷ us) p) (here ys p)
    cases true is =
        let same : p ≡ path a = (bytes_eq-Decides p (path a)).0 is in
        let no = none_above p us (subst (λ q. is_above q us) (sym same) above) in
        let nor = none_above p ys (subst (λ q. is_above q ys) (sym same) below) in
        let rest_is : only p rest ≡ [] = ih ∙ rw (no, nor) refl in
        rw (of_removed a, is, nor) (ap (λ (cs : List C). removed a ∷ cs) rest_is)
    cases false is = rw (of_removed a, is) ih

  added_first : (p : List ℕ) (xs : List X) (b : X) (bs : List X) (rest : List C) → is_above (path b) xs
      → is_above (path b) bs
      → only p rest ≡ told (here xs p) (here bs p) → only p (added b ∷ rest) ≡ told (here xs p) (here (b ∷ bs) p)
  added_first p xs b bs rest below above ih = cases (bytes_eq p (path b)) refl where
    cases : (t : Bool) → bytes_eq p (path b) ≡ t → only p (added b ∷ rest) ≡ told (here xs p) (here (b ∷ bs) p)
    cases true is =
        let same : p ≡ path b = (bytes_eq-Decides p (path b)).0 is in
        let no = none_above p bs (subst (λ q. is_above q bs) (sym same) above) in
        let nor = none_above p xs (subst (λ q. is_above q xs) (sym same) below) in
        let rest_is : only p rest ≡ [] = ih ∙ rw (no, nor) refl in
        rw (of_added b, is, nor) (ap (λ (cs : List C). added b ∷ cs) rest_is)
    cases false is = rw (of_added b, is) ih

  -- what is all about one path
  all_kept : (p q : List ℕ) (cs rest : List C) → AllByRecursion (λ c. about c ≡ q) cs → bytes_eq p q ≡ true
      → only p (cs ++ rest) ≡ cs ++ only p rest
  all_kept p q [] rest all is = refl
  all_kept p q (c ∷ cs) rest all is =
      rw (all.0, is) (ap (λ (l : List C). c ∷ l) (all_kept p q cs rest all.1 is))

  none_kept : (p q : List ℕ) (cs rest : List C) → AllByRecursion (λ c. about c ≡ q) cs → bytes_eq p q ≡ false
      → only p (cs ++ rest) ≡ only p rest
  none_kept p q [] rest all is = refl
  none_kept p q (c ∷ cs) rest all is = rw (all.0, is) (none_kept p q cs rest all.1 is)

  both_first : (p : List ℕ) (a b : X) (us bs : List X) (rest : List C) → path a ≡ path b → is_above (path a) us
      → is_above (path b) bs → only p rest ≡ told (here us p) (here bs p)
      → only p (both a b ++ rest) ≡ told (here (a ∷ us) p) (here (b ∷ bs) p)
  both_first p a b us bs rest same above above' ih = cases (bytes_eq p (path a)) refl where
    cases : (t : Bool) → bytes_eq p (path a) ≡ t
        → only p (both a b ++ rest) ≡ told (here (a ∷ us) p) (here (b ∷ bs) p)
    cases true is =
        let one : p ≡ path a = (bytes_eq-Decides p (path a)).0 is in
        let other : bytes_eq p (path b) ≡ true = subst (λ q. bytes_eq p q ≡ true) same is in
        let no = none_above p us (subst (λ q. is_above q us) (sym one) above) in
        let nor = none_above p bs (subst (λ q. is_above q bs) (sym (one ∙ same)) above') in
        let rest_is : only p rest ≡ [] = ih ∙ rw (no, nor) refl in
        all_kept p (path a) (both a b) rest (of_both a b same) is
        ∙ rw (is, other, rest_is) (append-nil (both a b))
    cases false is =
        let other : bytes_eq p (path b) ≡ false = subst (λ q. bytes_eq p q ≡ false) same is in
        none_kept p (path a) (both a b) rest (of_both a b same) is ∙ rw (is, other) ih

  -- ---- the whole walk

  abbrev rises : List X → Type 0
  rises xs = Rises path removed added both xs

  meant_added : (p : List ℕ) (ys : List X) → rises ys → only p (map added ys) ≡ told None (here ys p)
  meant_added p [] h = refl
  meant_added p (b ∷ bs) h = added_first p [] b bs (map added bs) tt h.0 (meant_added p bs h.1)

  -- a walk from a first thing of the earlier list on, where what is behind it is known
  meant_from : (p : List ℕ) (a : X) (us : List X) → is_above (path a) us
      → ((ys : List X) → rises ys → only p (walk us ys) ≡ told (here us p) (here ys p))
      → (ys : List X) → rises ys → only p (walk (a ∷ us) ys) ≡ told (here (a ∷ us) p) (here ys p)
  meant_from p a us above behind [] k = removed_first p a us [] (walk us []) above tt (behind [] tt)
  meant_from p a us above behind (b ∷ bs) k =
      cases (meant_from p a us above behind bs k.1) (slice_cmp nat_cmp (path a) (path b)) refl where
        cases : only p (walk (a ∷ us) bs) ≡ told (here (a ∷ us) p) (here bs p) → (o : Ordering)
            → slice_cmp nat_cmp (path a) (path b) ≡ o
            → only p (walk (a ∷ us) (b ∷ bs)) ≡ told (here (a ∷ us) p) (here (b ∷ bs) p)
        cases next Less is = rw is (removed_first p a us (b ∷ bs) (walk us (b ∷ bs)) above
            (is, above_through path removed added both (path a) (path b) bs is k.0) (behind (b ∷ bs) k))
        cases next Equal is = rw is (both_first p a b us bs (walk us bs) (one (path a) (path b) is) above k.0
            (behind bs k.1))
        cases next Greater is =
            let less = turned (path a) (path b) is in
            rw is (added_first p (a ∷ us) b bs (walk (a ∷ us) bs)
            (less, above_through path removed added both (path b) (path a) us less above) k.0 next)

  pub meant : (p : List ℕ) (xs ys : List X) → rises xs → rises ys → only p (walk xs ys) ≡ told (here xs p) (here ys p)
  meant p [] ys h k = meant_added p ys k
  meant p (a ∷ us) ys h k = meant_from p a us h.0 (λ zs r. meant p us zs h.1 r) ys k
