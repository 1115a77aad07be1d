-- The least and the greatest of cells of one kind, nulls aside.
use Rattle.std.proofs.Common.{◌≡◌, ◌<◌, ℕ, Bool, true, false, cond, List, [], ◌∷◌, refl, ◌∙◌, ap, subst, arith, Option}
use Rattle.std.proofs.Common.{Some, None}
use Rattle.std.specs.List.{AllByRecursion}
use Rattle.std.specs.Option.{option_map}
use Rattle.std.specs.Ordering.{is_le, is_lt, is_some_and, ordering_reverse}
use Rattle.std.specs.declared.cmp.Ordering.{Ordering}
use Rattle.std.specs.declared.cmp.Ordering.TheVariants.{Less, Equal, Greater}
use Rattle.ice_value.specs.declared.cell.Cell.{Cell}
use Rattle.ice_value.specs.declared.cell.Cell.TheVariants.{Bool as Flag, Whole, Text, Bytes}
use Rattle.ice_value.specs.Cells.{AreOfOneKind, cell_cmp, is_at_most, kind_of}
use Rattle.ice_value.proofs.Orders.{of_one_kind, turned, up_to_further, up_to_itself}
use Rattle.ice_manifest.specs.NewRows.{best_of, greater, is_null, least, greatest, lesser}

-- ---- two cells

one_kind : (k : ℕ) (a b : Cell) → 0 < k → kind_of a ≡ k → kind_of b ≡ k → AreOfOneKind a b
one_kind k (Flag a) (Flag b) some x y = tt
one_kind k (Whole a) (Whole b) some x y = tt
one_kind k (Text a) (Text b) some x y = tt
one_kind k (Bytes a) (Bytes b) some x y = tt
one_kind k _ _ some x y = absurd (omega (arith, some, x, y))

up_to : (o : Ordering) → is_lt o ≡ true → is_le o ≡ true
up_to Less h = refl
up_to Equal h = absurd cc
up_to Greater h = absurd cc

turned_up_to : (o : Ordering) → is_lt o ≡ false → is_le (ordering_reverse o) ≡ true
turned_up_to Less h = absurd cc
turned_up_to Equal h = refl
turned_up_to Greater h = refl

below : (a b : Cell) → AreOfOneKind a b → is_lt (cell_cmp a b) ≡ true → is_at_most a b ≡ true
below a b kind h = ap (is_some_and is_le) (of_one_kind a b kind) ∙ up_to (cell_cmp a b) h

not_below : (a b : Cell) → AreOfOneKind a b → is_lt (cell_cmp a b) ≡ false → is_at_most b a ≡ true
not_below a b kind h = ap (is_some_and is_le) (turned a b ∙ ap (option_map ordering_reverse) (of_one_kind a b kind)) ∙
    turned_up_to (cell_cmp a b) h

-- ---- the best of cells

-- what isn't null is of the kind
abbrev pub AreOfKind : ℕ → List Cell → Type 0
AreOfKind k cs = AllByRecursion (λ c. is_null c ≡ false → kind_of c ≡ k) cs

abbrev IsFoundOfKind : ℕ → Option Cell → Type 0
IsFoundOfKind k None = Unit {0}
IsFoundOfKind k (Some c) = kind_of c ≡ k

-- d is as good as each value
abbrev pub IsBest : (Cell → Cell → Bool) → Cell → List Cell → Type 0
IsBest good d cs = AllByRecursion (λ c. is_null c ≡ false → good d c ≡ true) cs

abbrev IsBestYet : (Cell → Cell → Bool) → Cell → Option Cell → Type 0
IsBestYet good d None = Unit {0}
IsBestYet good d (Some c) = good d c ≡ true

-- the better of two is as good as either
abbrev IsBetter : ℕ → (Option Cell → Cell → Option Cell) → (Cell → Cell → Bool) → Type 0
IsBetter k better good = (d c : Cell) → kind_of d ≡ k → kind_of c ≡ k
    → (e : Cell) × (better (Some d) c ≡ Some e) × (kind_of e ≡ k) × (good e d ≡ true) × (good e c ≡ true)

module _ (k : ℕ) (better : Option Cell → Cell → Option Cell) (good : Cell → Cell → Bool)
    (itself : (c : Cell) → kind_of c ≡ k → good c c ≡ true)
    (further : (a b c : Cell) → good a b ≡ true → good b c ≡ true → good a c ≡ true)
    (first : (c : Cell) → better None c ≡ Some c)
    (chosen : IsBetter k better good) where
  fresh : (found : Option Cell) (c : Cell) → IsFoundOfKind k found → kind_of c ≡ k
      → (x : Cell) × (better found c ≡ Some x) × (kind_of x ≡ k) × ((d : Cell) → good d x ≡ true
      → IsBestYet good d found × (good d c ≡ true))
  fresh None c of is = (c, first c, is, λ d h. (tt, h))
  fresh (Some y) c of is =
      let e = chosen y c of is in
      (e.0, e.1, e.2, λ d h. (further d e.0 y h e.3, further d e.0 c h e.4))

  best : (found : Option Cell) (cs : List Cell) (d : Cell) → IsFoundOfKind k found → AreOfKind k cs
      → best_of better found cs ≡ Some d → IsBestYet good d found × IsBest good d cs
  best None [] d of all e = absurd cc
  best (Some x) [] d of all e = let same : x ≡ d = cc in (subst (λ y. good y x ≡ true) same (itself x of), tt)
  best found (c ∷ cs) d of all e =
      let P : Bool → Type 0 = λ b. is_null c ≡ b → best_of better (cond b found (better found c)) cs ≡ Some d
      → IsBestYet good d found × IsBest good d (c ∷ cs) in
      let at : (b : Bool) → P b =
      λ b. elim b as P [
        | true ↦ λ null h. let rest = best found cs d of all.1 h in (rest.0, (λ present. absurd cc, rest.1))
        | false ↦ λ present h.
            let x = fresh found c of (all.0 present) in
            let rest = best (Some x.0) cs d x.2 all.1 (subst (λ o. best_of better o cs ≡ Some d) x.1 h) in
            let both = x.3 d rest.0 in
            (both.0, (λ _. both.1, rest.1))
      ] in
      at (is_null c) refl e

module _ (k : ℕ) (some : 0 < k) where
  as_itself : (c : Cell) → kind_of c ≡ k → is_at_most c c ≡ true
  as_itself c is = up_to_itself c (one_kind k c c some is is)

  lesser_chosen : IsBetter k lesser is_at_most
  lesser_chosen d c of is = here (is_lt (cell_cmp c d)) refl where
    here : (b : Bool) → is_lt (cell_cmp c d) ≡ b → (e : Cell) × (cond b (Some c) (Some d) ≡ Some e) × (kind_of e ≡ k) ×
        (is_at_most e d ≡ true) × (is_at_most e c ≡ true)
    here true h = (c, refl, is, below c d (one_kind k c d some is of) h, as_itself c is)
    here false h = (d, refl, of, as_itself d of, not_below c d (one_kind k c d some is of) h)

  greater_chosen : IsBetter k greater (λ a b. is_at_most b a)
  greater_chosen d c of is = here (is_lt (cell_cmp d c)) refl where
    here : (b : Bool) → is_lt (cell_cmp d c) ≡ b → (e : Cell) × (cond b (Some c) (Some d) ≡ Some e) × (kind_of e ≡ k) ×
        (is_at_most d e ≡ true) × (is_at_most c e ≡ true)
    here true h = (c, refl, is, below d c (one_kind k d c some of is) h, as_itself c is)
    here false h = (d, refl, of, as_itself d of, not_below d c (one_kind k d c some of is) h)

  pub least_best : (cs : List Cell) (d : Cell) → AreOfKind k cs → least cs ≡ Some d → IsBest is_at_most d cs
  least_best cs d all e = (best k lesser is_at_most as_itself up_to_further (λ c. refl) lesser_chosen None cs d tt all
      e).1

  pub greatest_best : (cs : List Cell) (d : Cell) → AreOfKind k cs → greatest cs ≡ Some d
      → IsBest (λ a b. is_at_most b a) d cs
  greatest_best cs d all e = (best k greater (λ a b. is_at_most b a) as_itself (λ a b c h g. up_to_further c b a g h)
      (λ c. refl) greater_chosen None cs d tt all e).1
