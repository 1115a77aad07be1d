-- The bounds of a value don't exclude a test that it meets.
use Rattle.std.proofs.Common.{◌≡◌, ℕ, ℤ, Bool, true, false, not, ◌&&◌, ◌||◌, List, [], ◌∷◌, Option, None, Some, refl}
use Rattle.std.proofs.Common.{ap, sym, ◌∙◌, nat_eq, ◌⊎◌, inl, inr}
use Rattle.std.specs.List.{list_any, starts_with}
use Rattle.std.specs.Option.{option_map}
use Rattle.std.specs.declared.cmp.Ordering.{Ordering}
use Rattle.std.specs.declared.cmp.Ordering.TheVariants.{Less as Below, Equal, Greater}
use Rattle.std.specs.Ordering.{is_lt, is_le, is_gt, is_ge, is_eq, is_some_and, nat_cmp, ordering_reverse}
use Rattle.std.specs.Cmp.Lexicographic.{slice_cmp}
use Rattle.ice_value.specs.Cells.{order, is_at_most, AreOfOneKind}
use Rattle.ice_value.specs.declared.cell.Cell.{Cell}
use Rattle.ice_value.specs.declared.cell.Cell.TheVariants.{Null, Bool as Flag, Whole, Text, Bytes}
use Rattle.ice_filter.specs.declared.bound.Test.{Test}
use Rattle.ice_filter.specs.declared.bound.Test.TheVariants.{Less, AtMost, More, AtLeast, Among, NotAmong, IsNull}
use Rattle.ice_filter.specs.declared.bound.Test.TheVariants.{IsPresent, StartsWith}
use Rattle.ice_filter.specs.Rows.{is_null}
use Rattle.ice_project.specs.Tuples.{passes, may, may_present, may_begin}
use Rattle.ice_project.specs.Limits.{limit_is, text_of, text_is, text_begins, is_within, in_bounds, LiesIn}
use Rattle.ice_project.proofs.Begins.{begins_above, between}
use Rattle.ice_project.proofs.Lines.{or_left, or_right}
use Rattle.ice_project.proofs.Orders.{Ordered, at_most_turned, some_passes}
use Rattle.ice_project.proofs.Sound.{and_both}

-- ---- kinds
kind : (a b : Cell) (o : Ordering) → order a b ≡ Some o → AreOfOneKind a b
kind (Flag x) (Flag y) o e = tt
kind (Whole x) (Whole y) o e = tt
kind (Text x) (Text y) o e = tt
kind (Bytes x) (Bytes y) o e = tt
kind _ _ o e = absurd cc

flag_unlike : (x y : Bool) (v : Cell) → order (Flag y) v ≡ None → order (Flag x) v ≡ None
flag_unlike x y (Flag z) e = absurd cc
flag_unlike x y _ e = refl

whole_unlike : (x y : ℤ) (v : Cell) → order (Whole y) v ≡ None → order (Whole x) v ≡ None
whole_unlike x y (Whole z) e = absurd cc
whole_unlike x y _ e = refl

text_unlike : (x y : List ℕ) (v : Cell) → order (Text y) v ≡ None → order (Text x) v ≡ None
text_unlike x y (Text z) e = absurd cc
text_unlike x y _ e = refl

bytes_unlike : (x y : List ℕ) (v : Cell) → order (Bytes y) v ≡ None → order (Bytes x) v ≡ None
bytes_unlike x y (Bytes z) e = absurd cc
bytes_unlike x y _ e = refl

unlike : (b p v : Cell) → AreOfOneKind b p → order p v ≡ None → order b v ≡ None
unlike (Flag x) (Flag y) v k e = flag_unlike x y v e
unlike (Whole x) (Whole y) v k e = whole_unlike x y v e
unlike (Text x) (Text y) v k e = text_unlike x y v e
unlike (Bytes x) (Bytes y) v k e = bytes_unlike x y v e
unlike _ _ v k e = absurd k

-- ---- a lower bound b of p, and a literal v
below_case : (ordered : Ordered) (b p v : Cell) → is_at_most b p ≡ true
    → (order b v ≡ order p v) ⊎ ((order b v ≡ Some Below) ⊎ (order p v ≡ Some Greater))
below_case ordered b p v h = go (order b p) refl h where
  strict : order b p ≡ Some Below → (o : Option Ordering) → order p v ≡ o
      → (order b v ≡ order p v) ⊎ ((order b v ≡ Some Below) ⊎ (order p v ≡ Some Greater))
  strict e None q = inl (unlike b p v (kind b p Below e) q ∙ sym q)
  strict e (Some Below) q = inr (inl (ordered.less b p v e q))
  strict e (Some Equal) q = let same = ordered.no_other p v q in inr (inl (ap (λ x. order b x) (sym same) ∙ e))
  strict e (Some Greater) q = inr (inr q)

  go : (o : Option Ordering) → order b p ≡ o → is_some_and is_le o ≡ true
      → (order b v ≡ order p v) ⊎ ((order b v ≡ Some Below) ⊎ (order p v ≡ Some Greater))
  go None e k = absurd cc
  go (Some Below) e k = strict e (order p v) refl
  go (Some Equal) e k = inl (ap (λ x. order x v) (ordered.no_other b p e))
  go (Some Greater) e k = absurd cc

-- ---- an upper bound b of p, and a literal v
turned_below : (ordered : Ordered) (a b : Cell) → order a b ≡ Some Below → order b a ≡ Some Greater
turned_below ordered a b e = ordered.turned a b ∙ ap (λ o. option_map ordering_reverse o) e

turned_above : (ordered : Ordered) (a b : Cell) → order a b ≡ Some Greater → order b a ≡ Some Below
turned_above ordered a b e = ordered.turned a b ∙ ap (λ o. option_map ordering_reverse o) e

above_case : (ordered : Ordered) (b p v : Cell) → is_at_most p b ≡ true
    → (order b v ≡ order p v) ⊎ ((order b v ≡ Some Greater) ⊎ (order p v ≡ Some Below))
above_case ordered b p v h = go (order p b) refl h where
  strict : order p b ≡ Some Below → (o : Option Ordering) → order p v ≡ o
      → (order b v ≡ order p v) ⊎ ((order b v ≡ Some Greater) ⊎ (order p v ≡ Some Below))
  strict e None q = inl (unlike b p v (kind b p Greater (turned_below ordered p b e)) q ∙ sym q)
  strict e (Some Below) q = inr (inr q)
  strict e (Some Equal) q = let same = ordered.no_other p v q in inr (inl (ap (λ x. order b x) (sym same) ∙ turned_below
      ordered p b e))
  strict e (Some Greater) q = inr (inl (turned_below ordered v b (ordered.less v p b (turned_above ordered p v q) e)))

  go : (o : Option Ordering) → order p b ≡ o → is_some_and is_le o ≡ true
      → (order b v ≡ order p v) ⊎ ((order b v ≡ Some Greater) ⊎ (order p v ≡ Some Below))
  go None e k = absurd cc
  go (Some Below) e k = strict e (order p v) refl
  go (Some Equal) e k = inl (ap (λ x. order x v) (sym (ordered.no_other p b e)))
  go (Some Greater) e k = absurd cc

le_not_gt : (o : Option Ordering) → passes is_le o ≡ true → is_some_and is_gt o ≡ false
le_not_gt None h = refl
le_not_gt (Some Below) h = refl
le_not_gt (Some Equal) h = refl
le_not_gt (Some Greater) h = absurd cc

lt_not_ge : (o : Option Ordering) → passes is_lt o ≡ true → is_some_and is_ge o ≡ false
lt_not_ge None h = refl
lt_not_ge (Some Below) h = refl
lt_not_ge (Some Equal) h = absurd cc
lt_not_ge (Some Greater) h = absurd cc

ge_not_lt : (o : Option Ordering) → passes is_ge o ≡ true → is_some_and is_lt o ≡ false
ge_not_lt None h = refl
ge_not_lt (Some Below) h = absurd cc
ge_not_lt (Some Equal) h = refl
ge_not_lt (Some Greater) h = refl

gt_not_le : (o : Option Ordering) → passes is_gt o ≡ true → is_some_and is_le o ≡ false
gt_not_le None h = refl
gt_not_le (Some Below) h = absurd cc
gt_not_le (Some Equal) h = absurd cc
gt_not_le (Some Greater) h = refl

low_gt : (ordered : Ordered) (b p v : Cell) → is_at_most b p ≡ true → passes is_le (order p v) ≡ true
    → is_some_and is_gt (order b v) ≡ false
low_gt ordered b p v h k = by (below_case ordered b p v h) where
  by : (order b v ≡ order p v) ⊎ ((order b v ≡ Some Below) ⊎ (order p v ≡ Some Greater))
      → is_some_and is_gt (order b v) ≡ false
  by (inl e) = rw e (le_not_gt (order p v) k)
  by (inr (inl e)) = rw e refl
  by (inr (inr e)) = let f : passes is_le (Some Greater) ≡ true = ap (λ o. passes is_le o) (sym e) ∙ k in absurd cc

low_ge : (ordered : Ordered) (b p v : Cell) → is_at_most b p ≡ true → passes is_lt (order p v) ≡ true
    → is_some_and is_ge (order b v) ≡ false
low_ge ordered b p v h k = by (below_case ordered b p v h) where
  by : (order b v ≡ order p v) ⊎ ((order b v ≡ Some Below) ⊎ (order p v ≡ Some Greater))
      → is_some_and is_ge (order b v) ≡ false
  by (inl e) = rw e (lt_not_ge (order p v) k)
  by (inr (inl e)) = rw e refl
  by (inr (inr e)) = let f : passes is_lt (Some Greater) ≡ true = ap (λ o. passes is_lt o) (sym e) ∙ k in absurd cc

high_lt : (ordered : Ordered) (b p v : Cell) → is_at_most p b ≡ true → passes is_ge (order p v) ≡ true
    → is_some_and is_lt (order b v) ≡ false
high_lt ordered b p v h k = by (above_case ordered b p v h) where
  by : (order b v ≡ order p v) ⊎ ((order b v ≡ Some Greater) ⊎ (order p v ≡ Some Below))
      → is_some_and is_lt (order b v) ≡ false
  by (inl e) = rw e (ge_not_lt (order p v) k)
  by (inr (inl e)) = rw e refl
  by (inr (inr e)) = let f : passes is_ge (Some Below) ≡ true = ap (λ o. passes is_ge o) (sym e) ∙ k in absurd cc

high_le : (ordered : Ordered) (b p v : Cell) → is_at_most p b ≡ true → passes is_gt (order p v) ≡ true
    → is_some_and is_le (order b v) ≡ false
high_le ordered b p v h k = by (above_case ordered b p v h) where
  by : (order b v ≡ order p v) ⊎ ((order b v ≡ Some Greater) ⊎ (order p v ≡ Some Below))
      → is_some_and is_le (order b v) ≡ false
  by (inl e) = rw e (gt_not_le (order p v) k)
  by (inr (inl e)) = rw e refl
  by (inr (inr e)) = let f : passes is_gt (Some Below) ≡ true = ap (λ o. passes is_gt o) (sym e) ∙ k in absurd cc

limit_false : (g : Ordering → Bool) (bound : Option Cell) (v : Cell)
    → ((b : Cell) → bound ≡ Some b → is_some_and g (order b v) ≡ false) → not (limit_is g bound v) ≡ true
limit_false g None v f = refl
limit_false g (Some b) v f = let e = f b refl in rw e refl

-- ---- in
eq_le : (o : Option Ordering) → passes is_eq o ≡ true → passes is_le o ≡ true
eq_le None h = refl
eq_le (Some Below) h = refl
eq_le (Some Equal) h = refl
eq_le (Some Greater) h = absurd cc

eq_ge : (o : Option Ordering) → passes is_eq o ≡ true → passes is_ge o ≡ true
eq_ge None h = refl
eq_ge (Some Below) h = absurd cc
eq_ge (Some Equal) h = refl
eq_ge (Some Greater) h = refl

equal_within : (ordered : Ordered) (low high : Option Cell) (p v : Cell) → LiesIn low high p
    → passes is_eq (order p v) ≡ true → is_within low high v ≡ true
equal_within ordered low high p v lies h =
    and_both _ _ (limit_false is_gt low v (λ b e. low_gt ordered b p v (lies.above b e) (eq_le (order p v) h)))
    (limit_false is_lt high v (λ b e. high_lt ordered b p v (lies.below b e) (eq_ge (order p v) h)))

any_within : (ordered : Ordered) (low high : Option Cell) (p : Cell) (vs : List Cell) → LiesIn low high p
    → list_any (λ v. passes is_eq (order p v)) vs ≡ true →
    list_any (is_within low high) vs ≡ true
any_within ordered low high p [] lies h = absurd cc
any_within ordered low high p (v ∷ vs) lies h = go (passes is_eq (order p v)) refl (any_within ordered low high p vs
    lies) h where
      go : (b : Bool) → passes is_eq (order p v) ≡ b → (list_any (λ x. passes is_eq (order p x)) vs ≡ true
          → list_any (is_within low high) vs ≡ true) →
          (b || list_any (λ x. passes is_eq (order p x)) vs) ≡ true
          → (is_within low high v || list_any (is_within low high) vs) ≡ true
      go true e rest k = or_left _ _ (equal_within ordered low high p v lies e)
      go false e rest k = or_right _ _ (rest k)

-- ---- starts with
starts_ge : (ordered : Ordered) (p : Cell) (s : List ℕ) → may_begin p s ≡ true → passes is_ge (order p (Text s)) ≡ true
starts_ge ordered (Text a) s h =
    let least : is_at_most (Text s) (Text a) ≡ true = begins_above s a h in
    some_passes is_ge (order (Text a) (Text s)) (at_most_turned ordered (Text s) (Text a) least)
starts_ge ordered Null s h = refl
starts_ge ordered (Flag b) s h = refl
starts_ge ordered (Whole z) s h = refl
starts_ge ordered (Bytes bs) s h = refl

high_text : (ordered : Ordered) (high : Option Cell) (p : Cell) (s : List ℕ)
    → ((b : Cell) → high ≡ Some b → is_at_most p b ≡ true) → passes is_ge (order p (Text s)) ≡ true →
    not (text_is is_lt (text_of high) s) ≡ true
high_text ordered None p s f h = refl
high_text ordered (Some (Text t)) p s f h =
    let e : is_lt (slice_cmp nat_cmp t s) ≡ false = high_lt ordered (Text t) p (Text s) (f (Text t) refl) h in
    rw e refl
high_text ordered (Some Null) p s f h = refl
high_text ordered (Some (Flag b)) p s f h = refl
high_text ordered (Some (Whole z)) p s f h = refl
high_text ordered (Some (Bytes bs)) p s f h = refl

not_but : (p q : Bool) → (p ≡ true → q ≡ true) → not (p && not q) ≡ true
not_but true q f = let e = f refl in rw e refl
not_but false q f = refl

text_past : (t s : List ℕ) (p : Cell) → is_at_most (Text t) p ≡ true → may_begin p s ≡ true
    → not (is_gt (slice_cmp nat_cmp t s) && not (starts_with nat_eq t s)) ≡ true
text_past t s (Text a) h k = not_but (is_gt (slice_cmp nat_cmp t s)) (starts_with nat_eq t s) (λ g. between s t a k g h)
text_past t s Null h k = absurd cc
text_past t s (Flag b) h k = absurd cc
text_past t s (Whole z) h k = absurd cc
text_past t s (Bytes bs) h k = absurd cc

low_text : (low : Option Cell) (p : Cell) (s : List ℕ) → ((b : Cell) → low ≡ Some b → is_at_most b p ≡ true)
    → may_begin p s ≡ true →
    not (text_is is_gt (text_of low) s && not (text_begins (text_of low) s)) ≡ true
low_text None p s f k = refl
low_text (Some (Text t)) p s f k = text_past t s p (f (Text t) refl) k
low_text (Some Null) p s f k = refl
low_text (Some (Flag b)) p s f k = refl
low_text (Some (Whole z)) p s f k = refl
low_text (Some (Bytes bs)) p s f k = refl

-- ---- every test
pub shown : (test : Test) (p : Cell) → is_null p ≡ false → may test p ≡ true → may_present test p ≡ true
shown test p n h = rw n at h

pub allowed : (ordered : Ordered) (test : Test) (low high : Option Cell) (p : Cell) → LiesIn low high p
    → may_present test p ≡ true → in_bounds test low high ≡ true
allowed ordered (Less v) low high p lies h = limit_false is_ge low v (λ b e. low_ge ordered b p v (lies.above b e) h)
allowed ordered (AtMost v) low high p lies h = limit_false is_gt low v (λ b e. low_gt ordered b p v (lies.above b e) h)
allowed ordered (More v) low high p lies h = limit_false is_le high v (λ b e. high_le ordered b p v (lies.below b e) h)
allowed ordered (AtLeast v) low high p lies h = limit_false is_lt high v (λ b e. high_lt ordered b p v (lies.below b e)
    h)
allowed ordered (Among vs) low high p lies h = any_within ordered low high p vs lies h
allowed ordered (NotAmong vs) low high p lies h = refl
allowed ordered IsNull low high p lies h = refl
allowed ordered IsPresent low high p lies h = refl
allowed ordered (StartsWith s) low high p lies h =
    and_both _ _ (high_text ordered high p s lies.below (starts_ge ordered p s h)) (low_text low p s lies.above h)
