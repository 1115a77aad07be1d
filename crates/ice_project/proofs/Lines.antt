-- Each line of the projection is sound.
use Rattle.std.proofs.Common.{◌≡◌, ℕ, Bool, true, false, not, ◌&&◌, ◌||◌, List, [], ◌∷◌, Option, None, Some, refl, ap}
use Rattle.std.proofs.Common.{◌∙◌}
use Rattle.std.specs.List.{list_any, list_all}
use Rattle.std.specs.Option.{option_map, option_and_then}
use Rattle.std.specs.declared.cmp.Ordering.{Ordering}
use Rattle.std.specs.declared.cmp.Ordering.TheVariants.{Less as Below, Equal, Greater}
use Rattle.std.specs.Ordering.{is_lt, is_le, is_gt, is_ge, is_eq, is_ne, is_some_and}
use Rattle.ice_value.specs.Cells.{order, is_at_most}
use Rattle.ice_value.specs.declared.column_type.ColumnType.{ColumnType}
use Rattle.ice_value.specs.declared.cell.Cell.{Cell}
use Rattle.ice_value.specs.declared.cell.Cell.TheVariants.{Null, Bool as Flag, Whole, Text, Bytes}
use Rattle.ice_filter.specs.declared.bound.Test.{Test}
use Rattle.ice_filter.specs.declared.bound.Test.TheVariants.{Less, AtMost, More, AtLeast, Among, NotAmong, IsNull}
use Rattle.ice_filter.specs.declared.bound.Test.TheVariants.{IsPresent, StartsWith}
use Rattle.ice_filter.specs.Rows.{is_null, equals, begins, holds}
use Rattle.ice_project.specs.Tuples.{passes, may, may_present}
use Rattle.ice_project.specs.Projection.{before, behind, values, scattered, stepped, cut, cut_start}
use Rattle.ice_project.proofs.Orders.{Ordered, present, compared, some_passes, if_present, at_least_turned}
use Rattle.ice_project.proofs.Orders.{less_at_most, more_at_least, at_most_met, at_least_met, equal_is, itself_passes}
use Rattle.ice_project.proofs.Orders.{before_bounds, behind_bounds}

-- no test is true
abbrev pub may_if : Option Test → Cell → Bool
may_if None p = true
may_if (Some test) p = may test p

-- f gives null for null alone, and the same for equal cells
pub record Even (f : Cell → Option Cell) : Type 0 where
  pub kept : f Null ≡ Some Null
  pub alone : (c : Cell) → f c ≡ Some Null → c ≡ Null
  pub equal : (a b : Cell) → order a b ≡ Some Equal → f a ≡ f b

-- f keeps the order
pub record Rising (f : Cell → Option Cell) : Type 0 where
  pub even : Even f
  pub rising : (a b p q : Cell) → is_at_most a b ≡ true → f a ≡ Some p → f b ≡ Some q → is_at_most p q ≡ true

not_null : (f : Cell → Option Cell) (even : Even f) (c p : Cell) → is_null c ≡ false → f c ≡ Some p → is_null p ≡ false
not_null f even c Null n e = let k = even.alone c e in let m : is_null c ≡ true = ap is_null k in absurd cc
not_null f even c (Flag b) n e = refl
not_null f even c (Whole z) n e = refl
not_null f even c (Text s) n e = refl
not_null f even c (Bytes s) n e = refl

null_null : (f : Cell → Option Cell) (even : Even f) (c p : Cell) → is_null c ≡ true → f c ≡ Some p → is_null p ≡ true
null_null f even Null p n e = let k = even.kept in let same : Null ≡ p = cc in rw (← same) refl
null_null f even (Flag b) p n e = absurd cc
null_null f even (Whole z) p n e = absurd cc
null_null f even (Text s) p n e = absurd cc
null_null f even (Bytes s) p n e = absurd cc

null_met : (p : Cell) → is_null p ≡ true → may IsNull p ≡ true
null_met p n = rw n refl

present_met : (p : Cell) → is_null p ≡ false → may IsPresent p ≡ true
present_met p n = rw n refl

-- ---- in
pub not_null_any : (c : Cell) (vs : List Cell) → list_any (equals c) vs ≡ true → is_null c ≡ false
not_null_any c [] h = absurd cc
not_null_any c (v ∷ vs) h = go (equals c v) refl (list_any (equals c) vs) (not_null_any c vs) h where
  go : (b : Bool) → equals c v ≡ b → (d : Bool) → (d ≡ true → is_null c ≡ false) → (b || d) ≡ true → is_null c ≡ false
  go true e d rest k = compared is_eq c v e
  go false e d rest k = rest k

pub or_left : (a b : Bool) → a ≡ true → (a || b) ≡ true
or_left a b e = rw e refl

pub or_right : (a b : Bool) → b ≡ true → (a || b) ≡ true
or_right true b e = refl
or_right false b e = e

-- one of the literals' values is the cell's
any_values : (ordered : Ordered) (f : Cell → Option Cell) (even : Even f) (c p : Cell) → f c ≡ Some p
    → is_null p ≡ false → (vs qs : List Cell) → values f vs ≡ Some qs →
    list_any (equals c) vs ≡ true → list_any (λ q. passes is_eq (order p q)) qs ≡ true
any_values ordered f even c p e n [] qs is h = absurd cc
any_values ordered f even c p e n (v ∷ vs) qs is h = go (f v) refl (values f vs) refl is (any_values ordered f even c p
    e n vs) where
      met : (x : Cell) → f v ≡ Some x → (b : Bool) → equals c v ≡ b → (ys : List Cell)
          → (list_any (equals c) vs ≡ true → list_any (λ q. passes is_eq (order p q)) ys ≡ true) →
          (b || list_any (equals c) vs) ≡ true
          → (passes is_eq (order p x) || list_any (λ q. passes is_eq (order p q)) ys)
          ≡ true
      met x ex true s ys rest k =
          let same = even.equal c v (equal_is (order c v) s) in
          let one : p ≡ x = cc in
          let own : passes is_eq (order p x) ≡ true = rw (← one) (itself_passes ordered p n) in
          or_left _ _ own
      met x ex false s ys rest k = or_right _ _ (rest k)

      go : (o : Option Cell) → f v ≡ o → (r : Option (List Cell)) → values f vs ≡ r
          → option_and_then (λ x. option_map (λ ys. x ∷ ys) r) o ≡ Some qs →
          ((ys : List Cell) → values f vs ≡ Some ys → list_any (equals c) vs ≡ true
          → list_any (λ q. passes is_eq (order p q)) ys ≡ true) →
          list_any (λ q. passes is_eq (order p q)) qs ≡ true
      go None eo r er k rest = absurd cc
      go (Some x) eo None er k rest = absurd cc
      go (Some x) eo (Some ys) er k rest = let same : x ∷ ys ≡ qs = cc in
          rw (← same) (met x eo (equals c v) refl ys (rest ys er) h)

pub among_sound : (ordered : Ordered) (f : Cell → Option Cell) (even : Even f) (c p : Cell) (vs : List Cell)
    → f c ≡ Some p → list_any (equals c) vs ≡ true →
    may_if (option_map Among (values f vs)) p ≡ true
among_sound ordered f even c p vs e h = go (values f vs) refl where
  n : is_null p ≡ false
  n = not_null f even c p (not_null_any c vs h) e

  go : (o : Option (List Cell)) → values f vs ≡ o → may_if (option_map Among o) p ≡ true
  go None eo = refl
  go (Some qs) eo = if_present (Among qs) p n (any_values ordered f even c p e n vs qs eo h)

-- ---- identity
any_passes : (c : Cell) (vs : List Cell) → list_any (equals c) vs ≡ true
    → list_any (λ v. passes is_eq (order c v)) vs ≡ true
any_passes c [] h = absurd cc
any_passes c (v ∷ vs) h = go (equals c v) refl (any_passes c vs) h where
  go : (b : Bool) → equals c v ≡ b → (list_any (equals c) vs ≡ true → list_any (λ v. passes is_eq (order c v)) vs
      ≡ true) → (b || list_any (equals c) vs) ≡ true
      → (passes is_eq (order c v) || list_any (λ v. passes is_eq (order c v)) vs) ≡ true
  go true e rest k = or_left _ _ (some_passes is_eq (order c v) e)
  go false e rest k = or_right _ _ (rest k)

differs : (o : Option Ordering) → is_some_and is_eq o ≡ false → passes is_ne o ≡ true
differs None h = refl
differs (Some Below) h = refl
differs (Some Equal) h = absurd cc
differs (Some Greater) h = refl

all_differ : (c : Cell) (vs : List Cell) → not (list_any (equals c) vs) ≡ true
    → list_all (λ v. passes is_ne (order c v)) vs ≡ true
all_differ c [] h = refl
all_differ c (v ∷ vs) h = go (equals c v) refl (all_differ c vs) h where
  go : (b : Bool) → equals c v ≡ b → (not (list_any (equals c) vs) ≡ true → list_all (λ v. passes is_ne (order c v)) vs
      ≡ true) → not (b || list_any (equals c) vs) ≡ true
      → (passes is_ne (order c v) && list_all (λ v. passes is_ne (order c v)) vs) ≡ true
  go true e rest k = absurd cc
  go false e rest k = let d = differs (order c v) e in rw d (rest k)

pub and_first : (a b : Bool) → (a && b) ≡ true → a ≡ true
and_first true b h = refl
and_first false b h = h

pub and_second : (a b : Bool) → (a && b) ≡ true → b ≡ true
and_second true b h = h
and_second false b h = absurd cc

starts_itself : (s : List ℕ) (c : Cell) → begins c s ≡ true → may (StartsWith s) c ≡ true
starts_itself s (Text text) h = h
starts_itself s Null h = absurd cc
starts_itself s (Flag b) h = absurd cc
starts_itself s (Whole z) h = absurd cc
starts_itself s (Bytes bs) h = absurd cc

itself_met : (test : Test) (g : Ordering → Bool) (c v : Cell) → is_some_and g (order c v) ≡ true
    → may_present test c ≡ passes g (order c v) → may test c ≡ true
itself_met test g c v h e = if_present test c (compared g c v h) (e ∙ some_passes g (order c v) h)

pub same_sound : (test : Test) (c : Cell) → holds test c ≡ true → may test c ≡ true
same_sound (Less v) c h = itself_met (Less v) is_lt c v h refl
same_sound (AtMost v) c h = itself_met (AtMost v) is_le c v h refl
same_sound (More v) c h = itself_met (More v) is_gt c v h refl
same_sound (AtLeast v) c h = itself_met (AtLeast v) is_ge c v h refl
same_sound (Among vs) c h = if_present (Among vs) c (not_null_any c vs h) (any_passes c vs h)
same_sound (NotAmong vs) c h =
    if_present (NotAmong vs) c (present c (and_first _ _ h)) (all_differ c vs (and_second (not (is_null c)) _ h))
same_sound IsNull c h = null_met c h
same_sound IsPresent c h = present_met c (present c h)
same_sound (StartsWith s) c h = starts_itself s c h

-- ---- bucket
pub scattered_sound : (ordered : Ordered) (f : Cell → Option Cell) (even : Even f) (test : Test) (c p : Cell)
    → f c ≡ Some p → holds test c ≡ true → may_if (scattered f test) p ≡ true
scattered_sound ordered f even (Among vs) c p e h = among_sound ordered f even c p vs e h
scattered_sound ordered f even IsNull c p e h = null_met p (null_null f even c p h e)
scattered_sound ordered f even IsPresent c p e h = present_met p (not_null f even c p (present c h) e)
scattered_sound ordered f even (Less v) c p e h = refl
scattered_sound ordered f even (AtMost v) c p e h = refl
scattered_sound ordered f even (More v) c p e h = refl
scattered_sound ordered f even (AtLeast v) c p e h = refl
scattered_sound ordered f even (NotAmong vs) c p e h = refl
scattered_sound ordered f even (StartsWith s) c p e h = refl

-- ---- the order kept
valued : (test : Cell → Test) (o : Option Cell) (p : Cell) → ((q : Cell) → o ≡ Some q → may (test q) p ≡ true)
    → may_if (option_map test o) p ≡ true
valued test None p h = refl
valued test (Some q) p h = h q refl

next_valued : (test : Cell → Test) (f : Cell → Option Cell) (o : Option Cell) (p : Cell)
    → ((u q : Cell) → o ≡ Some u → f u ≡ Some q → may (test q) p ≡ true) →
    may_if (option_map test (option_and_then f o)) p ≡ true
next_valued test f None p h = refl
next_valued test f (Some u) p h = valued test (f u) p (λ q e. h u q refl e)

up_to : (f : Cell → Option Cell) (rise : Rising f) (c p v : Cell) → f c ≡ Some p → is_at_most c v ≡ true
    → may_if (option_map AtMost (f v)) p ≡ true
up_to f rise c p v e h = valued AtMost (f v) p (λ q eq. at_most_met p q (rise.rising c v p q h e eq))

down_to : (ordered : Ordered) (f : Cell → Option Cell) (rise : Rising f) (c p v : Cell) → f c ≡ Some p
    → is_at_most v c ≡ true → may_if (option_map AtLeast (f v)) p ≡ true
down_to ordered f rise c p v e h = valued AtLeast (f v) p (λ q eq. at_least_met ordered p q (rise.rising v c q p h eq
    e))

-- ---- numbers and times
pub stepped_sound : (ordered : Ordered) (f : Cell → Option Cell) (rise : Rising f) (t : ColumnType) (test : Test)
    (c p : Cell) → f c ≡ Some p → holds test c ≡ true →
    may_if (stepped f t test) p ≡ true
stepped_sound ordered f rise t (Less v) c p e h =
    next_valued AtMost f (before t v) p (λ u q is eq. at_most_met p q (rise.rising c u p q (before_bounds t c v u is h)
    e eq))
stepped_sound ordered f rise t (AtMost v) c p e h = up_to f rise c p v e h
stepped_sound ordered f rise t (More v) c p e h =
    next_valued AtLeast f (behind t v) p (λ u q is eq. at_least_met ordered p q
    (rise.rising u c q p (behind_bounds t c v u is h) eq e))
stepped_sound ordered f rise t (AtLeast v) c p e h = down_to ordered f rise c p v e (at_least_turned ordered c v h)
stepped_sound ordered f rise t (Among vs) c p e h = among_sound ordered f rise.even c p vs e h
stepped_sound ordered f rise t IsNull c p e h = null_met p (null_null f rise.even c p h e)
stepped_sound ordered f rise t IsPresent c p e h = present_met p (not_null f rise.even c p (present c h) e)
stepped_sound ordered f rise t (NotAmong vs) c p e h = refl
stepped_sound ordered f rise t (StartsWith s) c p e h = refl

-- ---- texts and byte strings
pub cut_sound : (ordered : Ordered) (f : Cell → Option Cell) (rise : Rising f) (w : ℕ) (test : Test) (c p : Cell)
    → f c ≡ Some p →
    ((s : List ℕ) → begins c s ≡ true → may_if (cut_start f w s) p ≡ true) → holds test c ≡ true
    → may_if (cut f w test) p ≡ true
cut_sound ordered f rise w (Less v) c p e starts h = up_to f rise c p v e (less_at_most c v h)
cut_sound ordered f rise w (AtMost v) c p e starts h = up_to f rise c p v e h
cut_sound ordered f rise w (More v) c p e starts h = down_to ordered f rise c p v e (at_least_turned ordered c v
    (more_at_least c v h))
cut_sound ordered f rise w (AtLeast v) c p e starts h = down_to ordered f rise c p v e (at_least_turned ordered c v h)
cut_sound ordered f rise w (Among vs) c p e starts h = among_sound ordered f rise.even c p vs e h
cut_sound ordered f rise w IsNull c p e starts h = null_met p (null_null f rise.even c p h e)
cut_sound ordered f rise w IsPresent c p e starts h = present_met p (not_null f rise.even c p (present c h) e)
cut_sound ordered f rise w (StartsWith s) c p e starts h = starts s h
cut_sound ordered f rise w (NotAmong vs) c p e starts h = refl

-- a text equal to the one value
pub single_met : (ordered : Ordered) (p q : Cell) → is_null p ≡ false → p ≡ q → may (Among (q ∷ [])) p ≡ true
single_met ordered p q n e =
    let own : passes is_eq (order p q) ≡ true = rw (← e) (itself_passes ordered p n) in
    if_present (Among (q ∷ [])) p n (or_left _ _ own)
