-- The loops over bytes, fields and branches.
use Rattle.std.proofs.Common.{◌≡◌, ℕ, zero, suc, ◌+◌, ◌-◌, ◌≤◌, ◌<◌, Bool, true, false, ◌||◌, ◌&&◌, ◌==◌, List, [], ◌∷◌}
use Rattle.std.proofs.Common.{length, get_or, drop, take, Option, Some, None, option_and_then, refl, sym, ap, ◌∙◌}
use Rattle.std.proofs.Common.{add-one, drop-cons, arith}
use Rattle.std.proofs.Math.ListN.{drop_of_length-le}
use Rattle.std.proofs.lemmas.Bool.{lt-ltb, le-ltb, ltb-true, ltb-false}
use Rattle.std.specs.Prelude.{max, nat_lt}
use Rattle.serde_json.specs.Data.{Data}
use Rattle.std.specs.Prelude.{ℤ, Ok, Err}
use Rattle.std.specs.Ordering.{int_eq}
use Rattle.std.specs.Option.{option_eq}
use Rattle.std.specs.List.{list_any}
use Rattle.avro_schema.specs.Reading.{has_id, fresh}
use Rattle.avro_schema.specs.declared.fault.SchemaFault.TheVariants.{FieldTwice}
use Rattle.serde_json.specs.declared.value.Value.{Value}
use Rattle.serde_json.specs.View.{view, items_view}
use Rattle.serde_json.specs.Events.{items_len}
use Rattle.avro_schema.specs.declared.schema.Schema.{Schema}
use Rattle.avro_schema.specs.declared.schema.Field.{Field}
use Rattle.avro_schema.specs.Attributes.{all_items}
use Rattle.avro_schema.specs.Names.{dotted, space_of, last_of}
use Rattle.avro_schema.specs.Size.{left_after, below, in_fields, in_branches, height, deepest_field, deepest_branch}
use Rattle.avro_schema.specs.View.{tree, trees, parts, fields_of, branches_of}

pub step_of : {A : Type 0} (xs : List A) (i : ℕ) (x : A) → i < length xs → x ≡ get_or xs i x
    → drop i xs ≡ x ∷ drop (i + 1) xs
step_of xs i x lt is = drop-cons xs i x lt ∙ rw (← is, add-one) refl

pub end_of : {A : Type 0} (xs : List A) (i : ℕ) → length xs ≤ i → drop i xs ≡ []
end_of xs i le = drop_of_length-le xs le

-- ---- the items of an array

pub all_here : (test : Data → Bool) (vs : List Value) (i : ℕ) (v : Value) (total : Bool) → i < length vs
    → v ≡ get_or vs i v → all_items test (items_view (drop i vs)) ≡ total
    → total ≡ (test (view v) && all_items test (items_view (drop (i + 1) vs)))
all_here test vs i v total lt is so_far = sym so_far ∙ rw (step_of vs i v lt is) refl

pub all_done : (test : Data → Bool) (vs : List Value) (i : ℕ) (total : Bool) → length vs ≤ i
    → all_items test (items_view (drop i vs)) ≡ total → total ≡ true
all_done test vs i total le so_far = sym so_far ∙ rw (end_of vs i le) refl

-- ---- what is left of the nodes

less_add : (l a b : ℕ) → left_after l (a + b) ≡ option_and_then (λ m. left_after m b) (left_after l a)
less_add l zero b = let e : 0 + b ≡ b = omega arith in rw e refl
less_add zero (suc a) b = let e : suc a + b ≡ suc (a + b) = omega arith in rw e refl
less_add (suc l) (suc a) b = let e : suc a + b ≡ suc (a + b) = omega arith in rw e (less_add l a b)

pub less_on : (now a b next : ℕ) (total : Option ℕ) → left_after now (a + b) ≡ total → Some next ≡ left_after now a
    → left_after next b ≡ total
less_on now a b next total so_far h = (rw (sym h) refl) ∙ sym (less_add now a b) ∙ so_far

pub less_fails : (now a b : ℕ) (total : Option ℕ) → left_after now (a + b) ≡ total → None ≡ left_after now a
    → None ≡ total
less_fails now a b total so_far h = (rw (sym h) refl) ∙ sym (less_add now a b) ∙ so_far

pub fields_step : (fs : List Field) (i : ℕ) (f : Field) → i < length fs → f ≡ get_or fs i f
    → in_fields (fields_of (parts (drop i fs))) ≡ suc (below (tree f.schema)) + in_fields
    (fields_of (parts (drop (i + 1) fs)))
unfolding in_fields
fields_step fs i f lt is = rw (step_of fs i f lt is) refl

pub branches_step : (ss : List Schema) (i : ℕ) (s : Schema) → i < length ss → s ≡ get_or ss i s
    → in_branches (branches_of (trees (drop i ss))) ≡ suc (below (tree s)) + in_branches
    (branches_of (trees (drop (i + 1) ss)))
unfolding in_branches
branches_step ss i s lt is = rw (step_of ss i s lt is) refl

pub fields_end : (fs : List Field) (i : ℕ) (now : ℕ) → length fs ≤ i
    → left_after now (in_fields (fields_of (parts (drop i fs)))) ≡ Some now
unfolding in_fields
fields_end fs i now le = rw (end_of fs i le) refl

pub branches_end : (ss : List Schema) (i : ℕ) (now : ℕ) → length ss ≤ i
    → left_after now (in_branches (branches_of (trees (drop i ss)))) ≡ Some now
unfolding in_branches
branches_end ss i now le = rw (end_of ss i le) refl

-- ---- levels

lt_or : (m a b : ℕ) (x y : Bool) → nat_lt m a ≡ x → nat_lt m b ≡ y → nat_lt m (max a b) ≡ (x || y)
lt_or m a b true y h k = let l : m < a = ltb-true m a h in lt-ltb m (max a b) (omega (arith, l))
lt_or m a b false true h k = let l : m < b = ltb-true m b k in lt-ltb m (max a b) (omega (arith, l))
lt_or m a b false false h k = let l : a ≤ m = ltb-false m a h in let n : b ≤ m = ltb-false m b k in
    le-ltb m (max a b) (omega (arith, l, n))

lt_max : (m a b : ℕ) → nat_lt m (max a b) ≡ (nat_lt m a || nat_lt m b)
lt_max m a b = lt_or m a b (nat_lt m a) (nat_lt m b) refl refl

pub never_below : (m : ℕ) → nat_lt m 0 ≡ false
never_below m = le-ltb m 0 (omega arith)

pub none_may : (m h : ℕ) → m ≡ 0 → nat_lt m (suc h) ≡ true
none_may m h none = lt-ltb m (suc h) (omega (arith, none))

same_lt : (m h : ℕ) (x : Bool) → 0 < m → nat_lt (m - 1) h ≡ x → nat_lt m (suc h) ≡ x
same_lt m h true some k = let l : m - 1 < h = ltb-true (m - 1) h k in lt-ltb m (suc h) (omega (arith, l, some))
same_lt m h false some k = let l : h ≤ m - 1 = ltb-false (m - 1) h k in le-ltb m (suc h) (omega (arith, l, some))

-- one level less on both sides
pub one_less : (m h : ℕ) → 0 < m → nat_lt (m - 1) h ≡ nat_lt m (suc h)
one_less m h some = sym (same_lt m h (nat_lt (m - 1) h) some refl)

pub field_high : (fs : List Field) (i most : ℕ) (f : Field) → i < length fs → f ≡ get_or fs i f
    → nat_lt most (deepest_field (fields_of (parts (drop i fs)))) ≡ (nat_lt most (suc (height (tree f.schema))) ||
    nat_lt most (deepest_field (fields_of (parts (drop (i + 1) fs)))))
unfolding deepest_field
field_high fs i most f lt is = rw (step_of fs i f lt is) (lt_max most (suc (height (tree f.schema)))
    (deepest_field (fields_of (parts (drop (i + 1) fs)))))

pub branch_high : (ss : List Schema) (i most : ℕ) (s : Schema) → i < length ss → s ≡ get_or ss i s
    → nat_lt most (deepest_branch (branches_of (trees (drop i ss)))) ≡ (nat_lt most (suc (height (tree s))) || nat_lt
    most (deepest_branch (branches_of (trees (drop (i + 1) ss)))))
unfolding deepest_branch
branch_high ss i most s lt is = rw (step_of ss i s lt is) (lt_max most (suc (height (tree s)))
    (deepest_branch (branches_of (trees (drop (i + 1) ss)))))

pub no_field_high : (fs : List Field) (i most : ℕ) → length fs ≤ i
    → nat_lt most (deepest_field (fields_of (parts (drop i fs)))) ≡ false
unfolding deepest_field
no_field_high fs i most le = rw (end_of fs i le) (never_below most)

pub no_branch_high : (ss : List Schema) (i most : ℕ) → length ss ≤ i
    → nat_lt most (deepest_branch (branches_of (trees (drop i ss)))) ≡ false
unfolding deepest_branch
no_branch_high ss i most le = rw (end_of ss i le) (never_below most)

-- ---- dots

pub dotted_step : (s : List ℕ) (i : ℕ) → i < length s
    → dotted (drop i s) ≡ (get_or s i 0 == 46 || dotted (drop (i + 1) s))
unfolding dotted
dotted_step s i lt = rw (drop-cons s i 0 lt, add-one) refl

pub dotted_end : (s : List ℕ) (i : ℕ) → length s ≤ i → dotted (drop i s) ≡ false
unfolding dotted
dotted_end s i le = rw (end_of s i le) refl

dot_there : (s : List ℕ) (i : ℕ) → i < length s → get_or s i 0 ≡ 46 → dotted s ≡ true
unfolding dotted
dot_there [] i lt h = absurd (omega arith)
dot_there (x ∷ s) zero lt h = rw h refl
dot_there (x ∷ s) (suc i) lt h = rw (dot_there s i (omega arith) h) (or_true (x == 46))
  where
    or_true : (b : Bool) → (b || true) ≡ true
    or_true true = refl
    or_true false = refl

-- no dot is after the one at i
pub space_there : (s : List ℕ) (i : ℕ) → i < length s → get_or s i 0 ≡ 46 → dotted (drop (suc i) s) ≡ false
    → take i s ≡ space_of s
unfolding space_of
space_there [] i lt h none = absurd (omega arith)
space_there (x ∷ s) zero lt h none = rw none refl
space_there (x ∷ s) (suc i) lt h none = rw (dot_there s i (omega arith) h) (ap (λ (r : List ℕ). x ∷ r)
    (space_there s i (omega arith) h none))

or_left : (b c : Bool) → (b || c) ≡ false → c ≡ false
or_left true c h = absurd cc
or_left false c h = h

pub no_space : (s : List ℕ) → dotted s ≡ false → [] ≡ space_of s
unfolding space_of dotted
no_space [] h = refl
no_space (x ∷ s) h = rw (or_left (x == 46) (dotted s) h) refl

pub no_last : (s : List ℕ) → dotted s ≡ false → s ≡ last_of s
unfolding last_of
no_last [] h = refl
no_last (x ∷ s) h = rw h refl

-- no dot is after the one at i
pub last_there : (s : List ℕ) (i : ℕ) → i < length s → get_or s i 0 ≡ 46 → dotted (drop (suc i) s) ≡ false
    → drop (suc i) s ≡ last_of s
unfolding last_of
last_there [] i lt h none = absurd (omega arith)
last_there (x ∷ s) zero lt h none = rw (dot_there (x ∷ s) 0 lt h) (no_last s none)
last_there (x ∷ s) (suc i) lt h none = rw (dot_there (x ∷ s) (suc i) lt h) (last_there s i (omega arith) h none)

pub items_count : (vs : List Value) → items_len (items_view vs) ≡ length vs
items_count [] = refl
items_count (v ∷ vs) = ap suc (items_count vs)

-- ---- ids

pub any_here : (id : ℤ) (fs : List Field) (i : ℕ) (f : Field) → i < length fs → f ≡ get_or fs i f
    → list_any (has_id id) (parts (drop i fs)) ≡ (option_eq int_eq f.id (Some id) || list_any (has_id id)
    (parts (drop (i + 1) fs)))
any_here id fs i f lt is = rw (step_of fs i f lt is) refl

pub any_done : (id : ℤ) (fs : List Field) (i : ℕ) → length fs ≤ i → list_any (has_id id) (parts (drop i fs)) ≡ false
any_done id fs i le = rw (end_of fs i le) refl

-- the id, as it is shown
pub fresh_twice : (id shown : ℤ) (fs : List Field) → shown ≡ id → list_any (has_id shown) (parts fs) ≡ true
    → fresh (Some id) (parts fs) ≡ Err (FieldTwice shown)
fresh_twice id shown fs same h = rw (← same, h) refl

pub fresh_new : (id shown : ℤ) (fs : List Field) → shown ≡ id → list_any (has_id shown) (parts fs) ≡ false
    → fresh (Some id) (parts fs) ≡ Ok (Some shown)
fresh_new id shown fs same h = rw (← same, h) refl
