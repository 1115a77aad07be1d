-- Steps of the loops, and of the levels of a type.
use Rattle.std.proofs.Common.{◌≡◌, ◌≢◌, ap, ℕ, zero, suc, ◌+◌, ◌-◌, ◌≤◌, ◌<◌, true, false, List, [], ◌∷◌, ◌++◌, length}
use Rattle.std.proofs.Common.{get_or, drop, Ok, Err, Bool, Some, None, true≢false, refl, sym, ◌∙◌}
use Rattle.std.proofs.Common.{arith}
use Rattle.std.specs.Prelude.{ℤ}
use Rattle.std.specs.List.{list_all, list_any, IsFirstAndRest}
use Rattle.std.specs.Option.{is_some}
use Rattle.std.specs.Ordering.{int_eq}
use Rattle.std.specs.Prelude.{◌&&◌, Result, find}
use Rattle.std.proofs.Math.ListN.{drop_of_length-le}
use Rattle.serde_json.specs.declared.value.Value.{Value}
use Rattle.serde_json.specs.Data.{Data}
use Rattle.serde_json.specs.Find.{as_object}
use Rattle.serde_json.specs.View.{view, items_view}
use Rattle.serde_json.specs.Events.{items_len}
use Rattle.ice_meta_json.proofs.Joined.{step_of}
use Rattle.ice_meta.specs.declared.fault.MetaFault.{MetaFault}
use Rattle.ice_meta.specs.declared.fault.MetaFault.TheVariants.{TooBig, Memory}
use Rattle.ice_meta.specs.declared.schema.Column.{Column}
use Rattle.ice_meta.specs.Members.{all_objects}
use Rattle.ice_meta.specs.Reading.{again, each_into, one_more}
use Rattle.ice_meta.specs.Schemas.{object_at, inside}

pub again_later : (ids others : List ℤ) (id shown : ℤ) → shown ≡ id → IsFirstAndRest ids id others
    → list_any (int_eq shown) others ≡ false → again ids ≡ again others
again_later ids others id shown same first other =
    let e : again (id ∷ others) ≡ again others = rw (rw same at other, again) refl in
    rw first.0 e

pub no_level : (n at : ℕ) (d : Data) (cs : List Column) → n ≡ 0 → inside n at d cs ≡ Err TooBig
unfolding inside
no_level zero at d cs none = refl
no_level (suc n) at d cs none = absurd (omega arith)

pub one_level : (n at : ℕ) (d : Data) (cs : List Column) → 0 < n → inside n at d cs ≡ object_at (inside (n - 1)) at d cs
unfolding inside
one_level zero at d cs some = absurd (omega arith)
one_level (suc n) at d cs some = let k : suc n - 1 ≡ n = omega arith in rw k refl

pub items_count : (vs : List Value) → items_len (items_view vs) ≡ length vs
items_count [] = refl
items_count (v ∷ vs) = ap suc (items_count vs)

-- whether each is an object, said of a list of values
pub all_objects_listed : (vs : List Value)
    → list_all (λ (v : Value). is_some (as_object (view v))) vs ≡ all_objects (items_view vs)
all_objects_listed [] = refl
all_objects_listed (v ∷ vs) = ap (λ b. is_some (as_object (view v)) && b) (all_objects_listed vs)

-- ---- reading one item after the other

pub into_on : {S : Type 0} (read : Data → S → Result S MetaFault) (vs : List Value) (i : ℕ) (v : Value) (s t : S)
    (total : Result S MetaFault) → i < length vs → v ≡ get_or vs i v → read (view v) s ≡ Ok t
    → each_into read (items_view (drop i vs)) s ≡ total → each_into read (items_view (drop (i + 1) vs)) t ≡ total
into_on read vs i v s t total lt is h so_far =
    let one : each_into read (items_view (drop i vs)) s ≡ each_into read (items_view (drop (i + 1) vs)) t =
    rw (step_of vs i v lt is, h) refl in
    sym one ∙ so_far

pub into_fails : {S : Type 0} (f : MetaFault) (read : Data → S → Result S MetaFault) (vs : List Value) (i : ℕ)
    (v : Value) (s : S) (total : Result S MetaFault) → i < length vs → v ≡ get_or vs i v
    → (f ≢ Memory → read (view v) s ≡ Err f)
    → each_into read (items_view (drop i vs)) s ≡ total → f ≢ Memory → total ≡ Err f
into_fails f read vs i v s total lt is h so_far ne =
    let one : each_into read (items_view (drop i vs)) s ≡ Err f = rw (step_of vs i v lt is, h ne) refl in
    sym so_far ∙ one

pub into_done : {S : Type 0} (read : Data → S → Result S MetaFault) (vs : List Value) (i : ℕ) (s : S)
    (total : Result S MetaFault) → length vs ≤ i → each_into read (items_view (drop i vs)) s ≡ total → total ≡ Ok s
into_done read vs i s total le so_far =
    let one : each_into read (items_view (drop i vs)) s ≡ Ok s = rw (drop_of_length-le vs le) refl in
    sym so_far ∙ one

pub one_read : {A : Type 0} (read : Data → Result A MetaFault) (d : Data) (front : List A) (x : A) → read d ≡ Ok x
    → one_more read d front ≡ Ok (front ++ x ∷ [])
one_read read d front x h = rw h refl

pub one_fails : {A : Type 0} (f : MetaFault) (read : Data → Result A MetaFault) (d : Data) (front : List A)
    → (f ≢ Memory → read d ≡ Err f) → f ≢ Memory → one_more read d front ≡ Err f
one_fails f read d front h ne = rw (h ne) refl

-- what some element passes is found
pub is_found : {A : Type 0} (test : A → Bool) (xs : List A) → list_any test xs ≡ true → find test xs ≡ None → ⊥
is_found test [] some none = true≢false (sym some)
is_found test (x ∷ xs) some none = here (test x) refl (is_found test xs)
  where
    here : (b : Bool) → test x ≡ b → (list_any test xs ≡ true → find test xs ≡ None → ⊥) → ⊥
    here true e later = let n : Some x ≡ None = rw e at none in cc
    here false e later = later (rw e at some) (rw e at none)
