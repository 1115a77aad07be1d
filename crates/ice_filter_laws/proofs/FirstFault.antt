-- The fault of the first predicate at fault.
use Rattle.std.proofs.Common.{◌≡◌, inl, inr, ℕ, zero, suc, ◌+◌, ◌<◌, ◌≤◌, Bool, true, false, List, [], ◌∷◌}
use Rattle.std.proofs.Common.{◌++◌, length, Option, None, Some, Result, Ok, Err, refl, sym, ap, ◌∙◌, arith, subst}
use Rattle.std.proofs.Common.{slice_get}
use Rattle.std.proofs.Common.{append_assoc, append-nil, nat_lt, ltb, ltb-true, ltb-false, cond}
use Rattle.std.specs.List.{Contains}
use Rattle.std.specs.Option.{option_and_then}
use Rattle.contract_words.specs.Outcome.{◌>>=◌}
use Rattle.ice_meta.specs.declared.schema.Schema.{Schema}
use Rattle.ice_filter.specs.declared.bound.BoundPredicate.{BoundPredicate}
use Rattle.ice_filter.specs.declared.fault.FilterFault.{FilterFault}
use Rattle.ice_filter.specs.declared.predicate.Predicate.{Predicate}
use Rattle.ice_filter.specs.declared.parts.Part.{Part}
use Rattle.ice_filter.specs.declared.parts.Part.TheVariants as part
use Rattle.ice_filter.specs.Binding.{bound_predicate, bound_part, bound_parts}
use Rattle.ice_filter.specs.Trees.{Tree, top, read_part, read_parts, tree_of}
use Rattle.ice_filter.specs.Trees.{most_operands, operands_after_operand, operands_after_part}
use Rattle.ice_filter.specs.Trees.{operands_after, is_one_filter}
use Rattle.ice_filter_laws.specs.Faults.{IsFaultOf, IsSound, predicates, IsOfTheFirst, TellsTheFirst}
use Rattle.ice_filter_laws.specs.Faults.{BindsSoundPredicates}
use Rattle.ice_filter_laws.proofs.Predicates.{
  here,
  later,
  nowhere,
  cases_of,
  PredicateComes,
  predicate_comes,
  fault_once,
}

-- ---- parts and their predicates

abbrev held : List (Part Predicate) → List Predicate
held [] = []
held (part.Predicate l ∷ ps) = l ∷ held ps
held (p ∷ ps) = held ps

-- the predicates of the filters that wait, those of the first one first
abbrev waiting : List (Tree Predicate) → List Predicate
waiting [] = []
waiting (t ∷ ts) = waiting ts ++ predicates t

operand : (k n : ℕ) → operands_after_operand k ≡ Some n → suc k ≡ n
operand k n e = here_is (nat_lt k most_operands) e
  where
    here_is : (b : Bool) → cond b (Some (k + 1)) None ≡ Some n → suc k ≡ n
    here_is true is = let same : k + 1 ≡ n = cc in omega arith
    here_is false is = absurd cc

-- what the parts of a filter leave
held_step : (ts : List (Tree Predicate)) (p : Part Predicate) (ps : List (Part Predicate)) (n : ℕ)
    → operands_after_part (length ts) p ≡ Some n
    → (length (read_part ts p) ≡ n) × (waiting (read_part ts p) ++ held ps ≡ waiting ts ++ held (p ∷ ps))
held_step ts part.True ps n e = (operand (length ts) n e, ap (λ v. v ++ held ps) (append-nil (waiting ts)))
held_step ts part.False ps n e = (operand (length ts) n e, ap (λ v. v ++ held ps) (append-nil (waiting ts)))
held_step ts (part.Predicate l) ps n e = (operand (length ts) n e, append_assoc (waiting ts) (l ∷ []) (held ps))
held_step [] part.And ps n e = absurd cc
held_step (t ∷ []) part.And ps n e = absurd cc
held_step (t ∷ s ∷ ts) part.And ps n e = (
  (let same : Some (suc (length ts)) ≡ Some n = e in cc),
  ap (λ v. v ++ held ps)
      (sym (append_assoc (waiting ts) (predicates s) (predicates t))),
)
held_step [] part.Or ps n e = absurd cc
held_step (t ∷ []) part.Or ps n e = absurd cc
held_step (t ∷ s ∷ ts) part.Or ps n e = (
  (let same : Some (suc (length ts)) ≡ Some n = e in cc),
  ap (λ v. v ++ held ps)
      (sym (append_assoc (waiting ts) (predicates s) (predicates t))),
)

held_on : (ts : List (Tree Predicate)) (p : Part Predicate) (ps : List (Part Predicate)) (n : ℕ) (o : Option ℕ)
    → operands_after_part (length ts) p ≡ o → option_and_then (λ m. operands_after m ps) o ≡ Some n
    → ((us : List (Tree Predicate)) → operands_after (length us) ps ≡ Some n
    → (length (read_parts us ps) ≡ n) × (waiting (read_parts us ps) ≡ waiting us ++ held ps))
    → (length (read_parts (read_part ts p) ps) ≡ n)
    × (waiting (read_parts (read_part ts p) ps) ≡ waiting ts ++ held (p ∷ ps))
held_on ts p ps n None is e more = absurd cc
held_on ts p ps n (Some m) is e more =
    let s = held_step ts p ps m is in
    let P : ℕ → Type 0 = λ k. operands_after k ps ≡ Some n in
    let r = more (read_part ts p) (subst P (sym s.0) e) in
    (r.0, r.1 ∙ s.1)

held_all : (ts : List (Tree Predicate)) (ps : List (Part Predicate)) (n : ℕ) → operands_after (length ts) ps ≡ Some n
    → (length (read_parts ts ps) ≡ n) × (waiting (read_parts ts ps) ≡ waiting ts ++ held ps)
held_all ts [] n e = ((let same : Some (length ts) ≡ Some n = e in cc), sym (append-nil (waiting ts)))
held_all ts (p ∷ ps) n e =
    held_on ts p ps n (operands_after_part (length ts) p) refl e (λ us f. held_all us ps n f)

one_waits : (ts : List (Tree Predicate)) (n : ℕ) → length ts ≡ n → is_one_filter (Some n) ≡ true
    → predicates (top ts) ≡ waiting ts
one_waits [] n size one = refl
one_waits (t ∷ []) n size one = refl
one_waits (t ∷ s ∷ ts) n size one = let lt = ltb-true n 2 one in absurd (omega (arith, size))

filter_predicates : (ps : List (Part Predicate)) (o : Option ℕ) → operands_after 0 ps ≡ o → is_one_filter o ≡ true
    → predicates (tree_of ps) ≡ held ps
filter_predicates ps None e one = absurd cc
filter_predicates ps (Some n) e one =
    let h = held_all [] ps n e in
    one_waits (read_parts [] ps) n h.0 one ∙ h.1

-- ---- what comes of the parts

abbrev AllSound : Schema → List Predicate → Type 0
AllSound schema ls = (l : Predicate) → Contains ls l → IsSound schema l

abbrev Come : Schema → List Predicate → Result (List (Part BoundPredicate)) FilterFault → Type 0
Come schema ls (Ok bound) = AllSound schema ls
Come schema ls (Err f) = IsOfTheFirst schema ls f

-- with one part more in front that is no predicate
come_part : (schema : Schema) (ls : List Predicate) (q : Part BoundPredicate)
    (r : Result (List (Part BoundPredicate)) FilterFault)
    → Come schema ls r → Come schema ls (r >>= λ qs. Ok (q ∷ qs))
come_part schema ls q (Ok bound) c = c
come_part schema ls q (Err f) c = c

sound_before : (schema : Schema) (l : Predicate) (ls : List Predicate) (place : ℕ) → IsSound schema l
    → ((before : ℕ) (other : Predicate) → before < place → slice_get ls before ≡ Some other → IsSound schema other)
    → (before : ℕ) (other : Predicate) → before < suc place → slice_get (l ∷ ls) before ≡ Some other
    → IsSound schema other
sound_before schema l ls place one more zero other lt at =
    let same : l ≡ other = cc in
    let P : Predicate → Type 0 = λ v. IsSound schema v in
    subst P same one
sound_before schema l ls place one more (suc before) other lt at = more before other (omega (arith, lt)) at

-- with one sound predicate more in front
come_sound : (schema : Schema) (l : Predicate) (ls : List Predicate) (q : Part BoundPredicate)
    (r : Result (List (Part BoundPredicate)) FilterFault) → IsSound schema l → Come schema ls r
    → Come schema (l ∷ ls) (r >>= λ qs. Ok (q ∷ qs))
come_sound schema l ls q (Ok bound) one c = λ m in_it. elim (cases_of l ls m in_it) as (λ _. IsSound schema m)
    [ inl same ↦ (let P : Predicate → Type 0 = λ v. IsSound schema v in subst P same one) | inr more ↦ c m more ]
come_sound schema l ls q (Err f) one c = (suc c.0, c.1, c.2, c.3, sound_before schema l ls c.0 one c.4)

come_predicate : (schema : Schema) (l : Predicate) (ls : List Predicate) (b : Result BoundPredicate FilterFault)
    (r : Result (List (Part BoundPredicate)) FilterFault) → PredicateComes schema l b → Come schema ls r
    → Come schema (l ∷ ls) ((b >>= λ c. Ok (part.Predicate c)) >>= λ q. r >>= λ qs. Ok (q ∷ qs))
come_predicate schema l ls (Ok b) r one c = come_sound schema l ls (part.Predicate b) r one c
come_predicate schema l ls (Err f) r one c = (0, l, refl, one, λ before other lt at. absurd (omega (arith, lt)))

come : (schema : Schema) (ps : List (Part Predicate)) → Come schema (held ps) (bound_parts schema ps)
unfolding bound_parts bound_part
come schema [] = λ l in_it. absurd (nowhere l in_it)
come schema (part.True ∷ ps) = come_part schema (held ps) part.True (bound_parts schema ps) (come schema ps)
come schema (part.False ∷ ps) = come_part schema (held ps) part.False (bound_parts schema ps) (come schema ps)
come schema (part.Predicate l ∷ ps) =
    come_predicate schema l (held ps) (bound_predicate schema l) (bound_parts schema ps) (predicate_comes schema l)
    (come schema ps)
come schema (part.And ∷ ps) = come_part schema (held ps) part.And (bound_parts schema ps) (come schema ps)
come schema (part.Or ∷ ps) = come_part schema (held ps) part.Or (bound_parts schema ps) (come schema ps)

-- ---- one fault is told

first_at : (schema : Schema) (ls : List Predicate) (f g : FilterFault) (x : IsOfTheFirst schema ls f)
    (y : IsOfTheFirst schema ls g) (a b : Bool) → ltb x.0 y.0 ≡ a → ltb y.0 x.0 ≡ b → f ≡ g
first_at schema ls f g x y true b p q = absurd (y.4 x.0 x.1 (ltb-true x.0 y.0 p) x.2 f x.3.0)
first_at schema ls f g x y false true p q = absurd (x.4 y.0 y.1 (ltb-true y.0 x.0 q) y.2 g y.3.0)
first_at schema ls f g x y false false p q =
    let le : y.0 ≤ x.0 = ltb-false x.0 y.0 p in
    let ge : x.0 ≤ y.0 = ltb-false y.0 x.0 q in
    let place : x.0 ≡ y.0 = omega arith in
    let e : slice_get ls x.0 ≡ slice_get ls y.0 = ap (slice_get ls) place in
    let same : y.1 ≡ x.1 = (let s : Some x.1 ≡ Some y.1 = sym x.2 ∙ e ∙ y.2 in cc) in
    let P : Predicate → Type 0 = λ v. IsFaultOf schema v g in
    fault_once schema x.1 f g x.3 (subst P same y.3)

contained : {X : Type 0} (xs : List X) (k : ℕ) (x : X) → slice_get xs k ≡ Some x → Contains xs x
contained [] k x h = absurd cc
contained (y ∷ ys) zero x h = here y ys x (let same : Some y ≡ Some x = h in cc)
contained (y ∷ ys) (suc k) x h = later y ys x (contained ys k x h)

none_first : (schema : Schema) (ls : List Predicate) (f : FilterFault) → AllSound schema ls → IsOfTheFirst schema ls f
    → ⊥
none_first schema ls f all x = all x.1 (contained ls x.0 x.1 x.2) f x.3.0

to_first : (schema : Schema) (ls : List Predicate) (r : Result (List (Part BoundPredicate)) FilterFault)
    (f : FilterFault)
    → Come schema ls r → r ≡ Err f → IsOfTheFirst schema ls f
to_first schema ls (Ok bound) f c e = absurd cc
to_first schema ls (Err g) f c e =
    let same : g ≡ f = cc in
    let P : FilterFault → Type 0 = λ v. IsOfTheFirst schema ls v in
    subst P same c

from_first : (schema : Schema) (ls : List Predicate) (r : Result (List (Part BoundPredicate)) FilterFault)
    (f : FilterFault)
    → Come schema ls r → IsOfTheFirst schema ls f → r ≡ Err f
from_first schema ls (Ok bound) f c x = absurd (none_first schema ls f c x)
from_first schema ls (Err g) f c x = ap Err (first_at schema ls g f c x (ltb c.0 x.0) (ltb x.0 c.0) refl refl)

abbrev Bound : Result (List (Part BoundPredicate)) FilterFault → Type 0
Bound r = (bound : List (Part BoundPredicate)) × (r ≡ Ok bound)

to_sound : (schema : Schema) (ls : List Predicate) (r : Result (List (Part BoundPredicate)) FilterFault)
    → Come schema ls r
    → Bound r → AllSound schema ls
to_sound schema ls (Ok bound) c b = c
to_sound schema ls (Err g) c b = absurd (let e = b.1 in cc)

from_sound : (schema : Schema) (ls : List Predicate) (r : Result (List (Part BoundPredicate)) FilterFault)
    → Come schema ls r
    → AllSound schema ls → Bound r
from_sound schema ls (Ok bound) c all = (bound, refl)
from_sound schema ls (Err g) c all = absurd (none_first schema ls g all c)

pub tells_the_first : TellsTheFirst
tells_the_first schema parts f filter =
    rw (filter_predicates parts (operands_after 0 parts) refl filter) (
      to_first schema (held parts) (bound_parts schema parts) f (come schema parts),
      from_first schema (held parts) (bound_parts schema parts) f (come schema parts),
    )

pub binds_sound_predicates : BindsSoundPredicates
binds_sound_predicates schema parts filter =
    rw (filter_predicates parts (operands_after 0 parts) refl filter) (
      to_sound schema (held parts) (bound_parts schema parts) (come schema parts),
      from_sound schema (held parts) (bound_parts schema parts) (come schema parts),
    )
