-- Walks whose stops have no fault, and walks that end at the first.
use Rattle.std.proofs.Common.{◌≡◌, ◌⊎◌, List, [], ◌∷◌, ◌++◌, refl}
use mathlib.Core.Logic.{inl, inr}
use Rattle.avro_schema.specs.declared.fault.SchemaFault.{SchemaFault}
use Rattle.avro_schema_laws.specs.Walk.{Stop}
use Rattle.avro_schema_laws.specs.Faults.{OneOf, first_one, later_one, IsFault, FirstFault, here, later}

-- the stops before, once these were passed
abbrev pub passed : List Stop → List Stop → List Stop
passed before [] = before
passed before (s ∷ more) = passed (s ∷ before) more

pub passed_both : (before one other : List Stop) → passed before (one ++ other) ≡ passed (passed before one) other
passed_both before [] other = refl
passed_both before (s ∷ one) other = passed_both (s ∷ before) one other

abbrev pub Faultless : List Stop → Stop → Type 0
Faultless before s = (f : SchemaFault) → IsFault before s f → ⊥

abbrev pub Only : List Stop → Stop → SchemaFault → Type 0
Only before s e = IsFault before s e × ((f : SchemaFault) → IsFault before s f → f ≡ e)

pub data Passes : List Stop → List Stop → Type 0 where
  none_left : {before : List Stop} → Passes before []
  passes_on : {before more : List Stop} {s : Stop} → Faultless before s → Passes (s ∷ before) more
      → Passes before (s ∷ more)

pub data Fails : List Stop → List Stop → SchemaFault → Type 0 where
  fails_here : {before more : List Stop} {s : Stop} {e : SchemaFault} → Only before s e → Fails before (s ∷ more) e
  fails_on : {before more : List Stop} {s : Stop} {e : SchemaFault} → Faultless before s → Fails (s ∷ before) more e
      → Fails before (s ∷ more) e

pub passes_both : (before one other : List Stop) → Passes before one → Passes (passed before one) other
    → Passes before (one ++ other)
passes_both before one other none_left h = h
passes_both before one other (passes_on {more} {s} free rest) h =
    passes_on free (passes_both (s ∷ before) more other rest h)

pub fails_second : (before one other : List Stop) (e : SchemaFault) → Passes before one
    → Fails (passed before one) other e → Fails before (one ++ other) e
fails_second before one other e none_left h = h
fails_second before one other e (passes_on {more} {s} free rest) h =
    fails_on free (fails_second (s ∷ before) more other e rest h)

pub fails_first : (before one other : List Stop) (e : SchemaFault) → Fails before one e
    → Fails before (one ++ other) e
fails_first before one other e (fails_here h) = fails_here h
fails_first before one other e (fails_on {more} {s} free h) = fails_on free (fails_first (s ∷ before) more other e h)

-- ---- against the definition

pub has_first : {before stops : List Stop} {e : SchemaFault} → Fails before stops e → FirstFault before stops e
has_first (fails_here h) = here h.0
has_first (fails_on free h) = later free (has_first h)

pub one_first : (before stops : List Stop) (e f : SchemaFault) → Fails before stops e → FirstFault before stops f
    → f ≡ e
one_first before stops e f (fails_here h) (here k) = h.1 f k
one_first before stops e f (fails_here h) (later free k) = absurd (free e h.0)
one_first before stops e f (fails_on free h) (here k) = absurd (free f k)
one_first before stops e f (fails_on {more} {s} free h) (later other k) = one_first (s ∷ before) more e f h k

no_stop : (before stops : List Stop) (f : SchemaFault) → stops ≡ [] → FirstFault before stops f → ⊥
no_stop before stops f e (here k) = absurd cc
no_stop before stops f e (later free k) = absurd cc

pub none_first : (before stops : List Stop) (f : SchemaFault) → Passes before stops → FirstFault before stops f → ⊥
none_first before stops f none_left k = no_stop before [] f refl k
none_first before stops f (passes_on free rest) (here k) = free f k
none_first before stops f (passes_on {more} {s} free rest) (later other k) = none_first (s ∷ before) more f rest k

-- ---- which stops were passed

pub none_of : {A : Type 0} (x : A) (xs : List A) → xs ≡ [] → OneOf x xs → ⊥
none_of x xs e first_one = absurd cc
none_of x xs e (later_one h) = absurd cc

pub still_passed : (x : Stop) (before stops : List Stop) → OneOf x before → OneOf x (passed before stops)
still_passed x before [] h = h
still_passed x before (s ∷ more) h = still_passed x (s ∷ before) more (later_one h)

pub is_passed : (x : Stop) (before stops : List Stop) → OneOf x stops → OneOf x (passed before stops)
is_passed x before stops (first_one {xs}) = still_passed x (x ∷ before) xs first_one
is_passed x before stops (later_one {y} {xs} h) = is_passed x (y ∷ before) xs h

step_back : (x s : Stop) (before more : List Stop) → OneOf x (s ∷ before) ⊎ OneOf x more
    → OneOf x before ⊎ OneOf x (s ∷ more)
step_back x s before more (inl first_one) = inr first_one
step_back x s before more (inl (later_one h)) = inl h
step_back x s before more (inr h) = inr (later_one h)

pub passed_cases : (x : Stop) (before stops : List Stop) → OneOf x (passed before stops)
    → OneOf x before ⊎ OneOf x stops
passed_cases x before [] h = inl h
passed_cases x before (s ∷ more) h = step_back x s before more (passed_cases x (s ∷ before) more h)

pub one_first_both : {A : Type 0} (x : A) (one other : List A) → OneOf x one → OneOf x (one ++ other)
one_first_both x one other (first_one) = first_one
one_first_both x one other (later_one {xs} h) = later_one (one_first_both x xs other h)

pub one_second_both : {A : Type 0} (x : A) (one other : List A) → OneOf x other → OneOf x (one ++ other)
one_second_both x [] other h = h
one_second_both x (y ∷ one) other h = later_one (one_second_both x one other h)
