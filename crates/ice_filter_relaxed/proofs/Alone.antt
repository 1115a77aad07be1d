-- A filter of one predicate, and the parts of a relaxed filter.
use Rattle.std.proofs.Common.{◌≡◌, ℕ, ◌≤◌, Bool, true, false, List, [], ◌∷◌, length, take, Option, None, Some, Result, Ok, Err}
use Rattle.std.proofs.Common.{refl, ap, ◌∙◌}
use Rattle.std.proofs.Math.Seq.{take_all}
use Rattle.std.specs.Prelude.{if◌then◌else◌}
use Rattle.std.specs.Option.{option_and_then}
use Rattle.contract_words.specs.Outcome.{◌>>=◌}
use Rattle.ice_meta.specs.declared.schema.Schema.{Schema}
use Rattle.ice_filter.specs.declared.bound.BoundPredicate.{BoundPredicate}
use Rattle.ice_filter.specs.declared.fault.FilterFault.{FilterFault}
use Rattle.ice_filter.specs.declared.fault.FilterFault.TheVariants as fault
use Rattle.ice_filter.specs.declared.predicate.Predicate.{Predicate}
use Rattle.ice_filter.specs.declared.parts.Part.{Part}
use Rattle.ice_filter.specs.declared.parts.Part.TheVariants as part
use Rattle.ice_filter.specs.Binding.{bound_part, bound_parts, bound_predicate}
use Rattle.ice_filter.specs.Trees.{is_filter, is_one_filter, operands_after, operands_after_operand, operands_after_part}
use Rattle.ice_filter_relaxed.specs.Relaxing.{is_not_comparable, is_unasked, relaxed, relaxed_part}

-- ---- a predicate alone

abbrev bound_alone : Result BoundPredicate FilterFault → Result (List (Part BoundPredicate)) FilterFault
bound_alone bound = (bound >>= λ b. Ok (part.Predicate b)) >>= λ q. Ok [] >>= λ qs. Ok (q ∷ qs)

same_fault : (bound : Result BoundPredicate FilterFault)
    → is_not_comparable (bound_alone bound) ≡ is_not_comparable bound
same_fault (Ok b) = refl
same_fault (Err (fault.Syntax at)) = refl
same_fault (Err fault.NoSuchColumn) = refl
same_fault (Err fault.WrongLiteral) = refl
same_fault (Err fault.NotComparable) = refl
same_fault (Err fault.TooBig) = refl
same_fault (Err fault.Memory) = refl

pub refused_alone : (schema : Schema) (l : Predicate)
    → is_not_comparable (bound_parts schema (part.Predicate l ∷ [])) ≡ is_unasked schema l
unfolding bound_parts bound_part
refused_alone schema l = same_fault (bound_predicate schema l)

-- ---- the relaxed filter is one

same_operand : (b : Bool) (n : ℕ) (l : Predicate)
    → operands_after_part n (if b then part.True else part.Predicate l) ≡ operands_after_operand n
same_operand true n l = refl
same_operand false n l = refl

same_operands : (schema : Schema) (n : ℕ) (p : Part Predicate)
    → operands_after_part n (relaxed_part schema p) ≡ operands_after_part n p
same_operands schema n part.True = refl
same_operands schema n part.False = refl
same_operands schema n (part.Predicate l) = same_operand (is_unasked schema l) n l
same_operands schema n part.And = refl
same_operands schema n part.Or = refl

after_each : (o : Option ℕ) (g h : ℕ → Option ℕ) → ((m : ℕ) → g m ≡ h m) → option_and_then g o ≡ option_and_then h o
after_each None g h e = refl
after_each (Some m) g h e = e m

relaxed_operands : (schema : Schema) (n : ℕ) (ps : List (Part Predicate))
    → operands_after n (relaxed schema ps) ≡ operands_after n ps
relaxed_operands schema n [] = refl
relaxed_operands schema n (p ∷ ps) =
    ap (λ o. option_and_then (λ m. operands_after m (relaxed schema ps)) o) (same_operands schema n p)
    ∙ after_each (operands_after_part n p) (λ m. operands_after m (relaxed schema ps)) (λ m. operands_after m ps)
    (λ m. relaxed_operands schema m ps)

pub relaxed_filter : (schema : Schema) (ps : List (Part Predicate)) → is_filter (relaxed schema ps) ≡ is_filter ps
relaxed_filter schema ps = ap is_one_filter (relaxed_operands schema 0 ps)

-- a loop that went over all parts made the relaxed filter
pub whole_filter : (schema : Schema) (i : ℕ) (ps made : List (Part Predicate)) → made ≡ relaxed schema (take i ps)
    → length ps ≤ i → is_filter ps ≡ true → is_filter made ≡ true
whole_filter schema i ps made kept end is =
    ap is_filter (kept ∙ ap (λ (qs : List (Part Predicate)). relaxed schema qs) (take_all i ps end))
    ∙ relaxed_filter schema ps ∙ is
