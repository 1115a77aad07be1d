-- A relaxed filter is met exactly where the filter may be.
use Rattle.std.proofs.Common.{◌≡◌, Bool, true, false, ◌&&◌, ◌||◌, List, [], ◌∷◌, refl, sym, ap, ◌∙◌}
use Rattle.std.proofs.lemmas.Bool.{and_parts}
use Rattle.std.specs.Prelude.{if◌then◌else◌}
use Rattle.ice_meta.specs.declared.schema.Schema.{Schema}
use Rattle.ice_filter.specs.declared.predicate.Predicate.{Predicate}
use Rattle.ice_filter.specs.declared.parts.Part.{Part}
use Rattle.ice_filter.specs.declared.parts.Part.TheVariants as part
use Rattle.ice_filter.specs.Binding.{predicate_meets}
use Rattle.ice_filter.specs.Rows.{Row}
use Rattle.ice_filter.specs.Trees.{Tree, truth, predicate, both, either, meaning, tree_of}
use Rattle.ice_filter.specs.Truths.{judge_part, judge_parts, top}
use Rattle.ice_filter.proofs.Stacks.{judged_tree}
use Rattle.ice_filter_relaxed.specs.Relaxing.{IsTruth, MayMeet, is_unasked, relaxed, relaxed_part}

-- the truth of predicates of which those are true that are not asked
abbrev granted : Schema → (Predicate → Bool) → Predicate → Bool
granted schema met l = if is_unasked schema l then true else met l

same_truth : (met : Predicate → Bool) (bs : List Bool) (b : Bool) (l : Predicate)
    → judge_part met bs (if b then part.True else part.Predicate l) ≡ (if b then true else met l) ∷ bs
same_truth met bs true l = refl
same_truth met bs false l = refl

same_truths : (schema : Schema) (met : Predicate → Bool) (bs : List Bool) (p : Part Predicate)
    → judge_part met bs (relaxed_part schema p) ≡ judge_part (granted schema met) bs p
same_truths schema met bs part.True = refl
same_truths schema met bs part.False = refl
same_truths schema met bs (part.Predicate l) = same_truth met bs (is_unasked schema l) l
same_truths schema met bs part.And = refl
same_truths schema met bs part.Or = refl

granted_truths : (schema : Schema) (met : Predicate → Bool) (bs : List Bool) (ps : List (Part Predicate))
    → judge_parts met bs (relaxed schema ps) ≡ judge_parts (granted schema met) bs ps
granted_truths schema met bs [] = refl
granted_truths schema met bs (p ∷ ps) =
    ap (λ cs. judge_parts met cs (relaxed schema ps)) (same_truths schema met bs p)
    ∙ granted_truths schema met (judge_part (granted schema met) bs p) ps

relaxed_meaning : (schema : Schema) (met : Predicate → Bool) (ps : List (Part Predicate))
    → meaning met (tree_of (relaxed schema ps)) ≡ meaning (granted schema met) (tree_of ps)
relaxed_meaning schema met ps =
    sym (judged_tree met (relaxed schema ps)) ∙ ap top (granted_truths schema met [] ps)
    ∙ judged_tree (granted schema met) ps

-- ---- where more predicates are met

first_of_two : (a b : Bool) → a ≡ true → (a || b) ≡ true
first_of_two true b h = refl
first_of_two false b h = absurd (cc)

second_of_two : (a b : Bool) → b ≡ true → (a || b) ≡ true
second_of_two true b h = refl
second_of_two false b h = h

either_more : (a b c d : Bool) → (a ≡ true → c ≡ true) → (b ≡ true → d ≡ true) → (a || b) ≡ true → (c || d) ≡ true
either_more true b c d left right h = first_of_two c d (left refl)
either_more false b c d left right h = second_of_two c d (right h)

more_met : (f g : Predicate → Bool) → ((l : Predicate) → f l ≡ true → g l ≡ true) → (t : Tree Predicate)
    → meaning f t ≡ true → meaning g t ≡ true
more_met f g more (truth b) h = h
more_met f g more (predicate l) h = more l h
more_met f g more (both s t) h =
    let parts = and_parts (meaning f s) (meaning f t) h in
    rw (more_met f g more s parts.0, more_met f g more t parts.1) refl
more_met f g more (either s t) h =
    either_more (meaning f s) (meaning f t) (meaning g s) (meaning g t) (more_met f g more s) (more_met f g more t) h

-- ---- the law

granted_more : (b m g : Bool) → (b ≡ false → m ≡ g) → m ≡ true → (if b then true else g) ≡ true
granted_more true m g same h = refl
granted_more false m g same h = sym (same refl) ∙ h

pub met_where_it_may : (schema : Schema) (ps : List (Part Predicate)) (row : Row) → MayMeet schema ps row
    → meaning (predicate_meets schema row) (tree_of (relaxed schema ps)) ≡ true
met_where_it_may schema ps row may =
    let meets = predicate_meets schema row in
    relaxed_meaning schema meets ps
    ∙ more_met may.0 (granted schema meets)
    (λ l h. granted_more (is_unasked schema l) (may.0 l) (meets l) (may.1 l) h) (tree_of ps) may.2

pub may_where_it_is_met : (schema : Schema) (ps : List (Part Predicate)) (row : Row)
    → meaning (predicate_meets schema row) (tree_of (relaxed schema ps)) ≡ true → MayMeet schema ps row
may_where_it_is_met schema ps row h =
    let meets = predicate_meets schema row in (
      granted schema meets,
      (λ l asked. ap (λ b. if b then true else meets l) asked),
      sym (relaxed_meaning schema meets ps) ∙ h,
    )
