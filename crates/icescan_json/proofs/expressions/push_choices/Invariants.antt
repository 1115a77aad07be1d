use Rattle.std.proofs.Common.{◌≡◌, ◌++◌, ◌∷◌, drop, flat_map}
use Rattle.icescan_json.specs.ExpressionTexts.{choices_text, literal_text}
use Rattle.icescan_json.proofs.expressions.push_choices.Given as goal

-- the text so far, and that of the other literals
abbrev pub invariant-literals : goal.invariant-literals
invariant-literals l = l.text ++ flat_map (λ x. 44 ∷ literal_text l.column_type x) (drop l.literal-index l.literal-items)
    ≡ l.fn.text ++ choices_text l.column_type l.choices
