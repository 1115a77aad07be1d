use Rattle.std.proofs.Common.{◌≡◌, ◌++◌, drop, flat_map}
use Rattle.ice_filter.specs.Texts.{choices_text, listed_text}
use Rattle.ice_filter.proofs.text.push_choices.Given as goal

-- the text so far, and that of the other literals
abbrev pub invariant-literals : goal.invariant-literals
invariant-literals l = l.phrase ++ flat_map listed_text (drop l.literal-index l.literal-items) ≡ l.fn.phrase ++
    choices_text l.choices
