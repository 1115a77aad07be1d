use Rattle.std.proofs.Common.{◌≡◌, ◌++◌, drop, flat_map}
use Rattle.ice_filter.specs.Texts.{column_text, dotted_text}
use Rattle.ice_filter.proofs.text.push_column.Given as goal

-- the text so far, and that of the other names
abbrev pub invariant-names : goal.invariant-names
invariant-names l = l.phrase ++ flat_map dotted_text (drop l.name-index l.name-items) ≡ l.fn.phrase ++ column_text
    l.column
