use Rattle.std.proofs.Common.{◌≡◌, ◌++◌, take}
use Rattle.std.specs.List.{flat_map}
use Rattle.icescan_columns.specs.Texts.{spec_text}
use Rattle.icescan_columns.proofs.lines.push_specs.Given as goal

-- the lines so far
abbrev pub invariant-specs : goal.invariant-specs
invariant-specs l = l.text.items ≡ l.fn.text.items ++ flat_map spec_text (take l.spec-index l.specs)
