use Rattle.std.proofs.Common.{◌≡◌, drop}
use Rattle.std.specs.List.{list_any}
use Rattle.icescan_columns.specs.Texts.{is_broken}
use Rattle.icescan_columns.proofs.lines.is_broken.Given as goal

-- no byte so far
abbrev pub invariant-bytes : goal.invariant-bytes
invariant-bytes l = list_any is_broken (drop l.byte-index l.name) ≡ list_any is_broken l.name
