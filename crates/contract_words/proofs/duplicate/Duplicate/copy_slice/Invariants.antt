use Rattle.std.proofs.Common.{◌≡◌, take}
use Rattle.contract_words.proofs.duplicate.Duplicate.copy_slice.Given as goal

-- what was copied so far is the front of the values
abbrev pub invariant-values : goal.invariant-values
invariant-values g l = l.copied.items ≡ take l.value-index l.values
