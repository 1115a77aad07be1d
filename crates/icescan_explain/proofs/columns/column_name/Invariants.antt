use Rattle.std.proofs.Common.{◌≡◌, ◌++◌, ◌∷◌, take, string_bytes}
use Rattle.std.specs.List.{flat_map}
use Rattle.icescan_explain.proofs.columns.column_name.Given as goal

abbrev pub invariant-more : goal.invariant-more
invariant-more l = string_bytes l.name ≡ l.column.first ++ flat_map (λ name. 46 ∷ name) (take l.inner-index l.more)
