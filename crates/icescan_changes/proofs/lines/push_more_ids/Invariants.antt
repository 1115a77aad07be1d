use Rattle.std.proofs.Common.{◌≡◌, ◌++◌, ◌∷◌, take}
use Rattle.std.specs.Fmt.{signed_decimal}
use Rattle.std.specs.List.{flat_map}
use Rattle.icescan_changes.proofs.lines.push_more_ids.Given as goal

-- the ids so far
abbrev pub invariant-ids : goal.invariant-ids
invariant-ids l = l.text.items ≡ l.fn.text.items ++ flat_map (λ i. 44 ∷ signed_decimal i) (take l.id-index l.ids)
