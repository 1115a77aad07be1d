use Rattle.std.proofs.Common.{◌≡◌, ◌++◌, take, filter, nat_le}
use Rattle.ice_deletes.proofs.numbers.push_from.Given as goal

abbrev pub invariant-numbers : goal.invariant-numbers
invariant-numbers l = l.held.items ≡ l.fn.held.items ++ filter (nat_le l.least) (take l.number-index l.numbers)
