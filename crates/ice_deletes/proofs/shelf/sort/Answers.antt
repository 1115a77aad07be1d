use Rattle.std.proofs.Common.{◌≡◌, rules, Bor, Ordering, is_lt}
use Rattle.std.proofs.lemmas.Fn.{always_returns_same}
use Rattle.ice_deletes.specs.Shelves.{earlier}
use Rattle.ice_deletes.specs.declared.delete.Delete.{Delete}
use Rattle.ice_deletes.proofs.Orders.{earlier_orders}
use Rattle.ice_deletes.proofs.shelf.sort.Goals as goal

pub returns-clause-rising : goal.returns-clause-rising
returns-clause-rising c =
    c.in_ok-sort_by.ensures.sorted (earlier c.args.group) (earlier_orders c.args.group)
    (always_returns_same _ (λ (a : Bor Delete × (Bor Delete × Unit {0})) (r : Ordering). is_lt r ≡ earlier c.args.group
    a.0.now a.1.0.now) _ (λ a r f k. (search rules, search rules)))
