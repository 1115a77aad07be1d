use Rattle.std.proofs.Common.{ℕ}
use Rattle.std.proofs.lemmas.List.Sorted.{IsNonDecreasingBy-from_sort}
use Rattle.icescan_audit_findings.proofs.Standing.{all_flawed, still}
use Rattle.icescan_audit_findings.proofs.places.places_said.Goals as goal

pub returns-clause-sorted : goal.returns-clause-sorted
returns-clause-sorted c = IsNonDecreasingBy-from_sort (λ (n : ℕ). n) c.sort_unstable.new.self.items
    c.sort_unstable.ensures.sorted

pub returns-clause-flawed : goal.returns-clause-flawed
returns-clause-flawed c = λ columns finds.
    let index = c.args.by_id.now.pairs.now in
    let first = c.push_places.new.found.items in
    let second = c.push_places-2.new.found.items in
    let third = c.push_places-3.new.found.items in
    let later = c.in_ok-push_places-3.ensures.kept in
    all_flawed c.args.bounds.now columns index c.pairs.result.now c.pairs-2.result.now c.pairs-3.result.now third
    c.sort_unstable.new.self.items finds c.pairs.ensures c.pairs-2.ensures c.pairs-3.ensures
    (still index c.pairs.result.now first third (λ k h. later k (c.in_ok-push_places-2.ensures.kept k h))
    c.in_ok-push_places.ensures.told)
    (still index c.pairs-2.result.now second third later c.in_ok-push_places-2.ensures.told)
    c.in_ok-push_places-3.ensures.told c.sort_unstable.ensures.permutation
