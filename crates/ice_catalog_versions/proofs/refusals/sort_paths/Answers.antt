use Rattle.std.proofs.Common.{◌≡◌, ℕ, List, rules, ◌∙◌, ap, map, Bor, Ordering, is_lt}
use Rattle.std.specs.Cmp.{IsStrictWeakOrder}
use Rattle.std.proofs.lemmas.Cmp.{nat_list_cmp_total}
use Rattle.std.proofs.lemmas.List.Sorted.{answers_always, ranks_by}
use Rattle.contract_words.proofs.Sorted.{sorted_from_sort, map-sorted}
use Rattle.ice_catalog_versions.specs.Refusals.{path_before}
use Rattle.ice_catalog_versions.proofs.refusals.sort_paths.Goals as goal

pub returns-clause-sorted : goal.returns-clause-sorted
returns-clause-sorted c =
    let before = λ (a : Bor (List ℕ)) (b : Bor (List ℕ)). path_before a.now b.now in
    let order : IsStrictWeakOrder before = ranks_by nat_list_cmp_total (λ (a : Bor (List ℕ)). a.now) in
    let sort = sorted_from_sort before order c.args.paths.now.items c.sort_by.new.self.items
    (c.in_ok-sort_by.ensures.sorted before order
    (answers_always _ (λ (a : Bor (Bor (List ℕ)) × (Bor (Bor (List ℕ)) × Unit {0})) (r : Ordering). is_lt r ≡ before
    a.0.now a.1.0.now) _ (λ f a r g h. search rules)))
    (c.in_ok-sort_by.ensures.stable before order
    (answers_always _ (λ (a : Bor (Bor (List ℕ)) × (Bor (Bor (List ℕ)) × Unit {0})) (r : Ordering). is_lt r ≡ before
    a.0.now a.1.0.now) _ (λ f a r g h. search rules))) in
    ap (map (λ (x : Bor (List ℕ)). x.now)) sort ∙ map-sorted (λ (x : Bor (List ℕ)). x.now) path_before
    c.args.paths.now.items

pub returns-clause-order : goal.returns-clause-order
returns-clause-order c =
    let before = λ (a : Bor (List ℕ)) (b : Bor (List ℕ)). path_before a.now b.now in
    let order : IsStrictWeakOrder before = ranks_by nat_list_cmp_total (λ (a : Bor (List ℕ)). a.now) in
    c.in_ok-sort_by.ensures.sorted before order
    (answers_always _ (λ (a : Bor (Bor (List ℕ)) × (Bor (Bor (List ℕ)) × Unit {0})) (r : Ordering). is_lt r ≡ before
    a.0.now a.1.0.now) _ (λ f a r g h. search rules))
