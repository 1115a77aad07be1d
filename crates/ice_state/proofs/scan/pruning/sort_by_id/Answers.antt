use Rattle.std.proofs.Common.{◌≡◌, rules, Bor, Ordering, is_lt}
use Rattle.std.proofs.lemmas.List.Sorted.{answers_always}
use Rattle.ice_meta.specs.declared.spec.Spec.{Spec}
use Rattle.ice_state.specs.Specs.{id_before}
use Rattle.contract_words.proofs.Sorted.{sorted_from_sort}
use Rattle.ice_state.proofs.Specs.{id_order}
use Rattle.ice_state.proofs.scan.pruning.sort_by_id.Goals as goal

pub returns : goal.returns
returns c =
    sorted_from_sort id_before id_order c.args.specs.now.items c.sort_by.new.self.items
    (c.in_ok-sort_by.ensures.sorted id_before id_order (answers_always _ (λ (a : Bor Spec × (Bor Spec × Unit {0}))
    (r : Ordering). is_lt r ≡ id_before a.0.now a.1.0.now) _ (λ f a r g h. search rules)))
    (c.in_ok-sort_by.ensures.stable id_before id_order (answers_always _ (λ (a : Bor Spec × (Bor Spec × Unit {0}))
    (r : Ordering). is_lt r ≡ id_before a.0.now a.1.0.now) _ (λ f a r g h. search rules)))
