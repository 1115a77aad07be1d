use Rattle.std.proofs.Common.{◌≡◌, rules, ◌∙◌, ap, map, Bor, Ordering, is_lt}
use Rattle.std.specs.Cmp.{IsStrictWeakOrder}
use Rattle.std.proofs.lemmas.List.Sorted.{answers_always, ranks_by}
use Rattle.contract_words.proofs.Sorted.{sorted_from_sort, map-sorted}
use Rattle.icescan_print.proofs.table_text.sort_lines.Goals as goal

pub returns : goal.returns
returns g c =
    let before = λ (a : Bor g.row.T.Denot) (b : Bor g.row.T.Denot). is_lt (g.T.TableLine.order a.now b.now) in
    let order : IsStrictWeakOrder before = ranks_by g.met.T.TableLine.total (λ (a : Bor g.row.T.Denot). a.now) in
    let sort = sorted_from_sort before order c.args.items.now.items c.sort_by.new.self.items
    (c.in_ok-sort_by.ensures.sorted before order
    (answers_always _ (λ (a : Bor (Bor g.row.T.Denot) × (Bor (Bor g.row.T.Denot) × Unit {0})) (r : Ordering). is_lt
    r ≡ before a.0.now a.1.0.now) _ (λ f a r h k. search rules)))
    (c.in_ok-sort_by.ensures.stable before order
    (answers_always _ (λ (a : Bor (Bor g.row.T.Denot) × (Bor (Bor g.row.T.Denot) × Unit {0})) (r : Ordering). is_lt
    r ≡ before a.0.now a.1.0.now) _ (λ f a r h k. search rules))) in
    ap (map (λ (x : Bor g.row.T.Denot). x.now)) sort ∙ map-sorted (λ (x : Bor g.row.T.Denot). x.now)
    (λ a b. is_lt (g.T.TableLine.order a b)) c.args.items.now.items
