use Rattle.std.proofs.Common.{[], ap, sym, ◌∙◌}
use Rattle.std.proofs.lemmas.List.{drop_all}
use Rattle.ice_filter.specs.Truths.{judge_parts, top}
use Rattle.ice_filter.proofs.Stacks.{judged_tree}
use Rattle.ice_filter.proofs.parts.Parts.is_met.Goals as goal

pub returns : goal.returns
returns g c =
    let met = g.T.PredicateTest.says c.args.test.now in
    let items = c.as_slice-part-items.result.now in
    let over = ap (λ ps. judge_parts met c.parts.truths ps) (drop_all c.parts.part-index items c.parts-test.false) in
    let whole = ap (λ ps. judge_parts met [] ps) (c.as_slice-part-items.ensures ∙ c.self.view_is) in
    c.top.ensures ∙ ap top (sym over ∙ c.parts.invariant.judged ∙ whole) ∙ judged_tree met c.args.self.now
