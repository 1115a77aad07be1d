use Rattle.std.proofs.Common.{◌≡◌, sym, ap, ◌∙◌}
use Rattle.std.proofs.lemmas.List.{drop_all}
use Rattle.ice_filter.specs.Trees.{tree_of}
use Rattle.icescan_json.specs.ExpressionTexts.{put_all, top}
use Rattle.icescan_json.proofs.Joined.{joined, text_of}
use Rattle.icescan_json.proofs.expressions.filter_text.Goals as goal

pub returns : goal.returns
returns c =
    let items = c.as_slice-part-items.result.now in
    let same : items ≡ c.args.filter.now = c.as_slice-part-items.ensures.parts ∙ c.parts-2.ensures in
    let over = ap (λ ps. put_all c.args.schema.now c.parts.waiting ps)
    (drop_all c.parts.part-index items c.parts-test.false) in
    let is = ap top (sym over ∙ c.parts.invariant) ∙ joined c.args.schema.now items
    ∙ ap (λ ps. text_of c.args.schema.now (tree_of ps)) same in
    rw is at c.pop.ensures.value
