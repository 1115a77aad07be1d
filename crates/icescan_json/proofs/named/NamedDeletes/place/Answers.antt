use Rattle.std.proofs.Common.{◌≡◌, ◌∙◌, List, ℕ, ap, arith, get_or, length}
use Rattle.icescan_json.specs.Named.{rank}
use Rattle.icescan_json.proofs.Marks.{length_ranks, rank_there}
use Rattle.icescan_json.proofs.named.NamedDeletes.place.Goals as goal

pub index-requires : goal.index-requires
index-requires c =
    let marks = c.self.inside.marks in
    let ranks = c.self.inside.ranks in
    let many : length ranks.items ≡ length marks.items = ap length c.self.invariant ∙ length_ranks 0 marks.items in
    omega (arith, c.requires, ap length c.self.view_is, many, ranks.ok.0)

pub returns : goal.returns
returns c =
    let marks = c.self.inside.marks in
    let n = c.args.n in
    let result = c.index.result.now in
    c.index.ensures ∙ ap (λ (ranks : List ℕ). get_or ranks n result) c.self.invariant
    ∙ rank_there marks.items n result (omega (arith, c.requires, ap length c.self.view_is))
    ∙ ap (λ marks. rank marks n) c.self.view_is
