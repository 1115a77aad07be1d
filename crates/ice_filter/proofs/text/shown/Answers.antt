use Rattle.std.proofs.Common.{sym, ap, ◌∙◌}
use Rattle.std.proofs.lemmas.List.{drop_all}
use Rattle.ice_filter.specs.declared.text.Piece.{Piece}
use Rattle.ice_filter.specs.Pieces.{put_all, top}
use Rattle.ice_filter.proofs.Pieced.{pieced}
use Rattle.ice_filter.proofs.text.shown.Goals as goal

pub returns : goal.returns
returns c =
    let over = ap (λ ps. put_all c.parts.pieces ps) (drop_all c.parts.part-index c.args.parts.now c.parts-test.false) in
    ap (λ (p : Piece). p.text) (c.in_ok-piece.ensures.value ∙ ap top (sym over ∙ c.parts.invariant) ∙ pieced
    c.args.parts.now)
