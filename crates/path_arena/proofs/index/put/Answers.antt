use Rattle.std.proofs.Common.{length, ap, ◌∙◌, sym}
use Rattle.path_arena.specs.declared.index.Link.TheVariants.{Top, Below}
use Rattle.path_arena.specs.Trees.{top_link}
use Rattle.path_arena.proofs.Walks.{put_reached}
use Rattle.path_arena.proofs.index.put.Goals as goal

pub returns-in-Top-clause-reaches : goal.returns-in-Top-clause-reaches
returns-in-Top-clause-reaches c =
    let t = c.args.index.now in let p = c.push_top.ensures in
    put_reached t c.push_top.new.self c.args.bytes.now Top (length t.nodes) c.in-Top.ensures p.kept
    (ap (top_link c.push_top.new.self) (sym c.requires.hash) ∙ p.led)

pub returns-in-Below-clause-reaches : goal.returns-in-Below-clause-reaches
returns-in-Below-clause-reaches c =
    let t = c.args.index.now in let p = c.push_below.ensures in
    put_reached t c.push_below.new.self c.args.bytes.now (Below c.in-Below.id c.in-Below.right) (length t.nodes)
    c.in-Below.ensures p.kept p.led
