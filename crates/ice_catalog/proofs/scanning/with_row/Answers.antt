use Rattle.std.proofs.Common.{◌∙◌, ap, sym}
use Rattle.ice_state.specs.Contents.{add, content}
use Rattle.ice_catalog.specs.Taken.{rows_of}
use Rattle.ice_catalog.proofs.Taken.{rows_took}
use Rattle.ice_catalog.proofs.scanning.with_row.Goals as goal

pub returns-clause-taken : goal.returns-clause-taken
returns-clause-taken c =
    λ world has taken.
    let scan = c.args.scan.now in
    let more = c.in_ok-more.more in
    let rows = ap rows_of c.in_ok-take.ensures.ok ∙ rows_took scan more c.args.i c.args.bytes.now
    c.in_ok-more.ensures.of_scan in (
      c.take.ensures.of_scan,
      c.in_ok-take.ensures.world world (rows_of more) (c.in_ok-more.ensures.taken world taken).1
          has ∙ ap (content world scan) (sym rows),
    )

pub returns-clause-set : goal.returns-clause-set
returns-clause-set c =
    let scan = c.args.scan.now in
    ap rows_of c.in_ok-take.ensures.ok
    ∙ (rows_took scan c.in_ok-more.more c.args.i c.args.bytes.now c.in_ok-more.ensures.of_scan ∙ ap
    (λ set. add set c.args.i) c.in_ok-more.ensures.set)
