use Rattle.std.proofs.Common.{◌∙◌, ap, sym}
use Rattle.ice_state.specs.Contents.{content}
use Rattle.ice_state.specs.Joins.{either}
use Rattle.ice_catalog.specs.Taken.{rows_of}
use Rattle.ice_catalog.proofs.Taken.{rows_join}
use Rattle.ice_catalog.proofs.scanning.joined.Goals as goal

pub returns-clause-taken : goal.returns-clause-taken
returns-clause-taken c =
    λ world taken other.
    let scan = c.args.scan.now in
    let united = c.in_ok-united.united in
    let rows = ap rows_of c.in_ok-merge.ensures.ok ∙ rows_join united c.args.other.now in (
      c.merge.ensures.of_scan scan c.in_ok-united.ensures.of_scan,
      c.in_ok-merge.ensures.world world scan (rows_of united) (rows_of c.args.other.now) (c.in_ok-united.ensures.taken
          world taken).1 other.1 ∙ ap (content world scan) (sym rows),
    )

pub returns-clause-set : goal.returns-clause-set
returns-clause-set c =
    ap rows_of c.in_ok-merge.ensures.ok
    ∙ (rows_join c.in_ok-united.united c.args.other.now ∙ ap (λ set. either set (rows_of c.args.other.now))
    c.in_ok-united.ensures.set)
