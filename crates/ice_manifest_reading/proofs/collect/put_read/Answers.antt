use Rattle.std.proofs.Common.{◌≡◌, ◌++◌, List, OnOk, subst}
use Rattle.ice_manifest_reading.specs.declared.entry.Entry.{Entry}
use Rattle.ice_manifest_reading.proofs.Collected.{kept_if}
use Rattle.ice_manifest_reading.proofs.collect.put_read.Goals as goal

pub returns-clause-gathered : goal.returns-clause-gathered
returns-clause-gathered g c =
    let gathered = g.G.Gather.gathered in
    subst (λ (more : List Entry). OnOk c.gather_if.result (gathered c.gather_if.new.gather
    ≡ gathered c.args.gather.now ++ more))
    (kept_if (g.K.Keep.kept c.args.asked.now.keep.now) c.args.live c.keeps-kept.result c.keeps-kept.ensures)
    c.gather_if.ensures.gathered
