use Rattle.std.proofs.Common.{◌∙◌}
use Rattle.ice_state_entries.proofs.Keeping.{one_read}
use Rattle.ice_state_entries.proofs.entries.Entries.add_read.Goals as goal

pub views-preserved : goal.views-preserved
views-preserved c =
    let l = c.views in
    one_read c.args.self.now l.self c.add.new.self c.args.views.now l.view-index l.numbers.items c.push.new.self.items
    c.in_ok-add.field-0 c.view-item.result l.invariant c.in_ok-add.ensures.keeps c.in_ok-add.ensures.kept
    (c.in_ok-add.ensures.ok ∙ c.lent.ensures.same) c.views-test.true c.view-item.is c.in_ok-push.ensures.items
