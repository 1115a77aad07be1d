use Rattle.std.proofs.Common.{◌∙◌}
use Rattle.ice_state_entries.specs.declared.entries.EntryNumber.TheVariants.{Record as First}
use Rattle.ice_state_entries.proofs.Keeping.{one_kept}
use Rattle.ice_state_entries.proofs.entries.Entries.add_kept.Goals as goal

pub numbers-preserved : goal.numbers-preserved
numbers-preserved c =
    let l = c.numbers in
    one_kept c.args.self.now l.self c.add.new.self c.args.others.now c.args.numbers.now l.number-index (First 0)
    l.added.items c.push.new.self.items c.in_ok-add.field-0 l.invariant c.in_ok-add.ensures.keeps
    c.in_ok-add.ensures.kept (c.in_ok-add.ensures.ok ∙ c.entry.ensures.same) c.numbers-test.true
    c.in_ok-push.ensures.items
