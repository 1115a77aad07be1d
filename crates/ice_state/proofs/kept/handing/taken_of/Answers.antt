use Rattle.std.proofs.Common.{subst, sym}
use Rattle.ice_state_entries.specs.Kept.{AreKept, Kept}
use Rattle.ice_state.proofs.SegmentLists.{keeps-trans}
use Rattle.ice_state.proofs.kept.handing.taken_of.Goals as goal

pub returns-in_err-numbers-clause-keeps : goal.returns-in_err-numbers-clause-keeps
returns-in_err-numbers-clause-keeps c =
    keeps-trans c.args.entries.now c.begin.new.self c.add_all.new.entries c.begin.ensures.keeps c.add_all.ensures.keeps

pub new-requires : goal.new-requires
new-requires c =
    subst (λ (one : Kept). AreKept one c.in_ok-numbers.numbers.items) (sym c.segment.ensures)
    c.in_ok-numbers.ensures.kept

pub returns-in_err-new-clause-keeps : goal.returns-in_err-new-clause-keeps
returns-in_err-new-clause-keeps c =
    keeps-trans c.args.entries.now c.begin.new.self c.add_all.new.entries c.begin.ensures.keeps c.add_all.ensures.keeps

pub returns-clause-keeps : goal.returns-clause-keeps
returns-clause-keeps c =
    keeps-trans c.args.entries.now c.begin.new.self c.add_all.new.entries c.begin.ensures.keeps c.add_all.ensures.keeps
