use Rattle.ice_state.proofs.SegmentLists.{keeps-trans}
use Rattle.ice_state.proofs.kept.taken.take_manifest.Goals as goal

pub returns-in_err-ordered-in-Ok-clause-keeps : goal.returns-in_err-ordered-in-Ok-clause-keeps
returns-in_err-ordered-in-Ok-clause-keeps g c =
    keeps-trans c.args.entries.now c.begin.new.self c.of_views.new.entries c.begin.ensures.keeps
    c.of_views.ensures.keeps

pub returns-in-Ok-clause-keeps : goal.returns-in-Ok-clause-keeps
returns-in-Ok-clause-keeps g c =
    keeps-trans c.args.entries.now c.begin.new.self c.of_views.new.entries c.begin.ensures.keeps
    c.of_views.ensures.keeps
