use Rattle.ice_state.specs.Segments.{entries_at}
use Rattle.ice_state.proofs.Gaps.{share_back}
use Rattle.ice_state.proofs.finish.apart.are_apart.Goals as goal

pub returns-then-files-others : goal.returns-then-files-others
returns-then-files-others c = λ t.
    let kept = c.args.entries.now in
    share_back (entries_at kept c.args.others.now) (entries_at kept c.args.files.now) (c.are_in_gaps.ensures t)
