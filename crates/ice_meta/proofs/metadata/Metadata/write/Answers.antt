use Rattle.ice_meta.proofs.Committed.{reads_as}
use Rattle.ice_meta.proofs.metadata.Metadata.write.Goals as goal

pub returns-clause-read_back : goal.returns-clause-read_back
returns-clause-read_back c =
    let m = c.args.self.now in
    reads_as _ _ m.table c.in_ok-text.ensures.utf8 (c.in_ok-text.ensures.reads_back m.nests) m.object m.filled m.says
