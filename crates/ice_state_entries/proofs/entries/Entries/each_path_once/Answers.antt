use Rattle.std.proofs.Common.{subst}
use Rattle.ice_state_entries.specs.Kept.{HasEachPathOnce, HasKnownPaths}
use Rattle.ice_state_entries.proofs.Keeping.{paths_once, paths_known}
use Rattle.ice_state_entries.proofs.entries.Entries.each_path_once.Goals as goal

pub returns-clause-once : goal.returns-clause-once
returns-clause-once c =
    let e = c.self.inside in
    subst HasEachPathOnce c.self.view_is (paths_once e.shared e.table c.each_path_once.ensures.own)

pub returns-clause-known : goal.returns-clause-known
returns-clause-known c =
    let e = c.self.inside in
    subst HasKnownPaths c.self.view_is (paths_known e.shared e.table c.each_path_once.ensures.known)
