use Rattle.std.proofs.Common.{subst}
use Rattle.ice_state_entries.specs.Tables.{HasOwnPaths, HasKnownPaths}
use Rattle.ice_state_entries.proofs.Rows.{own_paths, known_paths}
use Rattle.ice_state_entries.proofs.table.Table.each_path_once.Goals as goal

pub returns-clause-own : goal.returns-clause-own
returns-clause-own c =
    let t = c.self.inside in
    subst HasOwnPaths c.self.view_is
    (own_paths t.paths t.records.items t.clashes.items c.self.invariant.as_many c.len.ensures.distinct)

pub returns-clause-known : goal.returns-clause-known
returns-clause-known c =
    let t = c.self.inside in
    subst HasKnownPaths c.self.view_is (known_paths t.paths t.records.items t.clashes.items c.self.invariant)
