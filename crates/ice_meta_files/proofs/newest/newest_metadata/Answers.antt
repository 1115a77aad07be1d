use Rattle.ice_meta_files.proofs.Climbing.{newest_by_hint}
use Rattle.ice_meta_files.proofs.Highest.{newest_is_highest}
use Rattle.ice_meta_files.proofs.newest.newest_metadata.Goals as goal

pub returns-clause-highest : goal.returns-clause-highest
returns-clause-highest c = newest_is_highest c.args.names.now c.args.hint _ c.in_ok-name.ensures

pub returns-clause-by_hint : goal.returns-clause-by_hint
returns-clause-by_hint c = newest_by_hint c.args.names.now c.args.hint _ c.in_ok-name.ensures
