use Rattle.ice_meta_json.proofs.Filling.{fills_all, fills_once, keeps_filled, others_stay, of_snapshots_stay}
use Rattle.ice_meta_json.proofs.laws.filling_in_adds_what_is_left_out.Goals as goal

pub returns-clause-all : goal.returns-clause-all
returns-clause-all c = fills_all

pub returns-clause-once : goal.returns-clause-once
returns-clause-once c = fills_once

pub returns-clause-filled : goal.returns-clause-filled
returns-clause-filled c = keeps_filled

pub returns-clause-others : goal.returns-clause-others
returns-clause-others c = others_stay

pub returns-clause-snapshots : goal.returns-clause-snapshots
returns-clause-snapshots c = of_snapshots_stay
