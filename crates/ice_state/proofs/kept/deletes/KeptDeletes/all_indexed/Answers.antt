use Rattle.ice_state.proofs.kept.deletes.KeptDeletes.all_indexed.Goals as goal

pub returns : goal.returns
returns c = λ xs are. c.of_index.ensures c.args.entries.now xs (c.in_ok-into_index.ensures xs are)
