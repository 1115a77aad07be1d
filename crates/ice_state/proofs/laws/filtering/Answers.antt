use Rattle.ice_state.proofs.Filtered.{of_same_partition, open_of, sound_of}
use Rattle.ice_state.proofs.Planned.{applies-decides}
use Rattle.ice_state.proofs.Pruned.{kept_together}
use Rattle.ice_state.specs.Pruning.{pruner_of}
use Rattle.ice_state.proofs.laws.filtering.Goals as goal

pub returns : goal.returns
returns c =
    let opens = open_of c.projections_of_unpartitioned_specs.ensures.open in
    record {
      same_partition = of_same_partition c.projections_of_same_tuples.ensures;
      open_where_unpartitioned = opens;
      deletes = λ filter specs x l says applies met. kept_together specs (pruner_of filter specs) (opens filter specs) x
          l says met ((applies-decides x l.entry).1 applies);
      sound = sound_of c.summary_soundness.ensures;
    }
