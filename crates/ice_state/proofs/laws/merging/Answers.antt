use Rattle.ice_state.proofs.Joins.{join-assoc, join-idem, join-comm, content-agree, join-content}
use Rattle.ice_state.proofs.laws.merging.Goals as goal

pub returns : goal.returns
returns c =
    record {
      associative = join-assoc;
      idempotent = join-idem;
      commutative = join-comm;
      one_world = λ world scan ts us. content-agree world scan ts us scan.wanted;
      united = λ world scan ts us. join-content world scan ts us scan.wanted;
    }
