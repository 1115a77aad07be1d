use Rattle.ice_state_envelopes.proofs.Bodies.{body_union}
use Rattle.ice_state_envelopes.proofs.Joins.{joined-assoc, joined-idem, joined-comm}
use Rattle.ice_state_envelopes.proofs.laws.joins_are_unions.Goals as goal

pub returns : goal.returns
returns c = record {
  bodies = λ end row ps qs a b. body_union 0 end row ps qs a b;
  associative = joined-assoc;
  idempotent = joined-idem;
  commutative = joined-comm;
}
