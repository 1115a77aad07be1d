use Rattle.ice_filter_laws.proofs.FirstFault.{binds_sound_predicates, tells_the_first}
use Rattle.ice_filter_laws.proofs.Ordered.{has_its_predicates_in_order}
use Rattle.ice_filter_laws.proofs.faults.bind_refuses_the_first_predicate_at_fault.Goals as goal

pub returns : goal.returns
returns c = record { told = tells_the_first; bound = binds_sound_predicates; order = has_its_predicates_in_order }
