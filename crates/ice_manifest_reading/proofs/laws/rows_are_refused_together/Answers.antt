use Rattle.ice_manifest_reading.proofs.Whole.{refuses_a_path_exactly, refuses_many_exactly}
use Rattle.ice_manifest_reading.proofs.laws.rows_are_refused_together.Goals as goal

pub returns : goal.returns
returns c = record { path = refuses_a_path_exactly; many = refuses_many_exactly }
