use Rattle.ice_state_bytes.proofs.Taken.{read_is_of, taken_of_scan}
use Rattle.ice_state_bytes.proofs.laws.honesty.Goals as goal

pub returns : goal.returns
returns c = record { taken = taken_of_scan; read = read_is_of }
