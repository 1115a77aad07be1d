use Rattle.avro_file.proofs.Fronts.{file_front}
use Rattle.avro_file.proofs.laws.before_a_fault.Goals as goal

pub returns : goal.returns
returns c = file_front
