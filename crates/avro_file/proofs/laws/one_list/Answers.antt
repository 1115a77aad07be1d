use Rattle.avro_file.proofs.Once.{one_list}
use Rattle.avro_file.proofs.laws.one_list.Goals as goal

pub returns : goal.returns
returns c = one_list
