use Rattle.avro_file.proofs.Few.{few_ahead}
use Rattle.avro_file.proofs.laws.objects_take_bytes.Goals as goal

pub returns : goal.returns
returns c = few_ahead
