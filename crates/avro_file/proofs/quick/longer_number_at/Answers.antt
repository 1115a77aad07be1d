use Rattle.avro_file.proofs.Places.{number_ends}
use Rattle.avro_file.proofs.quick.longer_number_at.Goals as goal

pub overflow_sub-result : goal.overflow_sub-result
overflow_sub-result c = (number_ends c.args.bytes.now c.args.at c.in-Ok.value c.in-Ok.rest.now c.in-Ok.ensures).0

pub returns-in-Ok : goal.returns-in-Ok
returns-in-Ok c = λ some. (number_ends c.args.bytes.now c.args.at c.in-Ok.value c.in-Ok.rest.now c.in-Ok.ensures).1
