use Rattle.avro_file_laws.proofs.Files.{opening, objects}
use Rattle.avro_file_laws.proofs.laws.each_fault_stands_where_it_is.Goals as goal

pub returns : goal.returns
returns c = record { opening = opening; objects = objects }
