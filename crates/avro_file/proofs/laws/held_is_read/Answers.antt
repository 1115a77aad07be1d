use Rattle.avro_file.proofs.Opened.{file_read, file_held}
use Rattle.avro_file.proofs.laws.held_is_read.Goals as goal

pub returns : goal.returns
returns c = record { read = file_read; only = file_held }
