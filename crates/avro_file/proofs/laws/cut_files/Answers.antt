use Rattle.avro_file.proofs.CutFiles.{file_cut}
use Rattle.avro_file.proofs.laws.cut_files.Goals as goal

pub returns : goal.returns
returns c = file_cut
