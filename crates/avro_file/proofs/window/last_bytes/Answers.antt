use Rattle.avro_file.proofs.Windows.{last_found}
use Rattle.avro_file.proofs.window.last_bytes.Goals as goal

pub returns : goal.returns
returns c = last_found c.args.bytes.now c.args.at c.requires
