use Rattle.avro_file.proofs.Unlimited.{no_item_limit}
use Rattle.avro_file.proofs.laws.no_item_limit.Goals as goal

pub returns : goal.returns
returns c = no_item_limit
