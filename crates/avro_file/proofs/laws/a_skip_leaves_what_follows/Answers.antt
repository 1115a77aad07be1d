use Rattle.avro_file.proofs.Passed.{built_or_not, what_follows}
use Rattle.avro_file.proofs.laws.a_skip_leaves_what_follows.Goals as goal

pub returns : goal.returns
returns c = record { given = built_or_not; behind = what_follows }
