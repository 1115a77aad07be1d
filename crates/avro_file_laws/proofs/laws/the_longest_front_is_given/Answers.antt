use Rattle.avro_file_laws.proofs.Longest.{opens, longest}
use Rattle.avro_file_laws.proofs.laws.the_longest_front_is_given.Goals as goal

pub returns : goal.returns
returns c = record { opened = opens; given = longest }
