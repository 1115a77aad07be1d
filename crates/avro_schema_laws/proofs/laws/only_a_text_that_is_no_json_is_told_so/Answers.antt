use Rattle.avro_schema_laws.proofs.Telling.{schema_no_json}
use Rattle.avro_schema_laws.proofs.laws.only_a_text_that_is_no_json_is_told_so.Goals as goal

pub returns : goal.returns
returns c = schema_no_json
