use Rattle.std.proofs.Common.{rules, append_assoc}
use Rattle.std.proofs.lemmas.Result.{IfOk-equal}
use Rattle.icescan_changes.specs.JsonPieces.{data_numbers}
use Rattle.icescan_changes.proofs.json_lines.put_data_numbers.Goals as goal

pub returns : goal.returns
unfolding data_numbers
returns c = search (rules, IfOk-equal, append_assoc)
