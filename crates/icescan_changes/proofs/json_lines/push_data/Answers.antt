use Rattle.std.proofs.Common.{rules, append_assoc}
use Rattle.std.proofs.lemmas.Result.{IfOk-equal}
use Rattle.icescan_changes.proofs.JsonTexts.{data_is}
use Rattle.icescan_changes.proofs.json_lines.push_data.Goals as goal

pub returns : goal.returns
returns c = rw (data_is c.args.became.now c.args.file.now) (search (rules, IfOk-equal, append_assoc))
