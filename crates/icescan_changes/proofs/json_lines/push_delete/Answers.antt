use Rattle.std.proofs.Common.{rules, append_assoc}
use Rattle.std.proofs.lemmas.Result.{IfOk-equal}
use Rattle.icescan_changes.proofs.JsonTexts.{delete_is}
use Rattle.icescan_changes.proofs.json_lines.push_delete.Goals as goal

pub returns : goal.returns
returns c = rw (delete_is c.args.kind c.args.became.now c.args.owner.now c.args.file.now)
    (search (rules, IfOk-equal, append_assoc))
