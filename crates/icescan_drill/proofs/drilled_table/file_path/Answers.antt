use Rattle.std.proofs.Common.{◌∙◌}
use Rattle.icescan_drill.proofs.drilled_table.file_path.Goals as goal

pub returns : goal.returns
returns c = c.from_string.ensures ∙ c.in_ok-path.ensures.ok
