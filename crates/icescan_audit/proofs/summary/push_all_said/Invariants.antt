use Rattle.std.proofs.Common.{◌≡◌, ◌++◌, take}
use Rattle.std.specs.List.{flat_map}
use Rattle.serde_json.specs.View.{view}
use Rattle.icescan_audit.specs.Summaries.{said_in}
use Rattle.icescan_audit.proofs.summary.push_all_said.Given as goal

abbrev pub invariant-totals : goal.invariant-totals
invariant-totals l = l.said ≡ l.fn.said ++ flat_map (said_in (view l.summary)) (take l.total-index l.which)
