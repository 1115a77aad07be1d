use Rattle.std.proofs.Common.{◌≡◌, [], drop}
use Rattle.icescan_json.specs.ExpressionTexts.{put_all}
use Rattle.icescan_json.proofs.expressions.filter_text.Given as goal

-- the texts so far after the other parts
abbrev pub invariant-parts : goal.invariant-parts
invariant-parts l = put_all l.schema l.waiting (drop l.part-index l.part-items) ≡ put_all l.schema [] l.part-items
