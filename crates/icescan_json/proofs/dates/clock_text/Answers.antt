use Rattle.std.proofs.Common.{refl}
use Rattle.icescan_json.specs.Dates.{time_text}
use Rattle.icescan_json.proofs.dates.clock_text.Goals as goal

pub returns : goal.returns
unfolding time_text
returns c = rw c.time_text.ensures refl
