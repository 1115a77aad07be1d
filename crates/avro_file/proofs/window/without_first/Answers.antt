use Rattle.std.proofs.Common.{arith}
use Rattle.avro_file.proofs.Windows.{all_but_lowest}
use Rattle.avro_file.proofs.window.without_first.Goals as goal

pub returns : goal.returns
returns c i = all_but_lowest c.args.ends i (omega (arith, c.ranges.ends.fits))
