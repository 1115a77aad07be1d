use Rattle.std.proofs.Common.{arith}
use Rattle.ice_meta.proofs.Steps.{no_level, one_level}
use Rattle.ice_meta.proofs.columns.+columns.Goals as goal

pub inside_of-returns-then-levels-eq0 : goal.inside_of-returns-then-levels-eq0
inside_of-returns-then-levels-eq0 t c = λ _. no_level c.args.levels c.args.place _ c.args.columns c.if-levels-eq0.true

pub inside_of-returns : goal.inside_of-returns
inside_of-returns t c = rw (one_level c.args.levels c.args.place _ c.args.columns (omega arith)) c.object_of.ensures
