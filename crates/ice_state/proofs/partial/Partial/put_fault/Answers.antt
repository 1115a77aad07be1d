use Rattle.std.proofs.Common.{◌∙◌, sym}
use Rattle.ice_state.specs.Readings.{Bad}
use Rattle.ice_state.proofs.Taking.{taken_row_stays}
use Rattle.ice_state.proofs.partial.Partial.put_fault.Goals as goal

pub returns-then-is_taken-clause-row : goal.returns-then-is_taken-clause-row
returns-then-is_taken-clause-row c =
    taken_row_stays c.args.self.now c.args.i (Bad c.args.fault) (sym c.is_taken.ensures ∙ c.if-is_taken.true)
