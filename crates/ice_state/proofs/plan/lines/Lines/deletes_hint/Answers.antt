use Rattle.std.proofs.Common.{arith, ap, length}
use Rattle.ice_state.specs.Lines.{entries_of}
use Rattle.ice_state.proofs.LinesAt.{length-lines_at}
use Rattle.ice_state.proofs.plan.lines.Lines.deletes_hint.Goals as goal

pub positions-requires : goal.positions-requires
positions-requires c =
    omega (
      arith,
      c.requires,
      ap length c.self.view_is,
      length-lines_at (entries_of c.self.inside.deletes)
          (entries_of c.self.inside.files) c.self.inside.places.now c.self.invariant.lines.each,
    )

pub equalities-requires : goal.equalities-requires
equalities-requires c =
    omega (
      arith,
      c.requires,
      ap length c.self.view_is,
      length-lines_at (entries_of c.self.inside.deletes)
          (entries_of c.self.inside.files) c.self.inside.places.now c.self.invariant.lines.each,
    )
