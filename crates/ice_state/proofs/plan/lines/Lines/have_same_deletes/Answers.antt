use Rattle.std.proofs.Common.{arith, ap, length, ◌≡◌, ◌∙◌, sym}
use Rattle.std.specs.Cmp.Lexicographic.{same_text}
use Rattle.ice_state.specs.Lines.{entries_of, deletes_at, lines_at}
use Rattle.ice_state.proofs.LinesAt.{length-lines_at, deletes_there}
use Rattle.ice_state.proofs.PlaceTables.{line_of_parts}
use Rattle.ice_state.proofs.plan.lines.Lines.have_same_deletes.Goals as goal

pub positions-requires : goal.positions-requires
positions-requires c =
    omega (
      arith,
      c.requires.first,
      ap length c.self.view_is,
      length-lines_at (entries_of c.self.inside.deletes)
          (entries_of c.self.inside.files) c.self.inside.places.now c.self.invariant.lines.each,
    )

pub positions-requires-2 : goal.positions-requires-2
positions-requires-2 c =
    omega (
      arith,
      c.requires.second,
      ap length c.self.view_is,
      length-lines_at (entries_of c.self.inside.deletes)
          (entries_of c.self.inside.files) c.self.inside.places.now c.self.invariant.lines.each,
    )

pub equalities-requires : goal.equalities-requires
equalities-requires c =
    omega (
      arith,
      c.requires.first,
      ap length c.self.view_is,
      length-lines_at (entries_of c.self.inside.deletes)
          (entries_of c.self.inside.files) c.self.inside.places.now c.self.invariant.lines.each,
    )

pub equalities-requires-then-eq : goal.equalities-requires-then-eq
equalities-requires-then-eq c =
    omega (
      arith,
      c.requires.second,
      ap length c.self.view_is,
      length-lines_at (entries_of c.self.inside.deletes)
          (entries_of c.self.inside.files) c.self.inside.places.now c.self.invariant.lines.each,
    )

pub returns-then-eq : goal.returns-then-eq
returns-then-eq c same =
    let ds = entries_of c.self.inside.deletes in
    let fs = entries_of c.self.inside.files in
    let ps = c.self.inside.places.now in
    let a = c.positions.result.now in
    let b = c.equalities.result.now in
    let positions : a ≡ c.positions-2.result.now = same_text _ _ c.if-eq.ensures in
    let equalities : b ≡ c.equalities-then-eq.result.now = same_text _ _ (sym same ∙ c.eq-then-eq.ensures) in
    let there : deletes_at (lines_at ds fs ps) c.args.i ≡ deletes_at (lines_at ds fs ps) c.args.j =
    deletes_there ds fs ps c.args.i (record { positions = a; equalities = b }) c.self.invariant.lines.each
    (line_of_parts ps c.args.i a b c.positions.ensures c.equalities.ensures)
    ∙ sym (deletes_there ds fs ps c.args.j (record { positions = a; equalities = b }) c.self.invariant.lines.each
    (line_of_parts ps c.args.j a b (rw positions c.positions-2.ensures) (rw equalities c.equalities-then-eq.ensures)))
    in
    rw c.self.view_is at there
