use Rattle.std.proofs.Common.{◌∙◌, arith, sym, ap, length, List}
use Rattle.std.specs.List.{slice_get}
use Rattle.ice_state.specs.Segments.{entry_at}
use Rattle.ice_state.specs.Lines.{OwnedLine, entries_of}
use Rattle.ice_state.specs.PlaceLists.{LinePlaces}
use Rattle.ice_state.proofs.LinesAt.{length-lines_at, lines_at-get, line_within-at}
use Rattle.ice_state.proofs.PlaceTables.{line_of_parts}
use Rattle.ice_state.proofs.plan.lines.Lines.line.Goals as goal

pub number-requires-clause-kept : goal.number-requires-clause-kept
number-requires-clause-kept c = c.self.invariant.files

pub number-requires-clause-within : goal.number-requires-clause-within
number-requires-clause-within c =
    omega (
      arith,
      c.requires,
      ap length c.self.view_is,
      length-lines_at (entries_of c.self.inside.deletes)
          (entries_of c.self.inside.files) c.self.inside.places.now c.self.invariant.lines.each,
      c.self.invariant.lines.each,
    )

pub positions-requires : goal.positions-requires
positions-requires c =
    omega (
      arith,
      c.requires,
      ap length c.self.view_is,
      length-lines_at (entries_of c.self.inside.deletes)
          (entries_of c.self.inside.files) c.self.inside.places.now c.self.invariant.lines.each,
    )

pub equalities-requires : goal.equalities-requires
equalities-requires c =
    omega (
      arith,
      c.requires,
      ap length c.self.view_is,
      length-lines_at (entries_of c.self.inside.deletes)
          (entries_of c.self.inside.files) c.self.inside.places.now c.self.invariant.lines.each,
    )

pub invariant_of-result : goal.invariant_of-result
invariant_of-result c =
    let line : LinePlaces = record { positions = c.positions.result.now; equalities = c.equalities.result.now } in
    let at = line_of_parts c.self.inside.places.now c.args.i line.positions line.equalities c.positions.ensures
    c.equalities.ensures in
    record {
      kept = c.number.ensures.kept;
      deletes = c.self.invariant.deletes;
      within = line_within-at (length (entries_of c.self.inside.deletes)) c.self.inside.places.now c.args.i line
          c.self.invariant.lines.within at;
    }

pub returns : goal.returns
returns c =
    let line : LinePlaces = record { positions = c.positions.result.now; equalities = c.equalities.result.now } in
    let at = line_of_parts c.self.inside.places.now c.args.i line.positions line.equalities c.positions.ensures
    c.equalities.ensures in
    ap (λ (ls : List OwnedLine). slice_get ls c.args.i) (sym c.self.view_is)
    ∙ lines_at-get (entries_of c.self.inside.deletes) (entries_of c.self.inside.files) c.self.inside.places.now c.args.i
    (entry_at c.self.inside.files.entries.now c.number.result) line c.number.ensures.at at
