use Rattle.std.proofs.Common.{◌∙◌, ◌<◌, arith, sym, ap, length, List}
use Rattle.std.specs.List.{slice_get}
use Rattle.ice_manifest_reading.specs.Lending.{lent}
use Rattle.ice_manifest_reading.specs.declared.entry.Entry.{Entry}
use Rattle.ice_state.specs.Lines.{entries_of}
use Rattle.ice_state.proofs.LinesAt.{length-entries_at, entries_at-get}
use Rattle.ice_state.proofs.plan.lines.PlanFiles.file.Goals as goal

pub bounds-self-inside-i : goal.bounds-self-inside-i
bounds-self-inside-i c = omega (
  arith,
  c.requires,
  ap length c.self.view_is,
  length-entries_at
      (entries_of c.self.inside.files) c.self.inside.places.now c.self.invariant.within,
)

pub offset_bounds-self-inside-i : goal.offset_bounds-self-inside-i
offset_bounds-self-inside-i c =
    let l : c.args.i < length c.self.inside.places.now = omega (
      arith,
      c.requires,
      ap length c.self.view_is,
      length-entries_at (entries_of c.self.inside.files) c.self.inside.places.now c.self.invariant.within,
    ) in
    omega (arith, l, c.self.told.1)

pub returns : goal.returns
returns c =
    let l : c.args.i < length c.self.inside.places.now = omega (
      arith,
      c.requires,
      ap length c.self.view_is,
      length-entries_at (entries_of c.self.inside.files) c.self.inside.places.now c.self.invariant.within,
    ) in
    ap (λ (xs : List Entry). slice_get xs c.args.i) (sym c.self.view_is)
    ∙ entries_at-get (entries_of c.self.inside.files) c.self.inside.places.now c.args.i 0 (lent c.entry.result)
    c.self.invariant.within l c.entry.ensures
