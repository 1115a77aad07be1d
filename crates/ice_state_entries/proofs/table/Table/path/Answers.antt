use Rattle.std.proofs.Common.{◌<◌, length, sym, ap, subst, ◌∙◌, arith}
use Rattle.path_arena.specs.Arena.{string}
use Rattle.ice_state_entries.specs.declared.entries.EntryNumber.TheVariants.{Record as First}
use Rattle.ice_state_entries.specs.Own.{Row}
use Rattle.ice_state_entries.specs.Tables.{IsIn, row_at, no_row, Rows}
use Rattle.ice_state_entries.proofs.Rows.{length-with_paths, with_paths-at}
use Rattle.ice_state_entries.proofs.table.Table.path.Goals as goal

pub get-requires : goal.get-requires
get-requires c =
    let t = c.self.inside in
    let within = subst (IsIn c.args.self.now) c.in-Record.is c.requires in
    omega (
      arith,
      within,
      c.new.ensures,
      c.self.invariant.as_many,
      length-with_paths t.paths t.records.items c.self.invariant.as_many,
      ap (λ (rows : Rows). length rows.records) c.self.view_is,
    )

pub returns-in-Record-clause-same : goal.returns-in-Record-clause-same
returns-in-Record-clause-same c =
    let t = c.self.inside in let n = c.in-Record.number in let many = c.self.invariant.as_many in
    let within = subst (IsIn c.args.self.now) c.in-Record.is c.requires in
    let lt : n < length t.records.items = omega (
      arith,
      within,
      length-with_paths t.paths t.records.items many,
      ap (λ (rows : Rows). length rows.records) c.self.view_is,
    ) in
    c.get.ensures.same ∙ ap (string t.paths) c.new.ensures
    ∙ sym (ap (λ (row : Row). row.0) (with_paths-at t.paths t.records.items n no_row.1 many lt))
    ∙ ap (λ rows. (row_at rows (First n)).0) c.self.view_is
    ∙ ap (λ number. (row_at c.args.self.now number).0) (sym c.in-Record.is)
