use Rattle.std.proofs.Common.{◌<◌, length, sym, ap, subst, ◌∙◌, arith}
use Rattle.ice_state_entries.specs.declared.entries.EntryNumber.TheVariants.{Record as First}
use Rattle.ice_state_entries.specs.Own.{Row}
use Rattle.ice_state_entries.specs.Tables.{IsIn, row_at, Rows}
use Rattle.ice_state_entries.proofs.Rows.{length-with_paths, with_paths-at}
use Rattle.ice_state_entries.proofs.table.Table.record.Goals as goal

pub index-requires : goal.index-requires
index-requires c =
    let t = c.self.inside in
    let within = subst (IsIn c.args.self.now) c.in-Record.is c.requires in
    omega (
      arith,
      within,
      length-with_paths t.paths t.records.items c.self.invariant.as_many,
      ap (λ (rows : Rows). length rows.records) c.self.view_is,
    )

pub returns-in-Record : goal.returns-in-Record
returns-in-Record c =
    let t = c.self.inside in let n = c.in-Record.number in let many = c.self.invariant.as_many in
    let within = subst (IsIn c.args.self.now) c.in-Record.is c.requires in
    let lt : n < length t.records.items = omega (
      arith,
      within,
      length-with_paths t.paths t.records.items many,
      ap (λ (rows : Rows). length rows.records) c.self.view_is,
    ) in
    c.index.ensures
    ∙ sym (ap (λ (row : Row). row.1) (with_paths-at t.paths t.records.items n c.index.result.now many lt))
    ∙ ap (λ rows. (row_at rows (First n)).1) c.self.view_is
    ∙ ap (λ number. (row_at c.args.self.now number).1) (sym c.in-Record.is)
