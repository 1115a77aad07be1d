use Rattle.std.proofs.Common.{length, ap, arith}
use Rattle.std.proofs.lemmas.List.{length-map}
use Rattle.ice_state_entries.specs.declared.table.Clash.{Clash}
use Rattle.path_arena.specs.Arena.{string}
use Rattle.ice_state_entries.specs.Own.{Row}
use Rattle.ice_state_entries.specs.Tables.{Rows}
use Rattle.ice_state_entries.proofs.Rows.{length-with_paths}
use Rattle.ice_state_entries.proofs.table.Table.len.Goals as goal

pub returns : goal.returns
returns c =
    let t = c.self.inside in
    let of_clash : Clash → Row = λ d. (string t.paths d.path, d.own) in
    omega (
      arith,
      length-with_paths t.paths t.records.items c.self.invariant.as_many,
      length-map t.clashes.items of_clash,
      ap (λ (rows : Rows). length rows.records) c.self.view_is,
      ap (λ (rows : Rows). length rows.clashes) c.self.view_is,
    )
