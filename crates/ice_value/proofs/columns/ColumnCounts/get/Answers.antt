use Rattle.std.proofs.Common.{◌∙◌, w32, rules}
use Rattle.std.proofs.lemmas.Int.{to_z-of_z}
use Rattle.ice_value.proofs.Pairs.{last_count}
use Rattle.ice_value.specs.Pairs.{pairs_in}
use Rattle.ice_value.proofs.columns.ColumnCounts.get.Goals as goal

pub returns : goal.returns
returns c =
    rw (← c.self.view_is, ← last_count c.args.column (pairs_in c.self.inside.pairs))
    (c.copied.ensures ∙ rw (to_z-of_z w32 c.args.column (search rules), c.as_slice.ensures) at c.find_last.ensures)
