use Rattle.std.proofs.Common.{◌≡◌, map, take}
use Rattle.ice_meta.specs.declared.schema.Column.{Column}
use Rattle.icescan_audit.proofs.subject.column_ids.Given as goal

abbrev pub invariant-columns : goal.invariant-columns
invariant-columns l = l.ids ≡ map (λ (c : Column). c.id) (take l.column-index l.columns)
