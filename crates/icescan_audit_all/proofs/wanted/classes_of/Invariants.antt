use Rattle.std.specs.List.{All}
use Rattle.ice_meta.specs.Targets.{described}
use Rattle.icescan_audit_all.specs.Snapshots.{IsClass}
use Rattle.icescan_audit_all.proofs.wanted.classes_of.Given as goal

abbrev pub invariant-listed : goal.invariant-listed
invariant-listed l = All (IsClass (described l.metadata.json l.metadata.table)) l.classes.items
