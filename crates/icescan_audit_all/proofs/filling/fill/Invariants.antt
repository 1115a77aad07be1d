use Rattle.std.specs.List.{All}
use Rattle.std.specs.Prelude.{option_map}
use Rattle.ice_meta.specs.Targets.{Described}
use Rattle.icescan_reachable.specs.Given.{IsHeld}
use Rattle.icescan_audit_all.specs.Snapshots.{IsClass, IsKept}
use Rattle.icescan_audit_all.proofs.filling.fill.Given as goal

-- the bytes are those of the row before
abbrev pub invariant-wants : goal.invariant-wants
invariant-wants g l = record {
  held : IsHeld (g.F.Files.gives l.files) (option_map (λ r. r.now) l.before) l.bytes.items;
  kept : (d : Described) → All (IsClass d) l.classes → All (IsKept (g.F.Files.gives l.files) d) l.kept.items;
}
