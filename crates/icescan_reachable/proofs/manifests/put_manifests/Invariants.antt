use Rattle.std.proofs.Common.{ℕ, List, drop}
use Rattle.std.specs.Prelude.{option_map}
use Rattle.icescan_reachable.specs.Given.{AreManifestsBehind, IsHeld}
use Rattle.icescan_reachable.proofs.manifests.put_manifests.Given as goal

-- the bytes are those of the row before, and the lines of what is left come behind those so far
abbrev pub invariant-rows : goal.invariant-rows
invariant-rows g l = IsHeld (g.F.Files.gives l.files) (option_map (λ r. r.now) l.before) l.bytes.items
    × ((all : List (List ℕ))
    → AreManifestsBehind (g.F.Files.gives l.files) l.lines.items (drop l.row-index l.rows) all
    → AreManifestsBehind (g.F.Files.gives l.files) l.fn.lines.items l.rows all)
