use Rattle.std.proofs.Common.{◌≡◌, take}
use Rattle.icescan_parts.specs.Told.{file_objects}
use Rattle.icescan_parts.proofs.told.file_objects.Given as goal

-- the objects so far
abbrev pub invariant-lines : goal.invariant-lines
invariant-lines l = l.objects ≡ file_objects (take l.line-index l.lines)
