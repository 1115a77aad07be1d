use Rattle.std.proofs.Common.{◌≡◌, take}
use Rattle.icescan_requests.proofs.copies.copied_specs.Given as goal

abbrev pub invariant-specs : goal.invariant-specs
invariant-specs l = l.copied ≡ take l.spec-index l.specs
