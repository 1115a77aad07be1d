use Rattle.std.proofs.Common.{◌≡◌, take}
use Rattle.icescan_requests.proofs.copies.copied_spec.Given as goal

abbrev pub invariant-fields : goal.invariant-fields
invariant-fields l = l.fields ≡ take l.field-index l.of_spec
