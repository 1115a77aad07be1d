use Rattle.std.proofs.Common.{◌≡◌, Some, drop}
use Rattle.avro_file_picked.specs.Guides.{is_on}
use Rattle.avro_file_picked.proofs.guide.is_on.Given as goal

abbrev pub invariant-field_path : goal.invariant-field_path
invariant-field_path l = is_on (drop l.passed-index l.field_path) (Some l.id) ≡ is_on l.field_path (Some l.id)
